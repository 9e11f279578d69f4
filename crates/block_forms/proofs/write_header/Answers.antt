-- `block_forms::write_header` meets its contract: the block is spelled in zeros and copied out whole.
use Rattle.basics.proofs.Kit.{◌∙◌}
use Rattle.block_forms.proofs.write_header.Goals as goal

pub returns : goal.returns
returns c = c.copy_out.ensures ∙ c.spell_header.ensures
