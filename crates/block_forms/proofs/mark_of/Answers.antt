-- `block_forms::mark_of` meets its contract: the mark's bit is the second from above.
use Rattle.basics.proofs.Kit.{refl}
use Rattle.block_forms.specs.Decode.{read_mark}
use Rattle.block_forms.proofs.mark_of.Goals as goal

pub returns : goal.returns
unfolding read_mark
returns c = refl
