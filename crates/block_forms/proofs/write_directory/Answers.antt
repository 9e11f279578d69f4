-- `block_forms::write_directory` meets its contract: the block is spelled in zeros and copied out whole.
use Rattle.basics.proofs.Kit.{ap, ◌∙◌, List, ℕ, length, take_all, arith}
use Rattle.block_forms.specs.Block.{directory, encode_block}
use Rattle.block_forms.proofs.write_directory.Goals as goal

pub returns : goal.returns
returns c = let p = c.spell_directory in
    let es : List ℕ = c.args.entries.now in
    c.copy_out.ensures ∙ p.ensures ∙ ap (λ (k : List ℕ). encode_block (directory c.args.level k)) (take_all (length es) es (omega arith))
