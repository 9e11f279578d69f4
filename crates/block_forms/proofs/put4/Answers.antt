-- `block_forms::put4` meets its contract: the number's bytes are put over four of the block's (`put_over`).
use Rattle.basics.proofs.Kit.{◌∙◌, arith}
use Rattle.basics.proofs.Overs.{put_over}
use Rattle.block_forms.specs.Numbers.{be4}
use Rattle.block_forms.proofs.put4.Goals as goal

pub returns : goal.returns
unfolding be4
returns c = put_over _ _ _ (c.copy_from_slice.ensures.after ∙ c.to_be_bytes.ensures) (omega arith)
