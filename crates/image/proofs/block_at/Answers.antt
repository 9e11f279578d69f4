-- `image::block_at` meets its contract: the part that is copied is the block.
use Rattle.basics.proofs.Kit.{◌≡◌, ◌∙◌, ◌+◌, ◌*◌, ◌-◌, arith}
use Rattle.block_forms.specs.Limits.{block_size}
use Rattle.image.specs.View.{block_at}
use Rattle.image.proofs.block_at.Goals as goal

pub returns : goal.returns
unfolding block_at
returns c = let z : block_size * c.args.e + block_size - block_size * c.args.e ≡ block_size = omega arith in c.copy_from_slice.ensures.after ∙ rw z
