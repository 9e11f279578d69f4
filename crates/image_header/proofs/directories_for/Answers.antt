-- `image_header::directories_for` meets its contract, by the definition, since no sum is too large.
use Rattle.basics.proofs.Kit.{refl, arith}
use Rattle.image_header.specs.Names.{directories_for}
use Rattle.image_header.proofs.directories_for.Goals as goal

pub returns : goal.returns
unfolding directories_for
returns c = (refl, omega arith)
