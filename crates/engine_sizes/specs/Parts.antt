-- What the function that divides rows promises.
use Rattle.std.specs.Prelude.{◌≡◌, List, take}
use Rattle.basics.specs.Basics.{sum}
use Rattle.model.specs.State.{Held}
use Rattle.model.specs.Rules.{held_size, half}
use Rattle.engine_sizes.specs.declared.FirstPart.{FirstPart}

-- the first part of these tuples, as the splitting rule gives it
pub record IsFirstPart (r : FirstPart) (hs : List Held) : Type 0 where
  pub count : r.count ≡ half hs
  pub size : r.size ≡ sum held_size (take (half hs) hs)
