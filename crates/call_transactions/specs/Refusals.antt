-- The tests of a call, as the number of the first that holds.
use Rattle.std.specs.Prelude.{Bool, List, [], ◌∷◌, ℕ, is_some}
use Rattle.std.proofs.Math.Option.{Option, none, some}
use Rattle.basics.specs.Basics.{if'◌then◌else◌}
use Rattle.model.specs.State.{Store}
use Rattle.model.specs.Transactions.{Test, ◌when◌, key_tests}
use Rattle.memory_layout.specs.Flat.{Flat}
use Rattle.memory_layout.specs.Store.{store_of}
use Rattle.engine_lookup.specs.Lookup.{picked}
use Rattle.engine_lookup.specs.declared.Visibility.{Visibility}

-- the number of the first test that holds, 0 if none does
unfoldable pub first_refusal : List Test → ℕ
first_refusal [] = 0
first_refusal ((n when b) ∷ ts) = if' b then n else first_refusal ts

-- the same for the tests on a store; 4 if there is no store
unfoldable pub refusal_in : Option Store → (Store → List Test) → ℕ
refusal_in none tests = 4
refusal_in (some s) tests = first_refusal (tests s)

-- the model's tests of a write by what the search has found of its key
unfoldable pub found_tests : Bool → Flat → Visibility → List Test
found_tests new f l = key_tests new l.foreign (is_some (picked f l)) (store_of f)
