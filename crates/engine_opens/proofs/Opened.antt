-- The numbers of open transactions.
use Rattle.basics.proofs.Kit.{◌≡◌, sym, List, ℕ, length, get_or, length-map, List·getD-map}
use Rattle.model.specs.State.{Active}
use Rattle.model.specs.Transactions.{open_numbers}
use Rattle.memory_layout.specs.Flat.{no_open}

pub length_numbers : (os : List Active) → length os ≡ length (open_numbers os)
unfolding open_numbers
length_numbers os = sym (length-map os (λ o. o.transaction))

pub number_at : (os : List Active) (i : ℕ) → (get_or os i no_open).transaction ≡ get_or (open_numbers os) i 0
unfolding open_numbers
number_at os i = sym (List·getD-map (λ o. o.transaction) os i no_open)
