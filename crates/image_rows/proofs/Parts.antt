-- The first rows as a part of a column: a test of the part is the test of the rows.
use Rattle.basics.proofs.Kit.{◌≡◌, refl, sym, ap, Bool, ◌&&◌, [], List, ℕ, zero, suc, ◌≤◌, ltb, length, get_or, take, arith}
use Rattle.basics.specs.Basics.{all, how_many}
use Rattle.basics.specs.Lists.{tab}
use Rattle.basics.proofs.Tabs.{tab_part}
use Rattle.image_rows.specs.Rows.{is_below, number}
use Rattle.image_rows.specs.Columns.{coded, row_at, rows_in}
use Rattle.image_rows.specs.Chains.{is_start, starts}

below_from : (ns : List ℕ) (next i n : ℕ) → all (λ v. ltb v next) (tab (λ k. get_or ns k 0) i n) ≡ all (is_below next) (tab (row_at [] ns [] []) i n)
unfolding row_at coded is_below number all
below_from ns next i zero = refl
below_from ns next i (suc n) = ap (λ (b : Bool). ltb (get_or ns i 0) next && b) (below_from ns next (suc i) n)

-- their numbers
pub all_below : (ns : List ℕ) (n next : ℕ) → n ≤ length ns → all (λ v. ltb v next) (take n ns) ≡ all (is_below next) (rows_in [] ns [] [] n)
unfolding rows_in
all_below ns n next h = rw (← tab_part ns 0 0 n (omega arith)) (below_from ns next 0 n)

-- their owners' codes
pub starts_taken : (os : List ℕ) (n : ℕ) → n ≤ length os → how_many is_start (take n os) ≡ starts os n
unfolding starts
starts_taken os n h = ap (how_many is_start) (sym (tab_part os 0 0 n (omega arith)))
