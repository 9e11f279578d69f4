-- Rows without their payloads: what columns hold of rows, and the tests on them.
use Rattle.basics.proofs.Kit.{◌≡◌, refl, ◌&&◌, List, [], ◌∷◌, map, ℕ, leb, length}
use Rattle.basics.specs.Basics.{all, every, paired}
use Rattle.image_rows.specs.Rows.{Row, number, is_at, is_lower, follows, starts_well, mark_ok, rows_ok}
use Rattle.image_rows.specs.Columns.{bare, columns_ok}
use Rattle.basics.proofs.Ands.{and_assoc, and_comm, and_swap}
use Rattle.basics.proofs.Maps.{paired_kept}
use Rattle.image_rows.proofs.Kept.{numbers_kept, below_kept, transactions_kept, statements_kept}

-- ---- tests

starts_bare : (rs : List Row) → starts_well (map bare rs) ≡ starts_well rs
unfolding starts_well
starts_bare [] = refl
starts_bare (r ∷ rs) = refl

follows_bare : (rs : List Row) → paired follows (map bare rs) ≡ paired follows rs
unfolding follows is_at is_lower
follows_bare rs = paired_kept follows bare (λ r s. refl) rs

-- no test on columns looks at a payload
pub columns_bare : (next : ℕ) (rs : List Row) → columns_ok next (map bare rs) ≡ columns_ok next rs
unfolding columns_ok number
columns_bare next rs =
    rw (
      follows_bare rs,
      starts_bare rs,
      numbers_kept bare (λ r. refl) rs,
      below_kept bare (λ r. refl) next rs,
      transactions_kept bare (λ r. refl) rs,
      statements_kept bare (λ r. refl) (λ r. refl) rs,
    )

-- ---- all tests, in the order of the code

pub rows_tests : (cap next : ℕ) (rs : List Row) → rows_ok cap next rs ≡ (columns_ok next rs && (leb (length rs) cap && all mark_ok rs))
unfolding rows_ok columns_ok every
rows_tests cap next rs = simp (and_assoc, and_comm, and_swap)
