-- The pages and rows of a table are one run.
use Rattle.basics.proofs.Kit.{◌≡◌, refl, sym, ap, ◌∙◌, subst, ⊎_elim, List, ℕ, suc, ◌+◌, ◌≤◌, zero, add-one, leb, le-leb, lt-leb, arith}
use Rattle.basics.proofs.Tabs.{lt_or_ge}
use Rattle.memory_layout.specs.Views.{table_end}
use Rattle.memory_layout.specs.Flat.{Flat, flat_of, entry_in, no_entry, Room}
use Rattle.memory_layout.specs.Store.{start_of}
use Rattle.memory_layout.specs.declared.Entry.{Entry}
use Rattle.memory_pages.specs.Pages.{TableFrom}
use Rattle.memory_pages.specs.Spots.{table_page, table_row}
use Rattle.memory_pages.proofs.Tables.{from_zero, from_end}
use Rattle.basics.proofs.Found.{first_is}

module _ {f : Flat} {t : ℕ} where
  -- what is found to be the first page of a table is
  pub page_from : {r : ℕ} → TableFrom f t r → r ≡ table_page f t
  unfolding table_page
  page_from {r} s =
      sym (first_is (λ (e : Entry). leb t e.table) no_entry f.entries r s.most
      (λ p b. lt-leb t (entry_in f p).table (s.below p b))
      (λ b. le-leb t (entry_in f r).table (s.above r (omega arith) b)))

  pub row_from : {r x : ℕ} → TableFrom f t r → x ≡ start_of f r → x ≡ table_row f t
  unfolding table_row
  row_from s e = e ∙ ap (start_of f) (page_from s)

  -- the next table does not start before
  pub pages_rise : {a b : ℕ} → TableFrom f t a → TableFrom f (t + 1) b → a ≤ b
  pages_rise {a} {b} s u = ⊎_elim (λ h. omega (arith, s.below b h, u.above b (omega arith) (omega (arith, s.most)))) (λ h. h) (lt_or_ge b a)

-- for every table, the first page is the first of it or of a later one
pub table_first : {m : List ℕ} → Room m → (t : ℕ) → t ≤ 8 → TableFrom (flat_of m) t (table_page (flat_of m) t)
table_first {m} room zero h = let s = from_zero room refl in subst (TableFrom (flat_of m) 0) (page_from s) s
table_first {m} room (suc t) h =
    let s : TableFrom (flat_of m) (suc t) (table_end m t) = rw add-one at (from_end room t (omega arith) refl) in
    subst (TableFrom (flat_of m) (suc t)) (page_from s) s
