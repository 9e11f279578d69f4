-- What a header that passed its tests says.
use Rattle.basics.proofs.Kit.{◌≡◌, ap, true, List, ℕ, ◌≤◌, take, leb-true, eqb-true, arith}
use Rattle.basics.proofs.Elements.{every_all}
use Rattle.block_forms.specs.declared.Header.{Header}
use Rattle.image_header.specs.Names.{capacity_limit, directories_for, numbers_of, directory_blocks, counts_ok}

-- the counts of a header that passed
pub record Counts (n : ℕ) (h : Header) : Type 0 where
  pub blocks : h.blocks ≡ n
  pub low : 1 ≤ h.capacity
  pub high : h.capacity ≤ capacity_limit
  pub pages : h.pages ≤ h.capacity
  pub directories : h.directories ≡ directories_for h.pages
  pub four : h.directories ≤ 4

pub counts_are : (n : ℕ) (h : Header) → counts_ok n h ≡ true → Counts n h
unfolding counts_ok directories_for
counts_are n h e =
    let a = every_all _ e in
    let low = leb-true 1 h.capacity a.1.0 in
    let high = leb-true h.capacity capacity_limit a.1.1.0 in
    let pages = leb-true h.pages h.capacity a.1.1.1.0 in
    let ds = eqb-true h.directories (directories_for h.pages) a.1.1.1.1.0 in
    record { blocks = eqb-true h.blocks n a.0; low = low; high = high; pages = pages; directories = ds; four = omega arith }

-- a test on the numbers in use, as the code takes them
pub used : {w : ℕ} (h : Header) → w ≡ h.directories → {A : Type 0} (f : List ℕ → A) → f (take w (numbers_of h)) ≡ f (directory_blocks h)
unfolding directory_blocks
used h d f = ap (λ (k : ℕ). f (take k (numbers_of h))) d
