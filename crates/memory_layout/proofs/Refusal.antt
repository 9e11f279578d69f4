-- The tests that decide whether the memory holds a store, and what they mean.
use Rattle.basics.proofs.Kit.{◌≡◌, sym, ap, ◌∙◌, Bool, true, false, ◌&&◌, List, [], ◌∷◌, ℕ, suc, ◌+◌, ◌*◌, ◌≤◌, ◌<◌, ◌-◌, add-one, add-zero, zero-add, leb, eqb, ltb}
use Rattle.basics.proofs.Kit.{length, le-leb, leb-true, lt-ltb, le-ltb, lt-leb, eq-eqb, ne_eqb, ltb-true, arith}
use Rattle.basics.specs.Basics.{if'◌then◌else◌, every, all, paired, from}
use Rattle.basics.proofs.Ands.{and_yes, and_no, and_assoc}
use Rattle.memory_bytes.specs.Bytes.{le2, le4, column2}
use Rattle.basics.specs.Lists.{tab}
use Rattle.memory_layout.specs.Places.{signature, head_size, starts_at}
use Rattle.memory_layout.specs.Views.{head_of, counts_of, table_end, page_count, start_at}
use Rattle.memory_layout.specs.Flat.{InRange, capacity_of}
use Rattle.memory_layout.specs.Store.{in_range, tables_rise, starts_rise, StartsAt, holds_store}
use Rattle.memory_layout.specs.declared.Head.{Head}
use Rattle.memory_layout.specs.declared.Counts.{Counts}
use Rattle.basics.proofs.Elements.{every_all, every_cons, every_stop, every_one}
use Rattle.basics.proofs.Froms.{all_iteration, paired_all, all_same, all_snoc}

-- ---- the head's numbers

pub range_in : (size : ℕ) (h : Head) (n : Counts) → in_range size h n ≡ true → InRange size h n
unfolding in_range
range_in size h n e =
    let t = every_all _ e in
    record {
      least = leb-true _ _ t.0;
      most = leb-true _ _ t.1.0;
      long = leb-true _ _ t.1.1.0;
      few = leb-true _ _ t.1.1.1.0;
      many = leb-true _ _ t.1.1.1.1.0;
      taken = ltb-true _ _ t.1.1.1.1.1.0;
      rows = leb-true _ _ t.1.1.1.1.1.1.0;
      pages = leb-true _ _ t.1.1.1.1.1.1.1.0;
      opens = leb-true _ _ t.1.1.1.1.1.1.1.1.0;
      named = leb-true _ _ t.1.1.1.1.1.1.1.1.1.0;
      directories = leb-true _ _ t.1.1.1.1.1.1.1.1.1.1.0;
    }

pub in_range_lem : (size : ℕ) (h : Head) (n : Counts) → InRange size h n → in_range size h n ≡ true
unfolding in_range
in_range_lem size h n g =
    every_cons _ _ (le-leb _ _ g.least)
    ∙ every_cons _ _ (le-leb _ _ g.most)
    ∙ every_cons _ _ (le-leb _ _ g.long)
    ∙ every_cons _ _ (le-leb _ _ g.few)
    ∙ every_cons _ _ (le-leb _ _ g.many)
    ∙ every_cons _ _ (lt-ltb _ _ g.taken)
    ∙ every_cons _ _ (le-leb _ _ g.rows)
    ∙ every_cons _ _ (le-leb _ _ g.pages)
    ∙ every_cons _ _ (le-leb _ _ g.opens)
    ∙ every_cons _ _ (le-leb _ _ g.named)
    ∙ every_one _
    ∙ le-leb _ _ g.directories

-- ---- the pass over the tables, turn by turn: a and b are the ends of tables t and t + 1

abbrev pub end_rises : List ℕ → ℕ → Bool
end_rises m t = leb (table_end m t) (table_end m (suc t))

-- page p starts before the next one, the last before the end of the rows
abbrev pub start_rises : List ℕ → ℕ → Bool
start_rises m p = ltb (start_at m (capacity_of m) p) (start_at m (capacity_of m) (suc p))

pub tables_iteration : (m : List ℕ) (t a b : ℕ) (rise : Bool) → t < 7 → a ≡ le2 m (64 + t * 2) → b ≡ le2 m (64 + t * 2 + 2)
    → tables_rise m ≡ (rise && all (end_rises m) (from t (7 - t))) → tables_rise m ≡ ((rise && leb a b) && all (end_rises m) (from (t + 1) (7 - (t + 1))))
tables_iteration m t a b rise h ea eb inv =
    let e : 64 + t * 2 + 2 ≡ 64 + suc t * 2 = omega arith in
    let rest : Bool = all (end_rises m) (from (t + 1) (7 - (t + 1))) in
    inv
    ∙ ap (λ (z : Bool). rise && z) (all_iteration (end_rises m) t 7 h ∙ (λ i. leb (sym ea i) (sym (eb ∙ ap (le2 m) e) i) && rest))
    ∙ sym (and_assoc rise (leb a b) rest)

-- ---- the pass over the pages

module _ {m : List ℕ} {c pages rows : ℕ} (at : StartsAt m c pages rows) where
  -- a page's start, by its two bytes
  start_in : (p : ℕ) → p < pages → start_at m (capacity_of m) p ≡ column2 m (starts_at c) p
  unfolding start_at if'◌then◌else◌
  start_in p h =
      let t : ltb p (page_count m) ≡ true = lt-ltb p (page_count m) (omega (arith, at.pages)) in
      rw t (ap (λ (z : ℕ). le2 m (starts_at z + p * 2)) (sym at.capacity))

  start_behind : start_at m (capacity_of m) pages ≡ rows
  unfolding start_at if'◌then◌else◌
  start_behind = let t : ltb pages (page_count m) ≡ false = le-ltb pages (page_count m) (omega (arith, at.pages)) in rw t (sym at.rows)

  pub no_pages : pages ≡ 0 → starts_rise m ≡ eqb rows 0
  unfolding starts_rise all from
  no_pages e =
      let n : page_count m ≡ 0 = omega (arith, at.pages) in
      let s : start_at m (capacity_of m) 0 ≡ rows = ap (start_at m (capacity_of m)) (sym e) ∙ start_behind in
      ap (λ (z : ℕ). eqb (start_at m (capacity_of m) 0) 0 && all (start_rises m) (from 0 z)) n ∙ and_yes _ ∙ ap (λ (z : ℕ). eqb z 0) s

  -- with pages: the first start, the rise from each to the next, and the last against the rows
  module _ (some : 1 ≤ pages) where
    pub some_pages : starts_rise m ≡ (eqb (le2 m (starts_at c)) 0
        && (paired ltb (tab (column2 m (starts_at c)) 0 (pages - 1 + 1)) && ltb (column2 m (starts_at c) (pages - 1)) rows))
    unfolding starts_rise
    some_pages =
        let k : ℕ = pages - 1 in
        let g : ℕ → ℕ = column2 m (starts_at c) in
        let n : page_count m ≡ suc k = omega (arith, at.pages) in
        let first : start_at m (capacity_of m) 0 ≡ le2 m (starts_at c) = start_in 0 (omega arith) ∙ ap (le2 m) (add-zero (starts_at c)) in
        let mid : all (start_rises m) (from 0 k) ≡ paired ltb (tab g 0 (k + 1)) =
        all_same (start_rises m) (λ p. ltb (g p) (g (suc p))) 0 k (λ p a b. λ i. ltb (start_in p (omega arith) i) (start_in (suc p) (omega arith) i))
        ∙ sym (paired_all ltb g 0 k) ∙ ap (λ (z : ℕ). paired ltb (tab g 0 z)) (sym (add-one k)) in
        let behind : suc (0 + k) ≡ pages = omega arith in
        let last : start_rises m (0 + k) ≡ ltb (g k) rows =
        (λ i. ltb ((ap (start_at m (capacity_of m)) (zero-add k) ∙ start_in k (omega arith)) i) ((ap (start_at m (capacity_of m)) behind ∙ start_behind) i)) in
        (λ i. eqb (first i) 0 && all (start_rises m) (from 0 (n i)))
        ∙ ap (λ (z : Bool). eqb (le2 m (starts_at c)) 0 && z) (all_snoc (start_rises m) 0 k ∙ (λ i. mid i && last i))

    pub last_empty : {x : ℕ} → x ≡ column2 m (starts_at c) (pages - 1) → rows ≤ x → false ≡ starts_rise m
    last_empty e h =
        sym (some_pages ∙ rw (le-ltb (column2 m (starts_at c) (pages - 1)) rows (omega arith), and_no, and_no))

    pub first_moved : {x : ℕ} → x ≡ le2 m (starts_at c) → (x ≡ 0 → ⊥) → false ≡ starts_rise m
    first_moved e ne = sym (some_pages ∙ rw (ne_eqb (le2 m (starts_at c)) 0 (λ z. ne (e ∙ z))))

    pub all_rise : {x y : ℕ} {b : Bool} → x ≡ column2 m (starts_at c) (pages - 1) → x < rows → y ≡ le2 m (starts_at c) → y ≡ 0
        → b ≡ paired ltb (tab (column2 m (starts_at c)) 0 (pages - 1 + 1)) → b ≡ starts_rise m
    all_rise ex hx ey hy eb =
        eb ∙ sym (some_pages ∙ rw (eq-eqb (le2 m (starts_at c)) 0 (sym ey ∙ hy), lt-ltb (column2 m (starts_at c) (pages - 1)) rows (omega arith), and_yes))

-- ---- the whole test, where it stops

pub too_short : (m : List ℕ) → length m < head_size → false ≡ holds_store m
unfolding holds_store
too_short m h = sym (every_stop _ _ (lt-leb head_size (length m) h))

module _ (m : List ℕ) {s : ℕ} (big : head_size ≤ length m) (es : s ≡ le4 m 0) where
  pub unsigned : (s ≡ signature → ⊥) → false ≡ holds_store m
  unfolding holds_store
  unsigned ne = sym (every_cons _ _ (le-leb head_size (length m) big) ∙ every_stop _ _ (ne_eqb _ _ (λ z. ne (es ∙ z))))

  module _ {h : Head} {n : Counts} {b : Bool} (sign : s ≡ signature) (eh : h ≡ head_of m) (en : n ≡ counts_of m) (eb : b ≡ in_range (length m) h n) where
    range_is : in_range (length m) (head_of m) (counts_of m) ≡ b
    range_is = sym (eb ∙ ap (λ (x : Head). in_range (length m) x n) eh ∙ ap (in_range (length m) (head_of m)) en)

    front : holds_store m ≡ every (b ∷ tables_rise m ∷ starts_rise m ∷ [])
    unfolding holds_store
    front =
        every_cons _ _ (le-leb head_size (length m) big) ∙ every_cons _ _ (eq-eqb _ _ (sym es ∙ sign))
        ∙ ap (λ (z : Bool). every (z ∷ tables_rise m ∷ starts_rise m ∷ [])) range_is

    pub out_of_range : b ≡ false → false ≡ holds_store m
    out_of_range f = sym (front ∙ every_stop _ _ f)

    module _ {t : Bool} (in-it : b ≡ true) (et : t ≡ tables_rise m) where
      pub tables_fall : t ≡ false → false ≡ holds_store m
      tables_fall f = sym (front ∙ every_cons _ _ in-it ∙ every_stop _ _ (sym et ∙ f))

      pub last_test : t ≡ true → holds_store m ≡ starts_rise m
      last_test y = front ∙ every_cons _ _ in-it ∙ every_cons _ _ (sym et ∙ y) ∙ every_one _

    -- what the last test asks for
    pub starts_at_lem : b ≡ true → StartsAt m h.capacity n.pages n.rows
    unfolding head_of counts_of
    starts_at_lem t =
        let g : InRange (length m) h n = range_in _ _ _ (sym eb ∙ t) in
        record {
          long = omega (arith, g.long);
          capacity = ap (λ (x : Head). x.capacity) eh;
          most = g.pages;
          pages = ap (λ (x : Counts). x.pages) en;
          rows = ap (λ (x : Counts). x.rows) en;
        }
