-- The hash table: what `last_by` finds, one step along a chain, and one more row linked.
use Rattle.basics.proofs.Kit.{◌≡◌, refl, sym, ap, ◌∙◌, Bool, true, false, List, ℕ, suc, ◌+◌, ◌%◌, ◌≤◌, ◌<◌, zero, ◌-◌, add-one, eqb, ltb, length, get_or, set, length-set}
use Rattle.basics.proofs.Kit.{length-replicate, replicate, get_or-replicate, get_or-set_same, get_or-set_other, eqb-true, eq-eqb, ne_eqb, eqb-false, arith}
use Rattle.basics.specs.Basics.{if'◌then◌else◌, all}
use Rattle.basics.proofs.Facts.{by, lie}
use Rattle.basics.specs.Lists.{tab}
use Rattle.std.specs.Prelude.{Option, None, Some, MatchOption, is_some}
use Rattle.basics.proofs.Kit.{◌⊎◌, ⊎_elim}
use Rattle.image_rows.specs.Chains.{bucket_count, last_by, bucket_of, in_bucket, Chained, Table, Chain, is_new, keys_once, is_there_below, is_next}
use Rattle.basics.proofs.Iterations.{tab_whole, all_yes, all_not, all_end}
use Rattle.basics.proofs.Searches.{tab_next, tab_none}
use Rattle.block_forms.specs.Limits.{statement_limit}

-- ---- the last that passes

module _ (f : ℕ → Bool) (xs : List ℕ) where
  pub last_yes : (n : ℕ) → f (get_or xs n 0) ≡ true → last_by f xs (n + 1) ≡ n + 1
  unfolding last_by if'◌then◌else◌
  last_yes n t = rw (add-one n, t)

  pub last_not : (n : ℕ) → f (get_or xs n 0) ≡ false → last_by f xs (n + 1) ≡ last_by f xs n
  unfolding last_by if'◌then◌else◌
  last_not n t = rw (add-one n, t)

  pub last_le : (n : ℕ) → last_by f xs n ≤ n
  unfolding last_by if'◌then◌else◌
  last_le zero = omega arith
  last_le (suc n) = by (f (get_or xs n 0)) (λ t. rw t (omega arith)) (λ t. rw t (omega (arith, last_le n)))

  pub last_last : (n : ℕ) → last_by f xs (last_by f xs n) ≡ last_by f xs n
  unfolding last_by if'◌then◌else◌
  last_last zero = refl
  last_last (suc n) = by (f (get_or xs n 0)) (λ t. rw (t, last_by, t)) (λ t. rw t (last_last n))

  -- what is found passes
  pub last_passes : (n j : ℕ) → last_by f xs n ≡ suc j → f (get_or xs j 0) ≡ true
  unfolding last_by if'◌then◌else◌
  last_passes zero j e = absurd (omega arith)
  last_passes (suc n) j e =
      by (f (get_or xs n 0))
      (λ t. let z : j ≡ n = omega (arith, rw t at e) in rw z t)
      (λ t. last_passes n j (rw t at e))

  -- where one passes, one is found
  pub last_there : (n k : ℕ) → k < n → f (get_or xs k 0) ≡ true → 0 < last_by f xs n
  unfolding last_by if'◌then◌else◌
  last_there zero k h t = absurd (omega arith)
  last_there (suc n) k h t =
      by (f (get_or xs n 0))
      (λ u. rw u (omega arith))
      (λ u. rw u (by (eqb k n)
      (λ e. lie (sym u ∙ ap (λ z. f (get_or xs z 0)) (sym (eqb-true k n e)) ∙ t))
      (λ e. last_there n k (omega (arith, eqb-false k n e)) t)))

-- a search may pass over what another test refuses
pub last_skips : (f g : ℕ → Bool) (xs : List ℕ) → ((y : ℕ) → f y ≡ true → g y ≡ true) → (n : ℕ) → last_by f xs n ≡ last_by f xs (last_by g xs n)
unfolding last_by if'◌then◌else◌
last_skips f g xs w zero = refl
last_skips f g xs w (suc n) =
    by (g (get_or xs n 0))
    (λ t. rw t)
    (λ t. by (f (get_or xs n 0)) (λ u. lie (sym t ∙ w (get_or xs n 0) u)) (λ u. rw (t, u) (last_skips f g xs w n)))

in_own : (x y : ℕ) → eqb x y ≡ true → in_bucket (bucket_of x) y ≡ true
unfolding in_bucket
in_own x y t = eq-eqb _ _ (ap bucket_of (sym (eqb-true x y t)))

-- ---- a chain

module _ {xs links : List ℕ} {j x : ℕ} (c : Chain xs links j x) (pos : 0 < j) where
  own : bucket_of (get_or xs (j - 1) 0) ≡ bucket_of x
  unfolding in_bucket
  own =
      let e : j ≡ suc (j - 1) = omega arith in
      eqb-true _ _ (last_passes (in_bucket (bucket_of x)) xs j (j - 1) (c.last ∙ e))

  next : get_or links (j - 1) 0 ≡ last_by (in_bucket (bucket_of x)) xs (j - 1)
  unfolding Chained
  next = c.chain (j - 1) (omega arith) ∙ ap (λ b. last_by (in_bucket b) xs (j - 1)) own

  pub next_less : get_or links (j - 1) 0 < j
  next_less = omega (arith, next, last_le (in_bucket (bucket_of x)) xs (j - 1))

  pub next_chain : Chain xs links (get_or links (j - 1) 0) x
  unfolding Chained
  next_chain = record {
    rows = omega (arith, c.rows, next_less);
    linked = omega (arith, c.linked, next_less);
    last = rw next (last_last (in_bucket (bucket_of x)) xs (j - 1));
    chain = λ k h. c.chain k (omega (arith, h, next_less));
  }

  pub found_here : get_or xs (j - 1) 0 ≡ x → j ≡ last_by (eqb x) xs j
  found_here e =
      let z : j ≡ j - 1 + 1 = omega arith in
      z ∙ sym (last_yes (eqb x) xs (j - 1) (eq-eqb _ _ (sym e))) ∙ ap (last_by (eqb x) xs) (sym z)

  pub chain_on : (get_or xs (j - 1) 0 ≡ x → ⊥) → last_by (eqb x) xs j ≡ last_by (eqb x) xs (get_or links (j - 1) 0)
  chain_on h =
      let z : j ≡ j - 1 + 1 = omega arith in
      ap (last_by (eqb x) xs) z
      ∙ last_not (eqb x) xs (j - 1) (ne_eqb _ _ (λ e. h (sym e)))
      ∙ last_skips (eqb x) (in_bucket (bucket_of x)) xs (in_own x) (j - 1)
      ∙ ap (last_by (eqb x) xs) (sym next)

-- ---- the table

bucket_less : (x : ℕ) → bucket_of x ≤ bucket_count
unfolding bucket_of if'◌then◌else◌
bucket_less x = by (eqb x 0) (λ t. rw t (omega arith)) (λ t. rw t (omega arith))

-- no row yet
pub empty_table : (xs links : List ℕ) → Table xs (replicate (suc bucket_count) 0) links 0
unfolding last_by Chained
empty_table xs links = record {
  rows = omega arith;
  buckets = length-replicate {A = ℕ} (suc bucket_count) 0;
  linked = omega arith;
  head = λ b l. get_or-replicate {A = ℕ} (suc bucket_count) b 0 0 (omega arith);
  chain = λ k l. absurd (omega arith);
}

module _ {xs heads links : List ℕ} {n : ℕ} (t : Table xs heads links n) {b : ℕ} (x : ℕ) (e : b ≡ bucket_of x) where
  at_head : get_or heads b 0 ≡ last_by (in_bucket (bucket_of x)) xs n
  at_head = rw e (t.head (bucket_of x) (bucket_less x))

  -- the chain of a key
  pub table_chain : Chain xs links (get_or heads b 0) x
  unfolding Chained
  table_chain =
      let h = last_le (in_bucket (bucket_of x)) xs n in
      record {
        rows = omega (arith, t.rows, at_head);
        linked = omega (arith, t.linked, at_head);
        last = rw at_head (last_last (in_bucket (bucket_of x)) xs n);
        chain = λ k l. t.chain k (omega (arith, l, at_head));
      }

  pub table_finds : {r : ℕ} → r ≡ last_by (eqb x) xs (get_or heads b 0) → r ≡ last_by (eqb x) xs n
  table_finds f = f ∙ ap (last_by (eqb x) xs) at_head ∙ sym (last_skips (eqb x) (in_bucket (bucket_of x)) xs (in_own x) n)

  -- one more row
  module _ (own : x ≡ get_or xs n 0) (room : n < length xs) (spare : n < length links) where
    iteration_head : (d : ℕ) → d ≤ bucket_count → get_or (set heads b (n + 1)) d 0 ≡ last_by (in_bucket d) xs (n + 1)
    unfolding in_bucket
    iteration_head d l =
        by (eqb d b)
        (λ u. let z = eqb-true d b u in
        rw z (get_or-set_same heads b (n + 1) 0 (omega (arith, t.buckets)) ∙ sym (last_yes (in_bucket b) xs n (eq-eqb _ _ (ap bucket_of (sym own) ∙ sym e)))))
        (λ u. let z = eqb-false d b u in
        get_or-set_other heads b d (n + 1) 0 z ∙ t.head d l ∙ sym (last_not (in_bucket d) xs n (ne_eqb _ _ (λ q. z (sym q ∙ ap bucket_of (sym own) ∙ sym e)))))

    iteration_chain : (k : ℕ) → k < n + 1 → get_or (set links n (get_or heads b 0)) k 0 ≡ last_by (in_bucket (bucket_of (get_or xs k 0))) xs k
    unfolding Chained
    iteration_chain k l =
        by (eqb k n)
        (λ u. let z = eqb-true k n u in rw z (get_or-set_same links n (get_or heads b 0) 0 spare ∙ at_head ∙ ap (λ y. last_by (in_bucket (bucket_of y)) xs n) own))
        (λ u. let z = eqb-false k n u in get_or-set_other links n k (get_or heads b 0) 0 z ∙ t.chain k (omega arith))

    pub table_iteration : Table xs (set heads b (n + 1)) (set links n (get_or heads b 0)) (n + 1)
    unfolding Chained
    table_iteration = record {
      rows = omega arith;
      buckets = length-set heads b (n + 1) ∙ t.buckets;
      linked = rw (length-set links n (get_or heads b 0)) (omega arith);
      head = iteration_head;
      chain = iteration_chain;
    }

-- a key's row is new if it is no key, or is not found before
module _ (xs : List ℕ) (i : ℕ) {x r : ℕ} (own : x ≡ get_or xs i 0) (e : r ≡ last_by (eqb x) xs i) where
  new_not : 0 < x → 0 < r → is_new xs i ≡ false
  unfolding is_new
  new_not h k = rw (← own, ← e, ne_eqb x 0 (λ z. omega arith), ne_eqb r 0 (λ z. omega arith))

  new_yes : (x ≡ 0) ⊎ (r ≡ 0) → is_new xs i ≡ true
  unfolding is_new
  new_yes w = rw (← own, ← e) (⊎_elim (λ z. rw (eq-eqb x 0 z)) (λ z. by (eqb x 0) (λ t. rw t) (λ t. rw (t, eq-eqb r 0 z))) w)

-- what is found is 1 + a row, and 0 if none is
pub found_some : (v : ℕ) (o : Option ℕ) → MatchOption o (v ≡ 0) (λ row. v ≡ row + 1) → is_some o ≡ true → 0 < v
found_some v None e t = lie t
found_some v (Some row) e t = omega arith

pub found_none : (v : ℕ) (o : Option ℕ) → MatchOption o (v ≡ 0) (λ row. v ≡ row + 1) → is_some o ≡ false → v ≡ 0
found_none v None e t = e
found_none v (Some row) e t = lie (sym t)

-- ---- linking row by row

-- rows 0 to i - 1 are linked, and the keys left decide
pub record Linking (xs : List ℕ) (n : ℕ) (heads links : List ℕ) (i : ℕ) : Type 0 where
  pub table : Table xs heads links i
  pub far : i ≤ n
  pub left : keys_once xs n ≡ all (is_new xs) (tab (λ j. j) i (n - i))

module _ (xs : List ℕ) (n : ℕ) {heads links : List ℕ} where
  pub linking_start : Table xs heads links 0 → Linking xs n heads links 0
  unfolding keys_once
  linking_start t = record { table = t; far = omega arith; left = sym (ap (all (is_new xs)) (tab_whole (λ j. j) n)) }

  pub linking_end : {i : ℕ} → Linking xs n heads links i → n ≤ i → (true ≡ keys_once xs n) × (true ≡ true → Table xs heads links n)
  linking_end {i} w h =
      let e : i ≡ n = omega (arith, w.far) in (sym (w.left ∙ all_end (is_new xs) (tab_none (λ j. j) i n h)), λ q. rw e at w.table)

  module _ {i : ℕ} (w : Linking xs n heads links i) (h : i < n) {b r : ℕ} (e : b ≡ bucket_of (get_or xs i 0))
      (f : r ≡ last_by (eqb (get_or xs i 0)) xs (get_or heads b 0)) where
    pub linking_stop : 0 < get_or xs i 0 → 0 < r → false ≡ keys_once xs n
    linking_stop k t =
        sym (w.left ∙ all_not (is_new xs) (tab_next (λ j. j) i n h) (new_not xs i refl (table_finds w.table (get_or xs i 0) e f) k t))

    pub linking_iteration : (get_or xs i 0 ≡ 0) ⊎ (r ≡ 0) → i < length xs → i < length links
        → Linking xs n (set heads b (i + 1)) (set links i (get_or heads b 0)) (i + 1)
    linking_iteration t room spare = record {
      table = table_iteration w.table (get_or xs i 0) e refl room spare;
      far = omega arith;
      left = w.left ∙ all_yes (is_new xs) (tab_next (λ j. j) i n h) (new_yes xs i refl (table_finds w.table (get_or xs i 0) e f) t);
    }

-- ---- row i after the statement before it

module _ (ns os : List ℕ) (n i : ℕ) where
  pub next_first : (get_or os i 0 - 1) % statement_limit ≡ 0 → true ≡ is_next ns os n i
  unfolding is_next
  next_first e = rw (eq-eqb _ _ e)

  module _ {j : ℕ} (later : (get_or os i 0 - 1) % statement_limit ≡ 0 → ⊥) (f : j ≡ last_by (eqb (get_or os i 0 - 1)) os n) where
    pub next_none : j ≡ 0 → false ≡ is_next ns os n i
    unfolding is_next is_there_below
    next_none e = rw (ne_eqb _ _ later, ← f, e)

    pub next_found : (row : ℕ) → j ≡ row + 1 → ltb (get_or ns row 0) (get_or ns i 0) ≡ is_next ns os n i
    unfolding is_next is_there_below
    next_found row e = let k : j ≡ suc row = omega arith in sym (rw (ne_eqb _ _ later, ← f) (ap (is_there_below ns (get_or ns i 0)) k))
