-- The place of a tuple among the rows of its table is where the model puts it.
use Rattle.basics.proofs.Kit.{◌≡◌, refl, sym, ap, ◌∙◌, ⊎_elim, true, false, none, List, [], ◌∷◌, ◌++◌, ℕ, suc, ◌+◌, ◌≤◌, ◌<◌, zero, ◌-◌, add-one, eqb, length, take, drop, get_or}
use Rattle.basics.proofs.Kit.{length-drop, take-add, get_or-drop, length-take-le, get_or-take, eqb-true, eqb-false, arith}
use Rattle.basics.proofs.Facts.{by}
use Rattle.block_forms.specs.Tuple.{Tuple}
use Rattle.model.specs.State.{Held}
use Rattle.model.specs.Rules.{place_after, place_front, place, fresh, without_pending}
use Rattle.basics.specs.Lists.{last_index}
use Rattle.basics.proofs.Tabs.{lt_or_ge}
use Rattle.basics.proofs.Found.{last_most, last_at, last_behind}
use Rattle.memory_layout.specs.Flat.{Flat, flat_of, entry_in, row_in, no_row}
use Rattle.memory_layout.specs.Store.{total, start_of, page_in, pages_in, page_of}
use Rattle.memory_layout.proofs.Nest.{total_append}
use Rattle.memory_layout.proofs.Exchange.{start_le, start_next, page_at_lem, page_long, pages_end, tuple_at}
use Rattle.memory_pages.specs.Pages.{TableFrom, OnPages, PageOf}
use Rattle.memory_pages.specs.Spots.{table_rows, key_up_to, place_in}
use Rattle.memory_pages.proofs.Spots.{row_from, pages_rise}
use Rattle.memory_layout.specs.Flat.{Room}
use Rattle.memory_layout.proofs.Laws.{holds_room, filled}
use Rattle.memory_rows.specs.declared.Row.{Row}
use Rattle.engine_pages.specs.Pages.{pages_of, page_at, first_row, swapped}
use Rattle.engine_pages.specs.Spots.{tuple_by, placed_on, GrowAt, AddAt, PlaceAt}
use Rattle.basics.proofs.Numbers.{less_than}
use Rattle.engine_pages.proofs.Placing.{other_table, no_key, place_on, place_front_lem, front_iteration, front_on, front_new, front_last}
use Rattle.basics.proofs.Found.{last_is}

start_rise : (f : Flat) (p q : ℕ) → p ≤ q → start_of f p ≤ start_of f q
start_rise f p q h =
    let e : q ≡ p + (q - p) = omega arith in
    let a : start_of f q ≡ total (take p f.entries ++ take (q - p) (drop p f.entries)) =
    ap (start_of f) e ∙ ap total (take-add p (q - p) f.entries) in
    omega (arith, total_append (take p f.entries) (take (q - p) (drop p f.entries)))

page_entry : (f : Flat) (p : ℕ) → (page_in f p).table ≡ (entry_in f p).table
unfolding page_in page_of
page_entry f p = refl

module _ (f : Flat) (full : total f.entries ≡ length f.rows) (t k : ℕ) (x : Tuple) (ek : x.key ≡ k) where
  -- ---- no page from p on has a tuple of the table whose key is not above

  none_from : (n p : ℕ) → p + n ≡ length f.entries
      → ((q : ℕ) → p ≤ q → q < length f.entries → (entry_in f q).table ≡ t → last_index (key_up_to k) (page_in f q).tuples ≡ 0)
      → place_after t x (drop p (pages_in f)) ≡ none
  none_from zero p e h = ap (place_after t x) (pages_end f p (omega arith)) ∙ (unfold place_after in refl)
  none_from (suc n) p e h =
      let rest : place_after t x (drop (suc p) (pages_in f)) ≡ none = none_from n (suc p) (omega arith) (λ q l. h q (omega arith)) in
      ap (place_after t x) (page_at_lem f p (omega arith))
      ∙ by (eqb (entry_in f p).table t)
      (λ b. no_key t k x ek (page_in f p) (drop (suc p) (pages_in f)) rest (page_entry f p ∙ eqb-true _ _ b) (h p (omega arith) (omega arith) (eqb-true _ _ b)))
      (λ b. other_table t k x ek (page_in f p) (drop (suc p) (pages_in f)) rest (λ z. eqb-false _ _ b (sym (page_entry f p) ∙ z)))

  -- the pages of earlier tables are passed
  passed : (i : ℕ) → i ≤ length f.entries → ((p : ℕ) → p < i → (entry_in f p).table < t)
      → place_front t x (pages_in f) ≡ take i (pages_in f) ++ place_front t x (drop i (pages_in f))
  passed zero l h = refl
  passed (suc i) l h =
      front_iteration t x (pages_in f) i (page_in f i) (page_at_lem f i (omega arith)) (passed i (omega arith) (λ p b. h p (omega arith)))
      (omega (arith, page_entry f i, h i (omega arith)))

  module _ {a b : ℕ} (fa : TableFrom f t a) (fb : TableFrom f (t + 1) b) where
    -- a page of the table is from a up to b
    from_to : (q : ℕ) → q < length f.entries → (entry_in f q).table ≡ t → (a ≤ q) × (q < b)
    from_to q l e = (
      ⊎_elim (λ z. omega (arith, fa.below q z)) (λ z. z) (lt_or_ge q a),
      ⊎_elim (λ z. z) (λ z. omega (arith, fb.above q z l)) (lt_or_ge q b),
    )

    front : place_front t x (pages_in f) ≡ take a (pages_in f) ++ place_front t x (drop a (pages_in f))
    front = passed a fa.most fa.below

    -- ---- a table without pages

    pub place_new : a ≡ b → place t x (pages_in f) ≡ take a (pages_in f) ++ fresh t (without_pending x ∷ []) ∷ drop a (pages_in f)
    place_new e =
        let n : place_after t x (pages_in f) ≡ none =
        none_from (length f.entries) 0 (omega arith) (λ q l h z. let w = from_to q h z in let w0 = w.0 in let w1 = w.1 in absurd (omega arith)) in
        place_front_lem t x (pages_in f) n
        ∙ ⊎_elim
        (λ h. front_new t x (pages_in f) a (page_in f a) (page_at_lem f a h) front (omega (arith, page_entry f a, fb.above a (omega arith) h)))
        (λ h. front_last t x (pages_in f) a (pages_end f a h) front)
        (lt_or_ge a (length f.entries))

    -- ---- among the rows of the table

    module _ (lt : a < b) {at : ℕ} (ea : at ≡ place_in f t k) where
      abbrev s : ℕ
      s = start_of f a

      abbrev e : ℕ
      e = start_of f b

      abbrev run : List Held
      run = take (start_of f b - start_of f a) (drop (start_of f a) f.rows)

      rise : start_of f a ≤ start_of f b
      rise = start_rise f a b (omega arith)

      run_long : length (take (start_of f b - start_of f a) (drop (start_of f a) f.rows)) ≡ start_of f b - start_of f a
      run_long = length-take-le (e - s) (drop s f.rows) (simp length-drop (omega (arith, start_le f full b)))

      at_is : at ≡ start_of f a + last_index (key_up_to k) (take (start_of f b - start_of f a) (drop (start_of f a) f.rows))
      unfolding place_in table_rows
      at_is =
          let x = sym (row_from fa refl) in
          let y = sym (row_from fb refl) in
          ea ∙ (λ i. x i + last_index (key_up_to k) (take (y i - x i) (drop (x i) f.rows)))

      pub at_least : start_of f a ≤ at
      at_least = omega (arith, at_is)

      pub at_most : at ≤ start_of f b
      at_most = omega (arith, at_is, last_most (key_up_to k) no_row run, run_long, rise)

      run_at : (i : ℕ) → start_of f a ≤ i → i < start_of f b → get_or (take (start_of f b - start_of f a) (drop (start_of f a) f.rows)) (i - start_of f a) no_row ≡ row_in f i
      run_at i l h =
          let z : s + (i - s) ≡ i = omega arith in
          get_or-take (e - s) (drop s f.rows) (i - s) no_row (omega arith) ∙ get_or-drop s f.rows (i - s) no_row ∙ ap (row_in f) z

      above : (i : ℕ) → at ≤ i → i < start_of f b → key_up_to k (row_in f i) ≡ false
      above i l h =
          ap (key_up_to k) (sym (run_at i (omega (arith, at_least)) h))
          ∙ last_behind (key_up_to k) no_row run (i - s) (omega (arith, at_is)) (omega (arith, run_long, at_least))

      here : start_of f a < at → key_up_to k (row_in f (at - 1)) ≡ true
      here l =
          let z : last_index (key_up_to k) run ≡ suc (at - 1 - s) = omega (arith, at_is) in
          ap (key_up_to k) (sym (run_at (at - 1) (omega arith) (omega (arith, at_most)))) ∙ last_at (key_up_to k) no_row run (at - 1 - s) z

      -- a page of the table that starts at the place or behind it
      quiet : (q : ℕ) → q < length f.entries → at ≤ start_of f q → (entry_in f q).table ≡ t → last_index (key_up_to k) (page_in f q).tuples ≡ 0
      quiet q h l et =
          let w1 = (from_to q h et).1 in
          let n : start_of f (q + 1) ≡ start_of f q + (entry_in f q).count = start_next f q h in
          let r : start_of f (q + 1) ≤ e = start_rise f (q + 1) b (omega arith) in
          let c : length (page_in f q).tuples ≡ (entry_in f q).count = page_long f full q h in
          last_is (key_up_to k) no_row (page_in f q).tuples 0 (omega arith) (λ z. absurd (omega arith))
          (λ i z y. ap (key_up_to k) (tuple_at f full q i no_row (omega arith)) ∙ above (start_of f q + i) (omega arith) (omega arith))

      none_behind : (p : ℕ) → p ≤ length f.entries → at ≤ start_of f p → place_after t x (drop p (pages_in f)) ≡ none
      none_behind p h l = none_from (length f.entries - p) p (omega arith) (λ q y z. quiet q z (omega (arith, start_rise f p q y)))

      table_at : (p : ℕ) → a ≤ p → p < b → (page_in f p).table ≡ t
      table_at p l h = page_entry f p ∙ omega (arith, fa.above p l (omega (arith, fb.most)), fb.below p h)

      -- before all of them
      pub place_first : at ≡ start_of f a → place t x (pages_in f) ≡ swapped a (placed_on x (at - start_of f a) (page_in f a)) (pages_in f)
      place_first y =
          let h : a < length f.entries = omega (arith, fb.most) in
          let j : at - s ≡ 0 = omega arith in
          let n : place_after t x (pages_in f) ≡ none =
          none_from (length f.entries) 0 (omega arith)
          (λ q l z et. quiet q z (omega (arith, start_rise f a q (from_to q z et).0)) et) in
          place_front_lem t x (pages_in f) n
          ∙ front_on t x (pages_in f) a (page_in f a) (page_at_lem f a h) front (table_at a (omega arith) lt)
          ∙ ap (λ (z : ℕ). swapped a (placed_on x z (page_in f a)) (pages_in f)) (sym j)

      -- behind one of them
      pub place_later : (p : ℕ) → PageOf f a b (at - 1) p → start_of f a < at
          → place t x (pages_in f) ≡ swapped p (placed_on x (at - start_of f p) (page_in f p)) (pages_in f)
      place_later p o l =
          let h : p < length f.entries = omega (arith, o.high, fb.most) in
          let n : start_of f (p + 1) ≡ start_of f p + (entry_in f p).count = start_next f p h in
          let r : start_of f (p + 1) ≤ e = start_rise f (p + 1) b (omega (arith, o.high)) in
          let c : length (page_in f p).tuples ≡ (entry_in f p).count = page_long f full p h in
          let o1 = o.first in
          let o2 = o.last in
          let z1 : start_of f p + (at - start_of f p - 1) ≡ at - 1 = omega arith in
          let i : last_index (key_up_to k) (page_in f p).tuples ≡ at - start_of f p =
          last_is (key_up_to k) no_row (page_in f p).tuples (at - start_of f p) (omega arith)
          (λ y. ap (key_up_to k) (tuple_at f full p (at - start_of f p - 1) no_row (omega arith) ∙ ap (row_in f) z1) ∙ here l)
          (λ q y z. ap (key_up_to k) (tuple_at f full p q no_row (omega arith)) ∙ above (start_of f p + q) (omega arith) (omega arith)) in
          let q1 : p + 1 ≡ suc p = add-one p in
          place_on t k x (pages_in f) p (at - start_of f p) (page_in f p) ek (page_at_lem f p h)
          (none_behind (suc p) (omega arith) (omega (arith, ap (start_of f) q1))) (table_at p o.low o.high) i (omega arith)

-- ---- on the memory

module _ {m : List ℕ} {t at : ℕ} {r : Row} {xs : List ℕ} (g : PlaceAt m t at r xs) {a b : ℕ} (fa : TableFrom (flat_of m) t a) (fb : TableFrom (flat_of m) (t + 1) b) where
  pub place_room : Room m
  place_room = holds_room m g.tuple.has_store

  abbrev x : Tuple
  x = tuple_by r xs

  pub may_add : AddAt m t a r xs
  may_add = record {
    tuple = g.tuple;
    between = record { table = g.table; most = fa.most; below = λ j l. omega (arith, fa.below j l); above = fa.above };
  }

  pub placed_new : a ≡ b → take a (pages_of m) ++ fresh t (without_pending (tuple_by r xs) ∷ []) ∷ drop a (pages_of m) ≡ place t (tuple_by r xs) (pages_of m)
  placed_new e = sym (place_new (flat_of m) (filled m place_room) t r.key x refl fa fb e)

  module _ (ne : a ≡ b → ⊥) where
    lt : a < b
    lt = less_than (pages_rise fa fb) ne

    pub first_in : Room m × (a ≤ length (flat_of m).entries)
    first_in = (place_room, fa.most)

    module _ {s : ℕ} (es : s ≡ first_row m a) where
      pub may_grow_first : at ≡ s → GrowAt m a at r xs
      may_grow_first e = record {
        tuple = g.tuple;
        inside = omega (arith, lt, fb.most);
        least = omega arith;
        most = omega arith;
      }

      pub placed_first : at ≡ s → swapped a (placed_on (tuple_by r xs) (at - first_row m a) (page_at m a)) (pages_of m) ≡ place t (tuple_by r xs) (pages_of m)
      placed_first e = sym (place_first (flat_of m) (filled m place_room) t r.key x refl fa fb lt g.place (e ∙ es))

      module _ (nf : at ≡ s → ⊥) where
        pub behind_first : first_row m a < at
        behind_first = less_than (at_least (flat_of m) (filled m place_room) t r.key x refl fa fb lt g.place) (λ z. nf (sym z ∙ sym es))

        pub place_on_pages : OnPages (flat_of m) a b (at - 1)
        place_on_pages = record {
          some = lt;
          most = fb.most;
          first = omega (arith, behind_first);
          last = omega (arith, behind_first, at_most (flat_of m) (filled m place_room) t r.key x refl fa fb lt g.place);
        }

        module _ {p : ℕ} (o : PageOf (flat_of m) a b (at - 1) p) where
          pub may_grow_later : GrowAt m p at r xs
          may_grow_later =
              let h : p < length (flat_of m).entries = omega (arith, o.high, fb.most) in
              record {
                tuple = g.tuple;
                inside = h;
                least = omega (arith, o.first);
                most = omega (arith, o.last, start_next (flat_of m) p h, behind_first);
              }

          pub placed_later : swapped p (placed_on (tuple_by r xs) (at - first_row m p) (page_at m p)) (pages_of m) ≡ place t (tuple_by r xs) (pages_of m)
          placed_later = sym (place_later (flat_of m) (filled m place_room) t r.key x refl fa fb lt g.place p o behind_first)
