-- Placing a tuple puts its row after all rows whose table and key are not above its own, and before all others.
use Rattle.basics.proofs.Kit.{◌≡◌, refl, sym, ap, ◌∙◌, subst, false, some, none, List, [], ◌∷◌, ◌++◌, append_assoc, map, ℕ, suc, ◌≤◌, ◌<◌, leb, eqb, ltb, length, arith}
use Rattle.basics.specs.Basics.{if'◌then◌else◌}
use Rattle.basics.proofs.Facts.{AllOf, lie, never, by, by-option}
use Rattle.block_forms.specs.Tuple.{Tuple}
use Rattle.image_rows.specs.Rows.{Row}
use Rattle.model.specs.State.{Held, Page}
use Rattle.model.specs.Rules.{after, grown, with_tuples, fresh, split_once, shown, entering, applied, is_removing, is_committing, without_pending, place, place_after, place_front}
use Rattle.model.specs.Sight.{rows, held}
use Rattle.model.specs.Transactions.{tagged}
use Rattle.basics.proofs.Elements.{Pairs, some_eq, leb-true, all_append, all_map, eqb_self, all_two, pairs_parts, all_parts, eqb-true, leb-false, all_mapped}
use Rattle.model.proofs.Splits.{after_none, once_together}
use Rattle.model.proofs.Sound.{PageOk}
use Rattle.model.proofs.Rows.{Entry, as_row, with_table, all_table, tagged_append, tagged_fresh, live_rows, plain, sub_all, live_sub, plain_append, live_append, pairs_plain}
use Rattle.model.proofs.Rows.{held_plain, rows_live}
use Rattle.model.proofs.RuleCases.{after_cases}

-- a stands before b: by table, key, number
abbrev pub Before : Row → Row → Type 0
Before a b = (a.0 ≤ b.0) × (b.0 ≤ a.0 → (a.1.key ≤ b.1.key) × (b.1.key ≤ a.1.key → a.1.number < b.1.number))

abbrev pub NotAbove : ℕ → ℕ → Row → Type 0
NotAbove t k r = (r.0 ≤ t) × (t ≤ r.0 → r.1.key ≤ k)

abbrev pub Above : ℕ → ℕ → Row → Type 0
Above t k r = (t ≤ r.0) × (r.0 ≤ t → k < r.1.key)

-- b with the row x put in is a
pub record Put (x : Row) (a b : List Row) : Type 0 where
  pub low : List Row
  pub high : List Row
  pub was : b ≡ low ++ high
  pub now : a ≡ low ++ x ∷ high
  pub below : AllOf (NotAbove x.0 x.1.key) low
  pub above : AllOf (Above x.0 x.1.key) high

-- ---- the same on tagged

abbrev Earlier : Entry → Entry → Type 0
Earlier a b = Before (as_row a) (as_row b)

abbrev Low : ℕ → ℕ → Entry → Type 0
Low t k e = NotAbove t k (as_row e)

abbrev High : ℕ → ℕ → Entry → Type 0
High t k e = Above t k (as_row e)

record Slot (t : ℕ) (x : Held) (a b : List Entry) : Type 0 where
  low : List Entry
  high : List Entry
  was : b ≡ low ++ high
  now : a ≡ low ++ (t, x) ∷ high
  below : AllOf (Low t x.tuple.key) low
  above : AllOf (High t x.tuple.key) high

-- and there is an entry not above: what is before all of b is not above
record SlotAfter (t : ℕ) (x : Held) (a b : List Entry) : Type 0 where
  put : Slot t x a b
  under : (z : Entry) → AllOf (Earlier z) b → Low t x.tuple.key z

after_put : (t : ℕ) (x : Held) (ys zs : List Held) → after x ys ≡ some zs → Pairs Earlier (with_table t ys)
    → SlotAfter t x (with_table t zs) (with_table t ys)
unfolding after if'◌then◌else◌
after_put t x [] zs e s = never e
after_put t x (y ∷ ys) zs e s =
    by-option (after x ys)
    (λ n. by (leb y.tuple.key x.tuple.key)
    (λ h. let k : y ∷ x ∷ ys ≡ zs = some_eq (rw (n, h) at e) in
    let l = leb-true y.tuple.key x.tuple.key h in
    subst (λ q. SlotAfter t x (with_table t q) ((t, y) ∷ with_table t ys)) k (record {
      put = record {
        low = (t, y) ∷ [];
        high = with_table t ys;
        was = refl;
        now = refl;
        below = ((omega arith, λ u. l), tt);
        above = all_table _ _ t
            (λ z u. (omega arith, λ v. u)) ys (after_none x ys n);
      };
      under = λ z a. (a.0.0, λ u. let v = a.0.1 u in omega arith);
    }))
    (λ h. never (rw (n, h) at e)))
    (λ ws n. let k : y ∷ ws ≡ zs = some_eq (rw (n, after) at e) in
    let r = after_put t x ys ws n s.1 in
    subst (λ q. SlotAfter t x (with_table t q) ((t, y) ∷ with_table t ys)) k (record {
      put = record {
        low = (t, y) ∷ r.put.low;
        high = r.put.high;
        was = ap (λ q. (t, y) ∷ q) r.put.was;
        now = ap (λ q. (t, y) ∷ q)
            r.put.now;
        below = (r.under (t, y) s.0, r.put.below);
        above = r.put.above;
      };
      under = λ z a. r.under z a.1;
    }))

-- ---- in front, and behind

put_front : (t : ℕ) (x : Held) (c a b : List Entry) → AllOf (Low t x.tuple.key) c → Slot t x a b → Slot t x (c ++ a) (c ++ b)
put_front t x c a b h r = record {
  low = c ++ r.low;
  high = r.high;
  was = ap (λ q. c ++ q) r.was ∙ sym (append_assoc c r.low r.high);
  now = ap (λ q. c ++ q) r.now ∙ sym (append_assoc c r.low ((t, x) ∷ r.high));
  below = all_append _ c r.low h r.below;
  above = r.above;
}

put_back : (t : ℕ) (x : Held) (c a b : List Entry) → AllOf (High t x.tuple.key) c → Slot t x a b → Slot t x (a ++ c) (b ++ c)
put_back t x c a b h r = record {
  low = r.low;
  high = r.high ++ c;
  was = ap (λ q. q ++ c) r.was ∙ append_assoc r.low r.high c;
  now = ap (λ q. q ++ c) r.now ∙ append_assoc r.low ((t, x) ∷ r.high) c;
  below = r.below;
  above = all_append _ r.high c r.above h;
}

put_first : (t : ℕ) (x : Held) (b : List Entry) → AllOf (High t x.tuple.key) b → Slot t x ((t, x) ∷ b) b
put_first t x b h = record { low = []; high = b; was = refl; now = refl; below = tt; above = h }

-- ---- pages

entries_grown : (p : Page) (ts : List Held) (ps : List Page) → tagged (grown p ts ++ ps) ≡ with_table p.table ts ++ tagged ps
unfolding tagged grown with_tuples if'◌then◌else◌
entries_grown p ts ps = by p.frozen (λ f. rw f)
    (λ f. rw (f, tagged_append (map (fresh p.table) (split_once ts)), tagged_fresh p.table (split_once ts), once_together))

shown_full : (ts : List Held) → 0 < length (shown ts) → 0 < length ts
unfolding shown
shown_full [] h = h
shown_full (x ∷ xs) h = omega arith

pub page_full : (p : Page) → PageOk p → 0 < length p.tuples
page_full p o = by p.frozen (λ h. shown_full p.tuples (o.2 h).1) (λ h. (o.1 h).2)

-- all that is held from a page on has its table or a higher one
tables_up : (p : Page) (ps : List Page) → PageOk p → Pairs Earlier (tagged (p ∷ ps)) → AllOf (λ r. p.table ≤ r.0) (tagged (p ∷ ps))
unfolding tagged
tables_up p ps o s = go p.tuples (page_full p o) s
  where
    go : (ts : List Held) → 0 < length ts → Pairs Earlier (with_table p.table ts ++ tagged ps)
        → AllOf (λ r. p.table ≤ r.0) (with_table p.table ts ++ tagged ps)
    go [] h s = absurd (omega arith)
    go (x ∷ xs) h s = (
      omega arith,
      all_map (Earlier (p.table, x)) (λ r. p.table ≤ r.0) (λ r u. u.0)
          (with_table p.table xs ++ tagged ps) s.0,
    )

-- the tuple as it is put: pending add on a frozen page
abbrev Enters : Tuple → Held → Type 0
Enters x y = (y.tuple ≡ x) × ((t : ℕ) → live_rows ((t, y) ∷ []) ≡ (t, x) ∷ [])

enters_page : (p : Page) (x : Tuple) → Enters x (entering p x)
unfolding entering live_rows if'◌then◌else◌ applied is_removing is_committing
enters_page p x = (refl, λ t. by p.frozen (λ f. rw f) (λ f. rw f))

enters_without_pending : (x : Tuple) → Enters x (without_pending x)
unfolding without_pending live_rows if'◌then◌else◌ applied is_removing is_committing
enters_without_pending x = (refl, λ t. refl)

-- ---- all pages

-- where no tuple of the table has a key not above
abbrev Clear : ℕ → ℕ → Entry → Type 0
Clear t k r = r.0 ≡ t → k < r.1.tuple.key

off_clear : (t k u : ℕ) (ts : List Held) → eqb u t ≡ false → AllOf (Clear t k) (with_table u ts)
off_clear t k u [] h = tt
off_clear t k u (y ∷ ys) h = (λ e. lie (sym h ∙ ap (λ z. eqb z t) e ∙ eqb_self t), off_clear t k u ys h)

lower_rows : (t k u : ℕ) (ts : List Held) → u < t → AllOf (Low t k) (with_table u ts)
lower_rows t k u [] h = tt
lower_rows t k u (z ∷ zs) h = ((omega arith, λ v. absurd (omega arith)), lower_rows t k u zs h)

place_after_clear : (t : ℕ) (x : Tuple) (ps : List Page) → place_after t x ps ≡ none → AllOf (Clear t x.key) (tagged ps)
unfolding place_after tagged if'◌then◌else◌ entering
place_after_clear t x [] e = tt
place_after_clear t x (p ∷ ps) e =
    by-option (place_after t x ps)
    (λ n. by (eqb p.table t)
    (λ h. by-option (after (entering p x) p.tuples)
    (λ m. all_append _ (with_table p.table p.tuples) (tagged ps)
    (all_table _ _ p.table (λ z u v. u) p.tuples (after_none (entering p x) p.tuples m)) (place_after_clear t x ps n))
    (λ ts m. never (sym (rw (n, h, m) at e))))
    (λ h. all_append _ (with_table p.table p.tuples) (tagged ps) (off_clear t x.key p.table p.tuples h) (place_after_clear t x ps n)))
    (λ qs n. never (sym (rw (n, place_after) at e)))

clear_above : (t k : ℕ) (rs : List Entry) → AllOf (Clear t k) rs → AllOf (λ r. t ≤ r.0) rs → AllOf (High t k) rs
clear_above t k rs a b = all_two (Clear t k) (λ r. t ≤ r.0) (High t k) (λ r f l. (l, λ u. f (omega arith))) rs a b

module _ (t : ℕ) (x : Tuple) where
  abbrev Placed : List Entry → List Entry → Type 0
  Placed a b = (y : Held) × Enters x y × Slot t y a b

  abbrev PlacedAfter : List Entry → List Entry → Type 0
  PlacedAfter a b = (y : Held) × Enters x y × SlotAfter t y a b

  here_put : (p : Page) (ts : List Held) (ps : List Page) → p.table ≡ t → after (entering p x) p.tuples ≡ some ts → PageOk p
      → Pairs Earlier (tagged (p ∷ ps)) → AllOf (Clear t x.key) (tagged ps)
      → PlacedAfter (tagged (grown p ts ++ ps)) (tagged (p ∷ ps))
  unfolding tagged entering
  here_put p ts ps e m o s c =
      let up = tables_up p ps o s in
      let r = after_put p.table (entering p x) p.tuples ts m (pairs_parts Earlier (with_table p.table p.tuples) (tagged ps) s).0 in (
        entering p x,
        enters_page p x,
        subst (λ u. SlotAfter u (entering p x) (tagged (grown p ts ++ ps)) (tagged (p ∷ ps))) e (rw (entries_grown p ts ps) (record {
          put = put_back p.table (entering p x) (tagged ps) _ _
              (clear_above p.table x.key (tagged ps) (rw e c) (all_parts _ (with_table p.table p.tuples) (tagged ps) up).1) r.put;
          under = λ z a. r.under z (all_parts (Earlier z) (with_table p.table p.tuples) (tagged ps) a).0;
        })),
      )

  all_under : (c a b : List Entry) (y : Held) → SlotAfter t y a b → Pairs Earlier (c ++ b) → AllOf (Low t y.tuple.key) c
  all_under c a b y r s = all_map (λ z. AllOf (Earlier z) b) (Low t y.tuple.key) (λ z h. r.under z h) c (pairs_parts Earlier c b s).2

  place_after_put : (ps qs : List Page) → place_after t x ps ≡ some qs → AllOf PageOk ps → Pairs Earlier (tagged ps)
      → PlacedAfter (tagged qs) (tagged ps)
  unfolding place_after if'◌then◌else◌
  place_after_put [] qs e o s = never e
  place_after_put (p ∷ ps) qs e o s =
      after_cases t x p ps qs e (λ ts n h m k. subst (λ q. PlacedAfter (tagged q) (tagged (p ∷ ps))) k (here_put p ts ps (eqb-true p.table t h) m o.0 s (place_after_clear t x ps n)))
      (λ ws n k. let s' : Pairs Earlier (with_table p.table p.tuples ++ tagged ps) = unfold tagged in s in
      let r = place_after_put ps ws n o.1 (pairs_parts Earlier (with_table p.table p.tuples) (tagged ps) s').1 in
      subst (λ q. PlacedAfter (tagged q) (tagged (p ∷ ps))) k (past p ps ws s' r))
    where
      past : (p : Page) (ps ws : List Page) → Pairs Earlier (with_table p.table p.tuples ++ tagged ps) → PlacedAfter (tagged ws) (tagged ps)
          → PlacedAfter (tagged (p ∷ ws)) (tagged (p ∷ ps))
      past p ps ws s r = unfold tagged in (
        r.0,
        r.1,
        record {
          put = put_front t r.0 (with_table p.table p.tuples) (tagged ws) (tagged ps)
              (all_under (with_table p.table p.tuples) (tagged ws) (tagged ps) r.0 r.2 s) r.2.put;
          under = λ z a. r.2.under z (all_parts (Earlier z) (with_table p.table p.tuples) (tagged ps) a).1;
        },
      )

  front_eq : (p : Page) (ps : List Page) → tagged (grown p (entering p x ∷ p.tuples) ++ ps) ≡ (p.table, entering p x) ∷ tagged (p ∷ ps)
  unfolding tagged
  front_eq p ps = entries_grown p (entering p x ∷ p.tuples) ps

  front_new : (ps : List Page) → tagged (fresh t (without_pending x ∷ []) ∷ ps) ≡ (t, without_pending x) ∷ tagged ps
  unfolding tagged fresh
  front_new ps = refl

  front_past : (p : Page) (ps qs : List Page) → Placed (tagged qs) (tagged ps) → p.table < t → Placed (tagged (p ∷ qs)) (tagged (p ∷ ps))
  unfolding tagged
  front_past p ps qs r h = (
    r.0,
    r.1,
    put_front t r.0 (with_table p.table p.tuples) (tagged qs) (tagged ps)
        (lower_rows t r.0.tuple.key p.table p.tuples h) r.2,
  )

  front_same : (p : Page) (ps : List Page) → p.table ≡ t → AllOf (High t x.key) (tagged (p ∷ ps))
      → Placed (tagged (grown p (entering p x ∷ p.tuples) ++ ps)) (tagged (p ∷ ps))
  unfolding entering
  front_same p ps e a = (
    entering p x,
    enters_page p x,
    subst (λ u. Slot t (entering p x) u (tagged (p ∷ ps)))
        (sym (front_eq p ps ∙ ap (λ u. (u, entering p x) ∷ tagged (p ∷ ps)) e)) (put_first t (entering p x) (tagged (p ∷ ps)) a),
  )

  front_other : (ps : List Page) → AllOf (High t x.key) (tagged ps) → Placed (tagged (fresh t (without_pending x ∷ []) ∷ ps)) (tagged ps)
  unfolding without_pending
  front_other ps a = (without_pending x, enters_without_pending x, subst (λ u. Slot t (without_pending x) u (tagged ps)) (sym (front_new ps)) (put_first t (without_pending x) (tagged ps) a))

  front_step : (p : Page) (ps : List Page) → AllOf (Clear t x.key) (tagged (p ∷ ps)) → PageOk p → Pairs Earlier (tagged (p ∷ ps))
      → Placed (tagged (place_front t x ps)) (tagged ps) → Placed (tagged (place_front t x (p ∷ ps))) (tagged (p ∷ ps))
  unfolding place_front if'◌then◌else◌
  front_step p ps c o s r =
      let up = tables_up p ps o s in
      by (ltb p.table t)
      (λ h. rw h (front_past p ps (place_front t x ps) r (leb-true (suc p.table) t h)))
      (λ h. let g : t ≤ p.table = omega (arith, leb-false (suc p.table) t h) in
      let a = clear_above t x.key (tagged (p ∷ ps)) c (all_map (λ r. p.table ≤ r.0) (λ r. t ≤ r.0) (λ r u. omega arith) (tagged (p ∷ ps)) up) in
      by (eqb p.table t)
      (λ k. rw (h, k) (front_same p ps (eqb-true p.table t k) a))
      (λ k. rw (h, k) (front_other (p ∷ ps) a)))

  tail_clear : (p : Page) (ps : List Page) → AllOf (Clear t x.key) (tagged (p ∷ ps)) → AllOf (Clear t x.key) (tagged ps)
  unfolding tagged
  tail_clear p ps c = (all_parts (Clear t x.key) (with_table p.table p.tuples) (tagged ps) c).1

  tail_rising : (p : Page) (ps : List Page) → Pairs Earlier (tagged (p ∷ ps)) → Pairs Earlier (tagged ps)
  unfolding tagged
  tail_rising p ps s = (pairs_parts Earlier (with_table p.table p.tuples) (tagged ps) s).1

  front_nil : Placed (tagged (place_front t x [])) (tagged [])
  unfolding place_front tagged
  front_nil = front_other [] tt

  place_front_put : (ps : List Page) → AllOf (Clear t x.key) (tagged ps) → AllOf PageOk ps → Pairs Earlier (tagged ps)
      → Placed (tagged (place_front t x ps)) (tagged ps)
  place_front_put [] c o s = front_nil
  place_front_put (p ∷ ps) c o s = front_step p ps c o.0 s (place_front_put ps (tail_clear p ps c) o.1 (tail_rising p ps s))

  place_entries : (ps : List Page) → AllOf PageOk ps → Pairs Earlier (tagged ps) → Placed (tagged (place t x ps)) (tagged ps)
  unfolding place
  place_entries ps o s =
      by-option (place_after t x ps)
      (λ n. rw (n, place) (place_front_put ps (place_after_clear t x ps n) o s))
      (λ qs n. let r = place_after_put ps qs n o s in rw (n, place) (r.0, r.1, r.2.put))

-- ---- what is held, and what is live

low_live : (t k : ℕ) (es : List Entry) → AllOf (NotAbove t k) (plain es) → AllOf (NotAbove t k) (live_rows es)
low_live t k es a =
    sub_all (NotAbove t k) (NotAbove t k) (λ a b e h. (omega (arith, e.0, h.0), λ u. let z = h.1 (omega (arith, e.0)) in omega (arith, e.1))) (live_sub es) a

high_live : (t k : ℕ) (es : List Entry) → AllOf (Above t k) (plain es) → AllOf (Above t k) (live_rows es)
high_live t k es a =
    sub_all (Above t k) (Above t k) (λ a b e h. (omega (arith, e.0, h.0), λ u. let z = h.1 (omega (arith, e.0)) in omega (arith, e.1))) (live_sub es) a

module _ (t : ℕ) (x : Tuple) (y : Held) (e : Enters x y) (a b : List Entry) (s : Slot t y a b) where
  below : AllOf (NotAbove t x.key) (plain s.low)
  below = subst (λ z. AllOf (NotAbove t z.key) (plain s.low)) e.0 (all_mapped (NotAbove t y.tuple.key) as_row s.low s.below)

  above : AllOf (Above t x.key) (plain s.high)
  above = subst (λ z. AllOf (Above t z.key) (plain s.high)) e.0 (all_mapped (Above t y.tuple.key) as_row s.high s.above)

  plain_put : Put (t, x) (plain a) (plain b)
  plain_put = record {
    low = plain s.low;
    high = plain s.high;
    was = ap plain s.was ∙ plain_append s.low s.high;
    now = ap plain s.now ∙ plain_append s.low ((t, y) ∷ s.high) ∙ ap (λ z. plain s.low ++ (t, z) ∷ plain s.high) e.0;
    below = below;
    above = above;
  }

  live_put : Put (t, x) (live_rows a) (live_rows b)
  live_put = record {
    low = live_rows s.low;
    high = live_rows s.high;
    was = ap live_rows s.was ∙ live_append s.low s.high;
    now = ap live_rows s.now ∙ live_append s.low ((t, y) ∷ s.high)
        ∙ ap (λ z. live_rows s.low ++ z) (live_append ((t, y) ∷ []) s.high ∙ ap (λ z. z ++ live_rows s.high) (e.1 t));
    below = low_live t x.key s.low below;
    above = high_live t x.key s.high above;
  }

pub place_put : (t : ℕ) (x : Tuple) (ps : List Page) → AllOf PageOk ps → Pairs Before (held ps)
    → Put (t, x) (held (place t x ps)) (held ps) × Put (t, x) (rows (place t x ps)) (rows ps)
place_put t x ps o s =
    let qs = place t x ps in
    let r = place_entries t x ps o (pairs_plain Before (tagged ps) (subst (Pairs Before) (held_plain ps) s)) in (
      subst (Put (t, x) (held qs)) (sym (held_plain ps))
          (subst (λ z. Put (t, x) z (plain (tagged ps))) (sym (held_plain qs)) (plain_put t x r.0 r.1 (tagged qs) (tagged ps) r.2)),
      subst (Put (t, x) (rows qs)) (sym (rows_live ps))
          (subst (λ z. Put (t, x) z (live_rows (tagged ps))) (sym (rows_live qs)) (live_put t x r.0 r.1 (tagged qs) (tagged ps) r.2)),
    )
