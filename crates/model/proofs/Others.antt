-- An operation at a row leaves all other rows, on any pages.
use Rattle.basics.proofs.Kit.{◌≡◌, refl, sym, ap, ◌∙◌, ap₂, List, [], ◌∷◌, ◌++◌, append_assoc, ℕ, suc, ◌+◌, ◌≤◌, ◌<◌, zero, ◌-◌, ltb, length, take, drop, length-append, length-take}
use Rattle.basics.proofs.Kit.{length-drop, take-append-drop, length-map, take_at, drop-drop, take-append-add, take-append-le, drop-append-add, drop-append-le, drop_at, arith}
use Rattle.basics.specs.Basics.{if'◌then◌else◌, is_empty}
use Rattle.basics.proofs.Facts.{by}
use Rattle.model.specs.State.{Held, Page}
use Rattle.model.specs.Rules.{remove_now, pend_remove, commit_now, pend_commit, is_adding, is_removing}
use Rattle.model.specs.Places.{edit_at, pend_remove_at, commit_row, OnlyRow, OthersStay}
use Rattle.model.specs.Transactions.{tagged}
use Rattle.basics.proofs.Elements.{leb-true, leb-false}
use Rattle.model.proofs.Rows.{Entry, with_table, table_append, table_length, number_of}
use Rattle.model.proofs.Places.{entries_at, removed_on, committed_on, tagged_remove_row, tagged_commit_row, commit_numbers}

-- ---- one element alone

only_self : (i : ℕ) (xs : List Entry) → OnlyRow i xs xs
only_self i xs =
    let d : drop i xs ≡ take 1 (drop i xs) ++ drop (i + 1) xs = sym (take-append-drop 1 (drop i xs)) ∙ ap (λ z. take 1 (drop i xs) ++ z) (drop-drop 1 i xs) in
    record { here = take 1 (drop i xs); few = omega (arith, length-take 1 (drop i xs)); is = sym (take-append-drop i xs) ∙ ap (λ z. take i xs ++ z) d }

only_left : (i : ℕ) (a b c : List Entry) → i < length b → OnlyRow i b a → OnlyRow i (b ++ c) (a ++ c)
only_left i a b c h o =
    let l : i + 1 ≤ length b = omega arith in
    record {
      here = o.here;
      few = o.few;
      is = ap (λ z. z ++ c) o.is ∙ append_assoc (take i b) (o.here ++ drop (i + 1) b) c ∙ ap (λ z. take i b ++ z) (append_assoc o.here (drop (i + 1) b) c)
          ∙ sym (ap₂ (λ x y. x ++ (o.here ++ y)) (take-append-le i b c (omega arith)) (drop-append-le (i + 1) b c l));
    }

only_right : (i : ℕ) (c a b : List Entry) → length c ≤ i → OnlyRow (i - length c) b a → OnlyRow i (c ++ b) (c ++ a)
only_right i c a b h o =
    let k = i - length c in
    let e : i ≡ length c + k = omega arith in
    let f : i + 1 ≡ length c + (k + 1) = omega arith in
    record {
      here = o.here;
      few = o.few;
      is = ap (λ z. c ++ z) o.is ∙ sym (append_assoc c (take k b) (o.here ++ drop (k + 1) b))
          ∙ sym (ap₂ (λ x y. x ++ (o.here ++ y)) (ap (λ n. take n (c ++ b)) e ∙ take-append-add c b k) (ap (λ n. drop n (c ++ b)) f ∙ drop-append-add c b (k + 1)));
    }

-- what follows from it, where the row is there
module _ (i : ℕ) (before after : List Entry) (h : i < length before) (o : OnlyRow i before after) where
  front_length : length (take i before) ≡ i
  front_length = omega (arith, length-take i before)

  pub only_count : length after + 1 ≡ length before + length o.here
  only_count =
      let a = ap length o.is ∙ length-append (take i before) (o.here ++ drop (i + 1) before) in
      let b = length-append o.here (drop (i + 1) before) in
      omega (arith, front_length, length-drop (i + 1) before)

  pub only_front : take i after ≡ take i before
  only_front = ap (take i) o.is ∙ take_at (take i before) (o.here ++ drop (i + 1) before) i front_length

  pub only_behind : drop (i + length o.here) after ≡ drop (i + 1) before
  only_behind =
      sym (drop-drop (length o.here) i after) ∙ ap (drop (length o.here)) (ap (drop i) o.is ∙ drop_at (take i before) (o.here ++ drop (i + 1) before) i front_length)
      ∙ drop_at o.here (drop (i + 1) before) (length o.here) refl

-- ---- one tuple of a page

edit_only : (g : Held → List Held) → ((h : Held) → length (g h) ≤ 1) → (t j : ℕ) (hs : List Held) → j < length hs
    → OnlyRow j (with_table t hs) (with_table t (edit_at g j hs))
unfolding edit_at
edit_only g f t j [] l = absurd (omega arith)
edit_only g f t zero (h ∷ hs) l = record { here = with_table t (g h); few = omega (arith, f h, table_length t (g h)); is = table_append t (g h) hs }
edit_only g f t (suc j) (h ∷ hs) l =
    let z : suc j - 1 ≡ j = omega arith in
    only_right (suc j) ((t, h) ∷ []) (with_table t (edit_at g j hs)) (with_table t hs) (omega arith) (rw z (edit_only g f t j hs (omega arith)))

-- ---- all tuples

only_at : (E : ℕ → Page → List Held)
    → ((j : ℕ) (p : Page) → j < length p.tuples → OnlyRow j (with_table p.table p.tuples) (with_table p.table (E j p)))
    → (i : ℕ) (ps : List Page) → OnlyRow i (tagged ps) (entries_at E i ps)
unfolding entries_at tagged
only_at E f i [] = only_self i []
only_at E f i (p ∷ ps) =
    let l = table_length p.table p.tuples in
    by (ltb i (length p.tuples))
    (λ h. let k = leb-true (suc i) (length p.tuples) h in
    rw (h, entries_at) (only_left i (with_table p.table (E i p)) (with_table p.table p.tuples) (tagged ps) (omega arith) (f i p k)))
    (λ h. let k = leb-false (suc i) (length p.tuples) h in
    rw (h, entries_at) (only_right i (with_table p.table p.tuples) (entries_at E (i - length p.tuples) ps) (tagged ps) (omega arith)
    (rw l (only_at E f (i - length p.tuples) ps))))

later_few : (h : Held) → length (pend_remove h) ≤ 1
unfolding pend_remove if'◌then◌else◌
later_few h = by (is_adding h.pending) (λ k. rw k (omega arith)) (λ k. rw k (omega arith))

pend_commit_few : (h : Held) → length (pend_commit h) ≤ 1
unfolding pend_commit commit_now if'◌then◌else◌
pend_commit_few h = by (is_adding h.pending) (λ k. rw k (omega arith))
    (λ k. by (is_removing h.pending) (λ m. rw (k, m) (omega arith)) (λ m. rw (k, m) (omega arith)))

kept_few : (h : Held) → length (commit_now h) ≤ 1
unfolding commit_now
kept_few h = omega arith

removed_few : (h : Held) → length (remove_now h) ≤ 1
unfolding remove_now
removed_few h = omega arith

removed_only : (j : ℕ) (p : Page) → j < length p.tuples → OnlyRow j (with_table p.table p.tuples) (with_table p.table (removed_on j p))
unfolding removed_on pend_remove_at if'◌then◌else◌
removed_only j p l =
    by p.frozen
    (λ h. by (is_empty (edit_at pend_remove j p.tuples)) (λ k. rw (h, k) (only_self j _)) (λ k. rw (h, k) (edit_only pend_remove later_few p.table j p.tuples l)))
    (λ h. rw h (edit_only remove_now removed_few p.table j p.tuples l))

committed_only : (j : ℕ) (p : Page) → j < length p.tuples → OnlyRow j (with_table p.table p.tuples) (with_table p.table (committed_on j p))
unfolding committed_on if'◌then◌else◌
committed_only j p l =
    by p.frozen (λ h. rw h (edit_only pend_commit pend_commit_few p.table j p.tuples l)) (λ h. rw h (edit_only commit_now kept_few p.table j p.tuples l))

pub others_stay : OthersStay
others_stay i ps = (
  rw (tagged_remove_row i ps) (only_at removed_on removed_only i ps),
  rw (tagged_commit_row i ps) (only_at committed_on committed_only i ps),
  sym (length-map (tagged (commit_row i ps)) number_of) ∙ ap length (commit_numbers i ps)
      ∙ length-map (tagged ps) number_of,
)
