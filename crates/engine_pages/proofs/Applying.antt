-- Pending operations applied: to one row, to the rows of a page, and the page that they leave.
use Rattle.basics.proofs.Kit.{◌≡◌, refl, sym, ap, ◌∙◌, subst, true, false, List, [], ◌∷◌, ◌++◌, append_assoc, append-nil, map, ℕ, suc, ◌+◌, ◌≤◌, ◌<◌, ◌-◌, add-one, length, take, drop, get_or}
use Rattle.basics.proofs.Kit.{set, length-append, length-drop, take-append-drop, length-set, set_split, take_at, drop_at, drop-cons, take-suc, get_or-drop, length-take-le, get_or-set_same}
use Rattle.basics.proofs.Kit.{set-get_or, set-set, get_or-append_seam, arith}
use Rattle.basics.specs.Basics.{if'◌then◌else◌, sum}
use Rattle.basics.proofs.Facts.{by}
use Rattle.model.specs.State.{nothing, Held}
use Rattle.model.specs.Rules.{is_removing, is_committing, with_pending, without_pending, applied, live}
use Rattle.basics.specs.Lists.{remove_at}
use Rattle.memory_layout.specs.Flat.{Flat, flat_of, entry_in, row_in, no_row, no_entry, Room, Becomes, with_rows, with_entries}
use Rattle.memory_layout.specs.Store.{nest, total, page_of, page_in}
use Rattle.memory_layout.specs.declared.Entry.{Entry}
use Rattle.memory_layout.proofs.Laws.{becomes_then}
use Rattle.memory_layout.proofs.Exchange.{for_page, page_set}
use Rattle.memory_rows.specs.Rows.{committed_row, with_row}
use Rattle.memory_pages.specs.Pages.{dirty, with_count, fewer_rows, MayLose, EntriesBecome, RowsBecome, set_block}
use Rattle.engine_pages.specs.Pages.{PagesNow, pages_of, tuples_at, entry_of, first_row, There, swapped}
use Rattle.engine_pages.specs.Pending.{apply_pending, applied_all, AppliesOne, Applies, Applied}
use Rattle.engine_pages.proofs.Places.{full, room, page_end, still_there}
use Rattle.basics.proofs.Numbers.{pos_of}
use Rattle.basics.proofs.Elements.{length_zero}
use Rattle.engine_pages.proofs.Rows.{now_dirty, now_dropped}

-- ---- tuples

applied_removed : (h : Held) → is_removing h.pending ≡ true → apply_pending h ≡ []
unfolding apply_pending if'◌then◌else◌
applied_removed h e = rw e

applied_kept : (h : Held) → is_removing h.pending ≡ false → apply_pending h ≡ without_pending (applied h) ∷ []
unfolding apply_pending if'◌then◌else◌
applied_kept h e = rw e

pub applied_live : (hs : List Held) → applied_all hs ≡ map without_pending (live hs)
unfolding applied_all live apply_pending if'◌then◌else◌
applied_live [] = refl
applied_live (h ∷ hs) = by (is_removing h.pending) (λ e. rw e (applied_live hs)) (λ e. rw e (ap (λ (z : List Held). without_pending (applied h) ∷ z) (applied_live hs)))

applied_append : (xs ys : List Held) → applied_all (xs ++ ys) ≡ applied_all xs ++ applied_all ys
unfolding applied_all
applied_append [] ys = refl
applied_append (x ∷ xs) ys = ap (λ (z : List Held). apply_pending x ++ z) (applied_append xs ys) ∙ sym (append_assoc (apply_pending x) (applied_all xs) (applied_all ys))

applied_one : (h : Held) → length (apply_pending h) ≤ 1
applied_one h = by (is_removing h.pending) (λ e. omega (arith, ap length (applied_removed h e))) (λ e. omega (arith, ap length (applied_kept h e)))

kept_committing : (h : Held) → is_committing h.pending ≡ true → with_pending nothing (committed_row h) ≡ without_pending (applied h)
unfolding with_pending committed_row without_pending applied if'◌then◌else◌
kept_committing h e = rw e

kept_other : (h : Held) → is_committing h.pending ≡ false → with_pending nothing h ≡ without_pending (applied h)
unfolding with_pending without_pending applied if'◌then◌else◌
kept_other h e = rw e

-- ---- one row

module _ (m : List ℕ) (i : ℕ) where
  -- a row committed is still there
  pub still_row : i < length (flat_of m).rows → {m1 : List ℕ} → Becomes m m1 (with_row (flat_of m) i (committed_row (row_in (flat_of m) i))) → i < length (flat_of m1).rows
  still_row lt u = omega (arith, ap (λ (f : Flat). length f.rows) u.flat, length-set (flat_of m).rows i (committed_row (row_in (flat_of m) i)))

  pub kept_both : i < length (flat_of m).rows → {m1 m2 : List ℕ} → is_committing (row_in (flat_of m) i).pending ≡ true
      → Becomes m m1 (with_row (flat_of m) i (committed_row (row_in (flat_of m) i)))
      → Becomes m1 m2 (with_row (flat_of m1) i (with_pending nothing (row_in (flat_of m1) i)))
      → Becomes m m2 (with_row (flat_of m) i (without_pending (applied (row_in (flat_of m) i))))
  kept_both lt {m1} {m2} e u v =
      let rs : List Held = (flat_of m).rows in
      let h : Held = row_in (flat_of m) i in
      let es : set (set rs i (committed_row h)) i (with_pending nothing (get_or (set rs i (committed_row h)) i no_row)) ≡ set rs i (without_pending (applied h)) =
      set-set rs i (committed_row h) _ ∙ ap (λ (z : Held). set rs i (with_pending nothing z)) (get_or-set_same rs i (committed_row h) no_row lt) ∙ ap (set rs i) (kept_committing h e) in
      subst (λ (z : List Held). Becomes m m2 (with_rows (flat_of m) z)) es
      (becomes_then m m1 m2 _ (λ (y : Flat). with_row y i (with_pending nothing (row_in y i))) u v)

  pub kept_one : {m' : List ℕ} → is_committing (row_in (flat_of m) i).pending ≡ false → Becomes m m' (with_row (flat_of m) i (with_pending nothing (row_in (flat_of m) i)))
      → Becomes m m' (with_row (flat_of m) i (without_pending (applied (row_in (flat_of m) i))))
  kept_one {m'} e u = subst (λ (z : Held). Becomes m m' (with_row (flat_of m) i z)) (kept_other (row_in (flat_of m) i) e) u

module _ {m m' : List ℕ} {p i : ℕ} (g : Room m × MayLose (flat_of m) p i) where
  pub row_removed : is_removing (row_in (flat_of m) i).pending ≡ true
      → RowsBecome m m' (remove_at i) (fewer_rows p) → AppliesOne m m' p i 0
  row_removed e u =
      let a : apply_pending (row_in (flat_of m) i) ≡ [] = applied_removed (row_in (flat_of m) i) e in
      let z : (entry_of m p).count - 1 ≡ (entry_of m p).count - 1 + 0 = omega arith in
      record {
        count = sym (ap length a);
        becomes = subst (λ (k : ℕ). Becomes m m' (with_entries (with_rows (flat_of m) (take i (flat_of m).rows ++ (apply_pending (row_in (flat_of m) i) ++ drop (i + 1) (flat_of m).rows)))
            (set (flat_of m).entries p (with_count (entry_of m p) k)))) z
            (subst (λ (y : List Held). Becomes m m' (with_entries (with_rows (flat_of m) (take i (flat_of m).rows ++ (y ++ drop (i + 1) (flat_of m).rows))) (fewer_rows p (flat_of m).entries)))
            (sym a) u);
      }

  pub row_kept : is_removing (row_in (flat_of m) i).pending ≡ false → Becomes m m' (with_row (flat_of m) i (without_pending (applied (row_in (flat_of m) i)))) → AppliesOne m m' p i 1
  row_kept e u =
      let es : List Entry = (flat_of m).entries in
      let rs : List Held = (flat_of m).rows in
      let x : Held = without_pending (applied (row_in (flat_of m) i)) in
      let a : apply_pending (row_in (flat_of m) i) ≡ x ∷ [] = applied_kept (row_in (flat_of m) i) e in
      let n : (entry_of m p).count ≡ (entry_of m p).count - 1 + 1 = omega (arith, g.1.rows) in
      let se : es ≡ set es p (with_count (entry_of m p) ((entry_of m p).count - 1 + 1)) =
      sym (set-get_or es p no_entry) ∙ ap (λ (k : ℕ). set es p (with_count (entry_of m p) k)) n in
      let sr : set rs i x ≡ take i rs ++ (apply_pending (row_in (flat_of m) i) ++ drop (i + 1) rs) =
      set_split rs i x g.1.row ∙ ap (λ (k : ℕ). take i rs ++ x ∷ drop k rs) (sym (add-one i)) ∙ ap (λ (z : List Held). take i rs ++ (z ++ drop (i + 1) rs)) (sym a) in
      record {
        count = sym (ap length a);
        becomes = record {
          size = u.size;
          room = u.room;
          flat = u.flat ∙ ap (λ (z : List Held). with_rows (flat_of m) z) sr ∙ ap
              (λ (z : List Entry). with_entries (with_rows (flat_of m) (take i rs ++ (apply_pending (row_in (flat_of m) i) ++ drop (i + 1) rs))) z) se;
        };
      }

-- a row leaves one row at most
pub one_most : {m m' : List ℕ} {p i : ℕ} (r : ℕ) → AppliesOne m m' p i r → r ≤ 1
one_most {m} {m'} {p} {i} r o = omega (arith, o.count, applied_one (row_in (flat_of m) i))

-- ---- turn by turn: k rows of page p are done, and row i is next

-- rows of page p with k of them done
abbrev pub done_rows : List ℕ → ℕ → ℕ → List Held
done_rows m p k = take (first_row m p) (flat_of m).rows ++ (applied_all (take k (drop (first_row m p) (flat_of m).rows)) ++ drop (first_row m p + k) (flat_of m).rows)

pub record ApplyInv (m m1 : List ℕ) (p left i : ℕ) : Type 0 where
  pub most : left ≤ (entry_of m p).count
  pub place : i ≡ first_row m p + length (applied_all (take ((entry_of m p).count - left) (drop (first_row m p) (flat_of m).rows)))
  pub becomes : Becomes m m1 (with_entries (with_rows (flat_of m) (done_rows m p ((entry_of m p).count - left)))
      (set (flat_of m).entries p (with_count (entry_of m p) (i - first_row m p + left))))

module _ {m : List ℕ} {p : ℕ} (a : There m p) where
  pub apply_start : {s n : ℕ} → s ≡ first_row m p → n ≡ (entry_of m p).count → ApplyInv m m p n s
  unfolding applied_all
  apply_start {s} {n} e en =
      let rs : List Held = (flat_of m).rows in
      let f1 : ℕ = first_row m p in
      let z : (entry_of m p).count - n ≡ 0 = omega arith in
      let s0 : f1 + 0 ≡ f1 = omega arith in
      let k : s - f1 + n ≡ (entry_of m p).count = omega arith in
      let er : done_rows m p ((entry_of m p).count - n) ≡ rs = ap (done_rows m p) z ∙ ap (λ (k : ℕ). take f1 rs ++ drop k rs) s0 ∙ take-append-drop f1 rs in
      let ee : set (flat_of m).entries p (with_count (entry_of m p) (s - f1 + n)) ≡ (flat_of m).entries =
      ap (λ (j : ℕ). set (flat_of m).entries p (with_count (entry_of m p) j)) k ∙ set-get_or (flat_of m).entries p no_entry in
      record {
        most = omega arith;
        place = sym (ap (λ (k : ℕ). f1 + length (applied_all (take k (drop f1 rs)))) z ∙ omega arith);
        becomes = record {
          size = refl;
          room = room a;
          flat = sym (ap (λ (y : List Held). with_entries (with_rows (flat_of m) y)
              (set (flat_of m).entries p (with_count (entry_of m p) (s - f1 + n)))) er ∙ ap (λ (y : List Entry). with_entries (flat_of m) y) ee);
        };
      }

  module _ {m1 : List ℕ} {left i : ℕ} (pos : 0 < left) (inv : ApplyInv m m1 p left i) where
    abbrev rs : List Held
    rs = (flat_of m).rows

    abbrev s : ℕ
    s = first_row m p

    abbrev n : ℕ
    n = (entry_of m p).count

    abbrev done : ℕ
    done = (entry_of m p).count - left

    abbrev A : List Held
    A = take (first_row m p) (flat_of m).rows

    abbrev B : List Held
    B = applied_all (take ((entry_of m p).count - left) (drop (first_row m p) (flat_of m).rows))

    abbrev x : Held
    x = get_or (flat_of m).rows (first_row m p + ((entry_of m p).count - left)) no_row

    abbrev D : List Held
    D = drop (suc (first_row m p + ((entry_of m p).count - left))) (flat_of m).rows

    l0 : left ≤ (entry_of m p).count
    l0 = inv.most

    rows_front : (flat_of m1).rows ≡ (A ++ B) ++ x ∷ D
    rows_front =
        ap (λ (f : Flat). f.rows) inv.becomes.flat
        ∙ ap (λ (z : List Held). A ++ (B ++ z)) (drop-cons rs (s + done) no_row (omega (arith, l0, page_end a)))
        ∙ sym (append_assoc A B (x ∷ D))

    front_long : length (A ++ B) ≡ i
    front_long = length-append A B ∙ omega (arith, inv.place, length-take-le s rs (omega (arith, page_end a)))

    inside : i < length (flat_of m1).rows
    inside = omega (arith, ap length rows_front, length-append (A ++ B) (x ∷ D), front_long)

    row_is : row_in (flat_of m1) i ≡ x
    row_is = ap (λ (z : List Held). get_or z i no_row) rows_front ∙ ap (λ (k : ℕ). get_or ((A ++ B) ++ x ∷ D) k no_row) (sym front_long) ∙ get_or-append_seam (A ++ B) x D no_row

    entry_is : entry_of m1 p ≡ with_count (entry_of m p) (i - first_row m p + left)
    entry_is = ap (λ (f : Flat). entry_in f p) inv.becomes.flat ∙ get_or-set_same (flat_of m).entries p _ no_entry a.inside

    pub apply_may : Room m1 × MayLose (flat_of m1) p i
    apply_may = (
      inv.becomes.room,
      record {
        place = still_there p inv.becomes (omega (arith, length-set (flat_of m).entries p (with_count (entry_of m p) (i - first_row m p + left)), a.inside));
        rows = omega (arith, ap (λ (e : Entry). e.count) entry_is);
        row = inside;
      },
    )

    take_more : applied_all (take ((entry_of m p).count - (left - 1)) (drop (first_row m p) (flat_of m).rows)) ≡ B ++ apply_pending x
    unfolding applied_all
    take_more =
        let lt : done < length (drop s rs) = simp length-drop (omega (arith, l0, page_end a)) in
        let more : n - (left - 1) ≡ suc done = omega (arith, l0) in
        ap (λ (z : ℕ). applied_all (take z (drop s rs))) more
        ∙ ap applied_all (take-suc (drop s rs) done no_row lt)
        ∙ ap (λ (z : Held). applied_all (take done (drop s rs) ++ z ∷ [])) (get_or-drop s rs done no_row)
        ∙ applied_append (take done (drop s rs)) (x ∷ [])
        ∙ ap (λ (z : List Held). B ++ z) (append-nil (apply_pending x))

    pub apply_next : {m2 : List ℕ} (r : ℕ) → AppliesOne m1 m2 p i r → ApplyInv m m2 p (left - 1) (i + r)
    apply_next {m2} r o =
        let y : List Held = apply_pending x in
        let oc : apply_pending (row_in (flat_of m1) i) ≡ y = ap apply_pending row_is in
        let long : length ((A ++ B) ++ x ∷ []) ≡ i + 1 = length-append (A ++ B) (x ∷ []) ∙ omega (arith, front_long) in
        let dr : drop (i + 1) (flat_of m1).rows ≡ D = ap (drop (i + 1)) (rows_front ∙ sym (append_assoc (A ++ B) (x ∷ []) D)) ∙ drop_at ((A ++ B) ++ x ∷ []) D (i + 1) long in
        let tk : take i (flat_of m1).rows ≡ A ++ B = ap (take i) rows_front ∙ take_at (A ++ B) (x ∷ D) i front_long in
        let sd : suc (s + done) ≡ s + (n - (left - 1)) = omega (arith, l0) in
        let new : take i (flat_of m1).rows ++ (apply_pending (row_in (flat_of m1) i) ++ drop (i + 1) (flat_of m1).rows) ≡ done_rows m p (n - (left - 1)) =
        (λ j. tk j ++ (oc j ++ dr j))
        ∙ append_assoc A B (y ++ D)
        ∙ ap (λ (z : List Held). A ++ z) (sym (append_assoc B y D))
        ∙ (λ j. A ++ (sym take_more j ++ drop (sd j) rs)) in
        let il : s ≤ i = omega (arith, inv.place) in
        let c : i - s + left - 1 + r ≡ i + r - s + (left - 1) = omega arith in
        let old : Entry = with_count (entry_of m p) (i - s + left) in
        let ee : set (flat_of m1).entries p (with_count (entry_of m1 p) ((entry_of m1 p).count - 1 + r)) ≡ set (flat_of m).entries p (with_count (entry_of m p) (i + r - s + (left - 1))) =
        ap (λ (e : Entry). set (flat_of m1).entries p (with_count e (e.count - 1 + r))) entry_is
        ∙ ap (λ (f : Flat). set f.entries p (with_count (entry_of m p) (i - s + left - 1 + r))) inv.becomes.flat
        ∙ set-set (flat_of m).entries p old _
        ∙ ap (λ (k : ℕ). set (flat_of m).entries p (with_count (entry_of m p) k)) c in
        record {
          most = omega (arith, l0);
          place = omega (arith, inv.place, o.count, ap length oc, ap length take_more, length-append B y);
          becomes = record {
            size = o.becomes.size ∙ inv.becomes.size;
            room = o.becomes.room;
            flat = o.becomes.flat ∙ (λ j. with_entries (with_rows (inv.becomes.flat j) (new j)) (ee j));
          };
        }

  pub apply_end : {m1 : List ℕ} {left i s : ℕ} → s ≡ first_row m p → left ≤ 0 → ApplyInv m m1 p left i → Applies m m1 p (i - s)
  unfolding page_in page_of
  apply_end {m1} {left} {i} {s} e l inv =
      let z : (entry_of m p).count - left ≡ (entry_of m p).count = omega arith in
      let k : i - first_row m p + left ≡ i - s = omega arith in
      record {
        count = omega (arith, inv.place, ap (λ (j : ℕ). length (applied_all (take j (drop (first_row m p) (flat_of m).rows)))) z);
        becomes = subst (λ (j : ℕ). Becomes m m1 (with_entries (with_rows (flat_of m) (done_rows m p (entry_of m p).count)) (set (flat_of m).entries p (with_count (entry_of m p) j)))) k
            (subst (λ (j : ℕ). Becomes m m1 (with_entries (with_rows (flat_of m) (done_rows m p j)) (set (flat_of m).entries p (with_count (entry_of m p) (i - first_row m p + left))))) z inv.becomes);
      }

  -- ---- the page that they leave

  module _ {m1 : List ℕ} {r : ℕ} (o : Applies m m1 p r) where
    abbrev hs : List Held
    hs = applied_all (tuples_at m p)

    abbrev less : Entry
    less = with_count (entry_of m p) r

    pub left_there : p < length (flat_of m1).entries
    left_there = still_there p o.becomes (omega (arith, length-set (flat_of m).entries p less, a.inside))

    pub left_empty : r ≡ 0 → (entry_of m1 p).count ≡ 0
    left_empty z = ap (λ (f : Flat). (entry_in f p).count) o.becomes.flat ∙ ap (λ (e : Entry). e.count) (get_or-set_same (flat_of m).entries p less no_entry a.inside) ∙ z

    pub left_none : {m2 : List ℕ} → r ≡ 0 → EntriesBecome m1 m2 (remove_at p) → Applied m m2 p 0
    unfolding swapped nest total sum
    left_none {m2} z v =
        let rs : List Held = (flat_of m).rows in
        let t : PagesNow m m2 (swapped p [] (pages_of m)) =
        now_dropped a r o.becomes v
        (ap (λ (ws : List Held). nest (remove_at p (flat_of m).entries) (take (first_row m p) rs ++ (ws ++ drop (first_row m p + (entry_of m p).count) rs))) (length_zero hs (sym o.count ∙ z))
        ∙ for_page (flat_of m) (full a) p a.inside [] [] refl) in
        subst (λ (k : ℕ). Applied m m2 p k) z (record { count = o.count; none_left = λ q. t; some_left = λ q. absurd (q z) })

    pub left_some : {m2 : List ℕ} → (r ≡ 0 → ⊥) → EntriesBecome m1 m2 (set_block p 0 false) → Applied m m2 p r
    left_some nz v =
        let t = now_dirty a r hs o.becomes v (pos_of r nz) (page_set (flat_of m) (full a) p a.inside (dirty (entry_of m p).table r) hs _ o.count refl) in
        record { count = o.count; none_left = λ q. absurd (nz q); some_left = λ q. t }
