-- The functions that change the memory, one after another: what each leaves of the pages and of what is left to do.
use Rattle.basics.proofs.Kit.{◌≡◌, refl, sym, ap, ◌∙◌, subst, ap₂, true, false, List, ◌∷◌, ◌++◌, ℕ, suc, ◌+◌, ◌≤◌, ◌<◌, ◌-◌, add-one, length, take, drop, length-take, length-drop}
use Rattle.basics.proofs.Kit.{drop-drop, take-add, drop-cons, arith}
use Rattle.basics.specs.Basics.{if'◌then◌else◌}
use Rattle.block_forms.specs.Tuple.{Tuple}
use Rattle.model.specs.State.{Held, Page}
use Rattle.model.specs.Places.{tagged, carry_out, remove_row, commit_row, plan_newest, commit_place, OnlyRow}
use Rattle.memory_layout.specs.Flat.{flat_of}
use Rattle.memory_layout.specs.Store.{store_of, holds_store, HoldsNow}
use Rattle.engine_pages.specs.Pages.{with_pages, PagesNow, pages_of}
use Rattle.engine_pages.proofs.Places.{now_held, now_pages, now_then, now_to, now_stay}
use Rattle.engine_close.specs.Close.{tagged_of, is_live, row_from, entry_place, removed_live, closed_run, Behind, RowRemoved, LiveRemoved, Within, RunClosed}
use Rattle.model.proofs.Others.{others_stay, only_count, only_front, only_behind}
use Rattle.model.proofs.Rows.{applied_is}
use Rattle.model.proofs.Carry.{carry_append}
use Rattle.engine_close.proofs.Removals.{carry_commit, removed_behind, removed_least, removed_most, behind_fewer, behind_place, behind_more}
use Rattle.engine_close.proofs.Removals.{behind_then, behind_at, picks, removing, none_left, pass_row, hit_row, removing_then, live_removing}
use Rattle.engine_close.proofs.RunPlans.{other_picks}
use Rattle.basics.proofs.Parts.{same_before}

-- ---- pages now

pub now_by_store : {m m' : List ℕ} (ps : List Page) → HoldsNow m m' (with_pages (store_of (flat_of m)) ps) → PagesNow m m' ps
now_by_store ps u = record { size = u.size; store = u.store }

module _ {m m' : List ℕ} {ps : List Page} (u : PagesNow m m' ps) where
  pub now_self : PagesNow m m' (pages_of m')
  now_self = now_to u (sym (now_pages u))

  now_rows : tagged_of m' ≡ tagged ps
  now_rows = ap tagged (now_pages u)

-- ---- one row

module _ {m m' : List ℕ} {i : ℕ} (h : i < length (tagged_of m)) (u : PagesNow m m' (remove_row i (pages_of m))) where
  -- at most one row is gone
  pub one_removed : (length (tagged_of m) ≤ suc (length (tagged_of m'))) × (length (tagged_of m') ≤ length (tagged_of m))
  one_removed = rw (now_rows u) (removed_least i (pages_of m) h, removed_most i (pages_of m) h)

module _ {m m' : List ℕ} {i r : ℕ} (h : i < length (tagged_of m)) (u : RowRemoved m m' i r) where
  pub row_next : r + length (tagged_of m) ≡ suc i + length (tagged (remove_row i (pages_of m)))
  row_next = u.next ∙ ap (λ z. suc i + length z) (now_rows u.pages)

  pub row_behind : Behind (tagged_of m) (tagged_of m') (suc i) r
  row_behind = subst (λ z. Behind (tagged_of m) z (suc i) r) (sym (now_rows u.pages)) (removed_behind i r (pages_of m) h row_next)

  -- it was live
  pub live_removed : is_live (row_from (tagged_of m) i).1 ≡ true → LiveRemoved m m' i 1 r
  live_removed l =
      record {
        pages = λ n b. now_to u.pages (sym (live_removing n i 1 (pages_of m) ∙ hit_row is_live n i 0 (pages_of m) h r b row_next l ∙ none_left is_live n r (remove_row i (pages_of m))));
        behind = behind_at (sym (add-one i)) row_behind;
      }

-- it was pending removal
pub live_passed : {m : List ℕ} {i : ℕ} → holds_store m ≡ true → i < length (tagged_of m) → is_live (row_from (tagged_of m) i).1 ≡ false → LiveRemoved m m i 1 (i + 1)
live_passed {m} {i} s h l =
    record {
      pages = λ n b. now_to (now_stay m s) (sym (live_removing n i 1 (pages_of m) ∙ pass_row is_live n i 0 (pages_of m) h l ∙ none_left is_live n (suc i) (pages_of m)));
      behind = record { low = omega arith; most = omega arith; rows = refl };
    }

-- ---- several rows

-- the first of k rows from row i on are done, and `left` from row r on are left
pub record LiveLeft (m₀ m : List ℕ) (i k r left : ℕ) : Type 0 where
  pub now : PagesNow m₀ m (pages_of m)
  pub same : (n : ℕ) → length (tagged_of m₀) ≤ n → removed_live n i k (pages_of m₀) ≡ removed_live n r left (pages_of m)
  pub behind : Behind (tagged_of m₀) (tagged_of m) (i + k) (r + left)

pub left_starts : {m : List ℕ} {i k : ℕ} → holds_store m ≡ true → i + k ≤ length (tagged_of m) → LiveLeft m m i k i k
left_starts {m} s h = record { now = now_stay m s; same = λ n b. refl; behind = record { low = omega arith; most = h; rows = refl } }

module _ {m₀ m : List ℕ} {i k r left : ℕ} (h : i + k ≤ length (tagged_of m₀)) (u : LiveLeft m₀ m i k r left) where
  pub left_there : r + left ≤ length (tagged_of m)
  left_there = u.behind.most

  -- one more is done
  pub left_next : {m' : List ℕ} {r' : ℕ} → 0 < left → LiveRemoved m m' r 1 r' → LiveLeft m₀ m' i k r' (left - 1)
  left_next {m'} {r'} z w =
      let b = u.behind in
      let f = behind_fewer b h in
      let e : r + 1 + (left - 1) ≡ r + left = omega arith in
      let q : 1 + (left - 1) ≡ left = omega arith in
      let p = w.pages (length (tagged_of m₀)) f in
      record {
        now = now_self (now_then u.now p);
        same = λ n l. let p = w.pages n (omega arith) in
            u.same n l ∙ live_removing n r left (pages_of m) ∙ ap (λ x. removing is_live n r x (pages_of m)) (sym q)
            ∙ removing_then is_live n r 1 (left - 1) r' (pages_of m) (pages_of m') (omega arith) (omega (arith, b.most))
            (sym (live_removing n r 1 (pages_of m)) ∙ sym (now_pages p)) w.behind
            ∙ sym (live_removing n r' (left - 1) (pages_of m'));
        behind = behind_then b (behind_at e (behind_more w.behind (left - 1) (omega (arith, b.most))));
      }

  pub left_ends : left ≡ 0 → LiveRemoved m₀ m i k r
  left_ends z =
      let e : r + left ≡ r = omega arith in
      record {
        pages = λ n l. now_to u.now (sym (u.same n l ∙ live_removing n r left (pages_of m) ∙ ap (λ x. removing is_live n r x (pages_of m)) z ∙ none_left is_live n r (pages_of m)));
        behind = subst (λ x. Behind (tagged_of m₀) (tagged_of m) (i + k) x) e u.behind;
      }

pub live_held : {m m' : List ℕ} {i k r : ℕ} → LiveRemoved m m' i k r → holds_store m' ≡ true
live_held {m} u = now_held (u.pages (length (tagged_of m)) (omega arith))

-- ---- a run

removing_is : (n j k : ℕ) (ps : List Page) → removing is_live n j k ps ≡ carry_out n (picks is_live (entry_place n (tagged ps) j) (take k (drop j (tagged ps)))) ps
unfolding removing
removing_is n j k ps = refl

-- rows a up to e, split at row k
pub split_run : (xs : List (ℕ × Held)) (a e k : ℕ) → a ≤ k → k < e → e ≤ length xs
    → take (e - a) (drop a xs) ≡ take (k - a) (drop a xs) ++ row_from xs k ∷ take (e - suc k) (drop (suc k) xs)
split_run xs a e k l h m =
    let s : e - a ≡ k - a + suc (e - suc k) = omega arith in
    let z : a + (k - a) ≡ k = omega arith in
    ap (λ n. take n (drop a xs)) s ∙ take-add (k - a) (suc (e - suc k)) (drop a xs)
    ∙ ap (λ y. take (k - a) (drop a xs) ++ take (suc (e - suc k)) y) (drop-drop (k - a) a xs ∙ ap (λ n. drop n xs) z ∙ drop-cons xs k _ (omega arith))

newest_marked : (n a e k : ℕ) (ps : List Page) → (row_from (tagged ps) k).1.tuple.mark ≡ true → closed_run n a e k ps ≡ removed_live n a (e - a) ps
unfolding closed_run plan_newest removed_live if'◌then◌else◌
newest_marked n a e k ps h = rw (ap (λ (x : Tuple). x.mark) (applied_is (row_from (tagged ps) k).1), h)

newest_kept : (n a e k : ℕ) (ps : List Page) → a ≤ k → k < e → e ≤ length (tagged ps) → (row_from (tagged ps) k).1.tuple.mark ≡ false
    → closed_run n a e k ps
    ≡ carry_out n (commit_place (entry_place n (tagged ps) k)
    ∷ (picks is_live (entry_place n (tagged ps) a) (take (k - a) (drop a (tagged ps)))
    ++ picks is_live (suc (entry_place n (tagged ps) k)) (take (e - suc k) (drop (suc k) (tagged ps))))) ps
unfolding closed_run plan_newest if'◌then◌else◌
newest_kept n a e k ps l u m h =
    let xs = tagged ps in
    let ws = take (k - a) (drop a xs) in
    let d = length-drop a xs in
    let t = length-take (k - a) (drop a xs) in
    let z : entry_place n xs k ≡ entry_place n xs a + length ws = omega arith in
    rw (ap (λ (x : Tuple). x.mark) (applied_is (row_from (tagged ps) k).1), h, split_run (tagged ps) a e k l u m)
    (ap (λ os. carry_out n (commit_place (entry_place n xs k) ∷ os) ps) (other_picks (entry_place n xs a) (entry_place n xs k) ws (row_from xs k) (take (e - suc k) (drop (suc k) xs)) z))

-- a delete mark
pub run_marked : {m m' : List ℕ} {a e k r : ℕ} → Within m a e k → (row_from (tagged_of m) k).1.tuple.mark ≡ true → LiveRemoved m m' a (e - a) r
    → RunClosed m m' a e k r
run_marked {m} {m'} {a} {e} {k} w h u =
    let z : a + (e - a) ≡ e = omega (arith, w.low, w.high) in
    record { pages = λ n l. now_to (u.pages n l) (sym (newest_marked n a e k (pages_of m) h)); behind = behind_at z u.behind }

-- row k is committed, then those before it, then those behind it are removed
module _ {m m1 : List ℕ} {a e k : ℕ} (w : Within m a e k) (c : PagesNow m m1 (commit_row k (pages_of m))) where
  k_in : k < length (tagged_of m)
  k_in = omega (arith, w.high, w.most)

  only : OnlyRow k (tagged_of m) (tagged (commit_row k (pages_of m)))
  only = (others_stay k (pages_of m)).1

  pub kept_length : length (tagged_of m1) ≡ length (tagged_of m)
  kept_length = ap length (now_rows c) ∙ (others_stay k (pages_of m)).2

  kept_front : take k (tagged_of m1) ≡ take k (tagged_of m)
  kept_front = ap (take k) (now_rows c) ∙ only_front k (tagged_of m) (tagged (commit_row k (pages_of m))) k_in only

  kept_back : drop (suc k) (tagged_of m1) ≡ drop (suc k) (tagged_of m)
  kept_back =
      let xs = tagged (commit_row k (pages_of m)) in
      let z : suc k ≡ k + length only.here = omega (arith, only_count k (tagged_of m) xs k_in only, (others_stay k (pages_of m)).2) in
      ap (drop (suc k)) (now_rows c) ∙ ap (λ j. drop j xs) z ∙ only_behind k (tagged_of m) xs k_in only ∙ ap (λ j. drop j (tagged_of m)) (add-one k)

  module _ {m2 : List ℕ} {r : ℕ} (u : LiveRemoved m1 m2 a (k - a) r) where
    before_behind : Behind (tagged_of m1) (tagged_of m2) k r
    before_behind = let z : a + (k - a) ≡ k = omega (arith, w.low) in behind_at z u.behind

    pub kept_there : r + 1 + (e - k - 1) ≤ length (tagged_of m2)
    kept_there = let z : k + (e - k) ≤ length (tagged_of m1) = omega (arith, w.high, w.most, kept_length) in
        let b = behind_more before_behind (e - k) z in omega (arith, b.most, w.high)

    next_behind : Behind (tagged_of m1) (tagged_of m2) (k + 1) (r + 1)
    next_behind = behind_more before_behind 1 (omega (arith, w.high, w.most, kept_length))

    module _ (n : ℕ) (l : length (tagged_of m) ≤ n) where
      kept_before : carry_out n (picks is_live (entry_place n (tagged_of m) a) (take (k - a) (drop a (tagged_of m)))) (commit_row k (pages_of m)) ≡ pages_of m2
      kept_before =
          let p = u.pages n (omega (arith, kept_length)) in
          let z : entry_place n (tagged_of m1) a ≡ entry_place n (tagged_of m) a = omega (arith, kept_length) in
          sym (now_pages p ∙ live_removing n a (k - a) (pages_of m1) ∙ removing_is n a (k - a) (pages_of m1)
          ∙ ap₂ (λ i ys. carry_out n (picks is_live i ys) (pages_of m1)) z (same_before (tagged_of m) (tagged_of m1) a k w.low kept_front)
          ∙ ap (carry_out n (picks is_live (entry_place n (tagged_of m) a) (take (k - a) (drop a (tagged_of m))))) (now_pages c))

      kept_behind : carry_out n (picks is_live (suc (entry_place n (tagged_of m) k)) (take (e - suc k) (drop (suc k) (tagged_of m)))) (pages_of m2)
          ≡ removed_live n (r + 1) (e - k - 1) (pages_of m2)
      kept_behind =
          let z : suc (entry_place n (tagged_of m) k) ≡ entry_place n (tagged_of m2) (r + 1) =
          omega (arith, kept_length, behind_place next_behind (omega (arith, w.high, w.most, kept_length)) n (omega (arith, kept_length))) in
          let q : e - suc k ≡ e - k - 1 = omega arith in
          let d : drop (suc k) (tagged_of m) ≡ drop (r + 1) (tagged_of m2) = sym (next_behind.rows ∙ ap (λ j. drop j (tagged_of m1)) (add-one k) ∙ kept_back) in
          ap₂ (λ i y. carry_out n (picks is_live i (take (e - suc k) y)) (pages_of m2)) z d
          ∙ ap (λ y. carry_out n (picks is_live (entry_place n (tagged_of m2) (r + 1)) (take y (drop (r + 1) (tagged_of m2)))) (pages_of m2)) q
          ∙ sym (removing_is n (r + 1) (e - k - 1) (pages_of m2)) ∙ sym (live_removing n (r + 1) (e - k - 1) (pages_of m2))

      kept_pages : (row_from (tagged_of m) k).1.tuple.mark ≡ false → closed_run n a e k (pages_of m) ≡ removed_live n (r + 1) (e - k - 1) (pages_of m2)
      kept_pages h =
          newest_kept n a e k (pages_of m) w.low w.high w.most h ∙ carry_commit n k _ (pages_of m)
          ∙ carry_append n (picks is_live (entry_place n (tagged_of m) a) (take (k - a) (drop a (tagged_of m)))) _ (commit_row k (pages_of m))
          ∙ ap (carry_out n (picks is_live (suc (entry_place n (tagged_of m) k)) (take (e - suc k) (drop (suc k) (tagged_of m))))) kept_before ∙ kept_behind

    same_behind : drop e (tagged_of m1) ≡ drop e (tagged_of m)
    same_behind =
        let z : suc k + (e - suc k) ≡ e = omega (arith, w.high) in
        ap (λ j. drop j (tagged_of m1)) (sym z) ∙ sym (drop-drop (e - suc k) (suc k) (tagged_of m1)) ∙ ap (drop (e - suc k)) kept_back
        ∙ drop-drop (e - suc k) (suc k) (tagged_of m) ∙ ap (λ j. drop j (tagged_of m)) z

    pub run_kept : {m' : List ℕ} {r' : ℕ} → (row_from (tagged_of m) k).1.tuple.mark ≡ false → LiveRemoved m2 m' (r + 1) (e - k - 1) r' → RunClosed m m' a e k r'
    run_kept {m'} {r'} h v =
        let z : k + 1 + (e - k - 1) ≡ e = omega (arith, w.high) in
        let b : Behind (tagged_of m1) (tagged_of m') e r' = behind_at z (behind_then (behind_more next_behind (e - k - 1) (omega (arith, w.high, w.most, kept_length))) v.behind) in
        let f = behind_fewer before_behind (omega (arith, w.high, w.most, kept_length)) in
        record {
          pages = λ n l. now_to (now_then (now_then c (u.pages n (omega (arith, kept_length)))) (v.pages n (omega (arith, kept_length)))) (sym (kept_pages n l h));
          behind = record { low = b.low; most = b.most; rows = b.rows ∙ same_behind };
        }
