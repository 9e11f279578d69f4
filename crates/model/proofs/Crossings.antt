-- The keys that cross an interval rise strictly, and a key is among them exactly if the version of it that the transaction sees crosses.
-- On rising tuples the runs are the keys (Runs), so what is seen of a run is what is seen of its key, and a key without a run
-- has no version.
use Rattle.basics.proofs.Kit.{◌≡◌, refl, sym, ap, ◌∙◌, subst, ap₂, Bool, true, false, ◌&&◌, ◌||◌, some, Option, none, List, [], ◌∷◌, ◌++◌, append-nil, ℕ, ◌≤◌, ◌<◌, suc, eqb, ltb, arith}
use Rattle.basics.specs.Basics.{if'◌then◌else◌, keep, any, last, is_in}
use Rattle.basics.proofs.Facts.{by, lie, never, by-option, AllOf}
use Rattle.basics.proofs.Elements.{Pairs, all_map, all_two, all_parts, all_append, all_mem, all_keep, kept_mem, mem_all, pairs_parts, pairs_append, pairs_map, pairs_keep}
use Rattle.basics.proofs.Elements.{keep_append, keep_all, keep_none}
use Rattle.basics.proofs.Elements.{some_eq, first_all, last_mem, any_off, eqb-true, le_true, in_append, in_head}
use Rattle.basics.proofs.Lists.{paired_true}
use Rattle.basics.proofs.Lasts.{keep_keep}
use Rattle.basics.proofs.Searches.{or_none}
use Rattle.basics.proofs.Members.{compared}
use Rattle.image_rows.specs.Rows.{Row, is_at, is_own}
use Rattle.model.specs.Sight.{rows, versions, seen_of, seen}
use Rattle.model.specs.Transactions.{Placed, row_of, all_runs, live_of, each_run}
use Rattle.model.specs.Crossing.{crosses, rows_of_table, key_if, key_of_run, crossing_keys}
use Rattle.model.specs.Seen.{seen_crosses, CrossingKeys}
use Rattle.model.proofs.Placing.{Before}
use Rattle.model.proofs.RowAfter.{With, at_split, at_join, at_as}
use Rattle.model.proofs.Runs.{rows_in, rows_append, flat, Grouped}
use Rattle.model.proofs.Plans.{rows_all, kept_with}
use Rattle.model.proofs.ByPlace.{all_rows, all_grouped}
use Rattle.model.proofs.Keeps.{rows_rising}
use Rattle.model.proofs.Well.{sound}
use Rattle.model.proofs.Sees.{seen_none}

-- ---- of rows of one table

-- q is not before r
abbrev Follows : Row → Row → Type 0
Follows r q = (r.0 ≡ q.0) × (r.1.key ≤ q.1.key)

-- of another key, so above it
above : (r q : Row) → Follows r q → With r q ≡ false → r.1.key < q.1.key
above r q f w =
    compared r.1.key q.1.key (λ l. l) (λ e. lie (sym w ∙ at_join r.0 r.1.key q (sym f.0) (sym e))) (λ l. absurd (omega (arith, f.1)))

-- of one key
alike : (t k : ℕ) (x r : Row) → With x r ≡ true → is_at t k r ≡ is_at t k x
unfolding is_at
alike t k x r h = let s = at_split x.0 x.1.key r h in ap₂ (λ a b. eqb a t && eqb b k) s.0 s.1

-- of the table, but not of the key
not_key : (t k : ℕ) (r : Row) → r.0 ≡ t → is_at t k r ≡ false → eqb k r.1.key ≡ false
not_key t k r e h = by (eqb k r.1.key) (λ c. lie (sym h ∙ at_join t k r e (sym (eqb-true k r.1.key c)))) (λ c. c)

-- the rows of table t
abbrev InTable : ℕ → List Row → List Row
InTable t rs = keep (λ r. eqb r.0 t) rs

in_table : (t : ℕ) (rs : List Row) → AllOf (λ r. r.0 ≡ t) (InTable t rs)
in_table t rs =
    all_map _ _ (λ r q. eqb-true r.0 t q.0) (InTable t rs) (kept_mem (λ r. eqb r.0 t) rs)

table_follows : (t : ℕ) (rs : List Row) → Pairs Before rs → Pairs Follows (InTable t rs)
table_follows t rs p =
    pairs_map Before Follows (InTable t rs)
    (λ r q m n b. let e = mem_all (λ r. r.0 ≡ t) m (in_table t rs) ∙ sym (mem_all (λ r. r.0 ≡ t) n (in_table t rs)) in (e, (b.1 (omega (arith, e))).0))
    (pairs_keep Before (λ r. eqb r.0 t) rs p)

table_at : (t k : ℕ) (rs : List Row) → keep (is_at t k) (InTable t rs) ≡ keep (is_at t k) rs
unfolding is_at
table_at t k rs = keep_keep (is_at t k) (λ r. eqb r.0 t) rs (all_mem _ rs (λ r m h. ap (λ b. b && eqb r.1.key k) h))

-- what all rows have, those of the table have
table_all : (P : Row → Type 0) (t : ℕ) (rs : List Row) → AllOf P rs → AllOf P (InTable t rs)
table_all P t rs a = all_map (λ r. (eqb r.0 t ≡ true) × P r) P (λ r q. q.1) (InTable t rs) (all_keep P (λ r. eqb r.0 t) rs a)

table_append : (t : ℕ) (a b : List Placed) → InTable t (rows_in (a ++ b)) ≡ InTable t (rows_in a) ++ InTable t (rows_in b)
table_append t a b = ap (InTable t) (rows_append a b) ∙ keep_append (λ r. eqb r.0 t) (rows_in a) (rows_in b)

-- ---- the key of the version that is seen

module _ (tx first end : ℕ) where
  -- what is seen is one of the versions
  pub seen_all : (P : Row → Type 0) (vs : List Row) (r : Row) → seen_of tx vs ≡ some r → AllOf P vs → P r
  unfolding seen_of if'◌then◌else◌
  seen_all P vs r e a =
      by-option (last (is_own tx) vs)
      (λ n. first_all _ P vs r (rw (n, seen_of) at e) a)
      (λ x n. let q : (if' x.1.mark then none else some x) ≡ some r = rw (n, seen_of) at e in
      let pick : Bool → Option Row = λ b. if' b then none else some x in
      by x.1.mark (λ m. never (sym (ap pick m) ∙ q)) (λ m. subst P (some_eq (sym (ap pick m) ∙ q)) (mem_all P (last_mem (is_own tx) vs x n).0 a)))

  key_all : (P : ℕ → Type 0) (o : Option Row) → ((r : Row) → o ≡ some r → P r.1.key) → AllOf P (key_if first end o)
  unfolding key_if if'◌then◌else◌
  key_all P none f = tt
  key_all P (some r) f = by (crosses first end r.1) (λ h. rw h (f r refl, tt)) (λ h. rw h tt)

  key_in : (k : ℕ) (o : Option Row) → ((r : Row) → o ≡ some r → r.1.key ≡ k) → is_in k (key_if first end o) ≡ seen_crosses first end o
  unfolding key_if seen_crosses if'◌then◌else◌ is_in any
  key_in k none f = refl
  key_in k (some r) f = by (crosses first end r.1) (λ h. rw (h, f r refl) (in_head k [])) (λ h. rw h)

  key_alone : (R : ℕ → ℕ → Type 0) (o : Option Row) → Pairs R (key_if first end o)
  unfolding key_if if'◌then◌else◌
  key_alone R none = tt
  key_alone R (some r) = by (crosses first end r.1) (λ h. rw h (tt, tt)) (λ h. rw h tt)

  -- ---- run by run

  module _ (t : ℕ) where
    -- the keys of these runs
    abbrev Keys : List (List Placed) → List ℕ
    Keys rs = each_run (key_of_run tx t first end) rs

    keys_all : (P : ℕ → Type 0) (rs : List (List Placed)) → AllOf (λ r. P r.1.key) (InTable t (rows_in (flat rs))) → AllOf P (Keys rs)
    unfolding each_run flat key_of_run rows_of_table
    keys_all P [] a = tt
    keys_all P (run ∷ rs) a =
        let vs = InTable t (rows_in run) in
        let q = all_parts (λ r. P r.1.key) vs (InTable t (rows_in (flat rs))) (subst (AllOf _) (table_append t run (flat rs)) a) in
        all_append P (key_if first end (seen_of tx vs)) (Keys rs) (key_all P (seen_of tx vs) (λ r e. seen_all (λ r. P r.1.key) vs r e q.0)) (keys_all P rs q.1)

    -- the rows of a run are of other keys than those behind it
    run_apart : (run : List Placed) (rs : List (List Placed)) → AllOf (λ x. AllOf (λ q. With (row_of x) q ≡ false) (rows_in (flat rs))) run
        → AllOf (λ r. AllOf (λ q. With r q ≡ false) (InTable t (rows_in (flat rs)))) (InTable t (rows_in run))
    run_apart run rs o =
        let behind = rows_in (flat rs) in
        table_all _ t (rows_in run) (all_map _ _ (λ r a. table_all (λ q. With r q ≡ false) t behind a) (rows_in run) (rows_all (λ t k. AllOf (λ q. is_at t k q ≡ false) behind) run o))

    keys_rise : (ev : List Row) (rs : List (List Placed)) → Grouped ev rs → Pairs Follows (InTable t (rows_in (flat rs))) → Pairs (λ j k. j < k) (Keys rs)
    unfolding each_run flat key_of_run rows_of_table
    keys_rise ev [] g p = tt
    keys_rise ev (run ∷ rs) g p =
        let vs = InTable t (rows_in run) in
        let behind = InTable t (rows_in (flat rs)) in
        let q = pairs_parts Follows vs behind (subst (Pairs Follows) (table_append t run (flat rs)) p) in
        let low : AllOf (λ r. AllOf (λ j. r.1.key < j) (Keys rs)) vs = all_two _ _ _
        (λ r f w. keys_all (λ j. r.1.key < j) rs (all_two (Follows r) (λ q. With r q ≡ false) _ (above r) behind f w)) vs q.2 (run_apart run rs g.1) in
        pairs_append (λ j k. j < k) (key_if first end (seen_of tx vs)) (Keys rs) (key_alone _ (seen_of tx vs)) (keys_rise ev rs g.2 q.1)
        (key_all _ (seen_of tx vs) (λ r e. seen_all (λ r. AllOf (λ j. r.1.key < j) (Keys rs)) vs r e low))

  module _ (t k : ℕ) where
    -- of these rows a version of the key is seen, and it crosses
    abbrev Sees : List Row → Bool
    Sees rs = seen_crosses first end (seen_of tx (keep (is_at t k) rs))

    sees_none : (rs : List Row) → AllOf (λ r. is_at t k r ≡ false) rs → Sees rs ≡ false
    unfolding seen_crosses
    sees_none rs a = ap (λ vs. seen_crosses first end (seen_of tx vs)) (keep_none (is_at t k) rs a) ∙ ap (seen_crosses first end) (seen_none tx)

    -- a run, all of one key, and what stands behind it, none of that key; ks are the keys of that
    run_in : (vs behind : List Row) (ks : List ℕ) → AllOf (λ x. AllOf (λ r. With x r ≡ true) vs) vs → AllOf (λ x. AllOf (λ q. With x q ≡ false) behind) vs
        → AllOf (λ r. r.0 ≡ t) vs → is_in k ks ≡ Sees behind → is_in k (key_if first end (seen_of tx vs) ++ ks) ≡ Sees (vs ++ behind)
    unfolding key_if is_in
    run_in [] behind ks same other table ih = ap (λ o. is_in k (key_if first end o ++ ks)) (seen_none tx) ∙ ih
    run_in (x ∷ xs) behind ks same other table ih =
        let vs = x ∷ xs in
        let f = is_at t k in
        let o = seen_of tx vs in
        let at = all_map (λ r. With x r ≡ true) (λ r. f r ≡ f x) (alike t k x) vs same.0 in
        let split = keep_append f vs behind in
        let two = in_append k (key_if first end o) ks in
        by (f x)
        (λ h. let here : AllOf (λ r. f r ≡ true) vs = all_map _ _ (λ r e. e ∙ h) vs at in
        let off : AllOf (λ q. f q ≡ false) behind = all_map _ _ (λ q e. sym (at_as t k x q h) ∙ e) behind other.0 in
        let key : (r : Row) → o ≡ some r → r.1.key ≡ k = λ r e. seen_all (λ r. r.1.key ≡ k) vs r e (all_map _ _ (λ r e. (at_split t k r e).1) vs here) in
        two ∙ ap₂ (λ a b. a || b) (key_in k o key) (ih ∙ sees_none behind off) ∙ or_none (seen_crosses first end o)
        ∙ ap (λ l. seen_crosses first end (seen_of tx l)) (sym (split ∙ ap₂ (λ a b. a ++ b) (keep_all f vs here) (keep_none f behind off) ∙ append-nil vs)))
        (λ h. let off : AllOf (λ r. f r ≡ false) vs = all_map _ _ (λ r e. e ∙ h) vs at in
        let no : is_in k (key_if first end o) ≡ false = any_off (eqb k) (key_if first end o)
        (key_all _ o (λ r e. seen_all (λ r. eqb k r.1.key ≡ false) vs r e (all_two _ _ _ (not_key t k) vs table off))) in
        two ∙ ap (λ (a : Bool). a || is_in k ks) no ∙ ih
        ∙ ap (λ l. seen_crosses first end (seen_of tx l)) (sym (split ∙ ap (λ a. a ++ keep f behind) (keep_none f vs off))))

    keys_in : (ev : List Row) (rs : List (List Placed)) → Grouped ev rs → is_in k (Keys t rs) ≡ Sees (InTable t (rows_in (flat rs)))
    unfolding each_run flat key_of_run rows_of_table live_of keep is_in any
    keys_in ev [] g = sym (sees_none [] tt)
    keys_in ev (run ∷ rs) g =
        let vs = rows_in run in
        let one = kept_with ev vs (rows_all (λ t k. vs ≡ keep (is_at t k) ev) run g.0) in
        run_in (InTable t vs) (InTable t (rows_in (flat rs))) (Keys t rs)
        (table_all _ t vs (all_map _ _ (λ r a. table_all (λ q. With r q ≡ true) t vs a) vs one))
        (run_apart t run rs g.1) (in_table t vs) (keys_in ev rs g.2)
        ∙ ap Sees (sym (table_append t run (flat rs)))

-- ---- the law

pub crossing_keys_lem : CrossingKeys
unfolding crossing_keys seen versions
crossing_keys_lem s w tx t first end =
    let v = (sound s w).valid in
    let all = rows s.pages in
    let rs = all_runs s.pages in
    let g = all_grouped s.pages v.has.rising v.has.differ in
    let here : InTable t (rows_in (flat rs)) ≡ InTable t all = ap (InTable t) (ap rows_in g.1 ∙ all_rows s.pages) in
    let rise = keys_rise tx first end t all rs g.0 (subst (Pairs Follows) (sym here) (table_follows t all (rows_rising s v))) in (
      paired_true ltb (Keys tx first end t rs) (pairs_map (λ j k. j < k) _ (Keys tx first end t rs) (λ j k m n l. le_true (suc j) k l) rise),
      λ k. keys_in tx first end t k all rs g.0 ∙ ap (λ vs. seen_crosses first end (seen_of tx vs)) (ap (keep (is_at t k)) here ∙ table_at t k all),
    )
