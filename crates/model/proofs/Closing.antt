-- Commit and abort keep what holds of the live rows.
use Rattle.basics.proofs.Kit.{◌≡◌, refl, sym, ap, ◌∙◌, subst, ap₂, Bool, true, false, not, some, none, Option, List, [], ◌∷◌, ◌++◌, ℕ, ◌+◌, eqb}
use Rattle.basics.specs.Basics.{how_many, keep, if'◌then◌else◌, last}
use Rattle.basics.proofs.Facts.{AllOf, lie, by, and_true, by-option, never}
use Rattle.block_forms.specs.Tuple.{committed, tentative, Owner}
use Rattle.image_rows.specs.Rows.{Row, is_own, is_by, earlier_by, statement_is, mark_ok, statement_ok, number, starts_well, is_at, owner_after}
use Rattle.model.specs.Rules.{as_committed}
use Rattle.model.specs.Calls.{others}
use Rattle.basics.proofs.Elements.{all_append, all_map, Pairs, pairs_append, many_append, eqb-true, keep_append, keep_all, keep_cons, keep_none, keep_past, Mem, many_none, all_mem}
use Rattle.basics.proofs.Elements.{mem_all, and_yes, last_off, last_mem, eqb_self, mem_pairs, some_eq, kept_mem, pairs_map, pairs_both, pairs_keep}
use Rattle.model.proofs.ByNumber.{is_row, own_at}
use Rattle.model.proofs.Owners.{in_others}
use Rattle.model.proofs.Rows.{kept_row, Differ}
use Rattle.model.proofs.RowAfter.{gather, With, by_newest, at_join, after_commit, at_split, at_as, row_number, gather_ext, after_abort}
use Rattle.model.proofs.Valid.{LiveOk, Opened, Chain}

-- ---- what comes of a row r

pub data Comes (tx : ℕ) (r : Row) : Row → Type 0 where
  as_is : is_own tx r ≡ false → Comes tx r r
  final : {a : Row} → a.0 ≡ r.0 → a.1.key ≡ r.1.key → a.1.owner ≡ committed → a.1.mark ≡ false → Comes tx r a

pub gather_all : (P : Row → Type 0) (F : Row → List Row) (rs : List Row) → AllOf (λ r. AllOf P (F r)) rs → AllOf P (gather F rs)
unfolding gather
gather_all P F [] h = tt
gather_all P F (r ∷ rs) h = all_append P (F r) (gather F rs) h.0 (gather_all P F rs h.1)

all_swap : (R : Row → Row → Type 0) (F : Row → List Row) (xs rs : List Row) → AllOf (λ r. AllOf (λ a. AllOf (R a) (F r)) xs) rs
    → AllOf (λ a. AllOf (R a) (gather F rs)) xs
all_swap R F [] rs h = tt
all_swap R F (a ∷ xs) rs h = (
  gather_all (R a) F rs (all_map (λ r. AllOf (λ a. AllOf (R a) (F r)) (a ∷ xs)) (λ r. AllOf (R a) (F r)) (λ r k. k.0) rs h),
  all_swap R F xs rs (all_map (λ r. AllOf (λ a. AllOf (R a) (F r)) (a ∷ xs)) (λ r. AllOf (λ a. AllOf (R a) (F r)) xs) (λ r k. k.1) rs h),
)

pairs_gather : (R : Row → Row → Type 0) (F : Row → List Row) (rs : List Row) → AllOf (λ r. Pairs R (F r)) rs
    → Pairs (λ r q. AllOf (λ a. AllOf (R a) (F q)) (F r)) rs → Pairs R (gather F rs)
unfolding gather
pairs_gather R F [] s p = tt
pairs_gather R F (r ∷ rs) s p = pairs_append R (F r) (gather F rs) s.0 (pairs_gather R F rs s.1 p.1) (all_swap R F (F r) rs p.0)

pub many_gather : (f : Row → Bool) (F : Row → List Row) (rs : List Row) → AllOf (λ r. how_many f (F r) ≡ how_many f (r ∷ [])) rs
    → how_many f (gather F rs) ≡ how_many f rs
unfolding gather
many_gather f F [] h = refl
many_gather f F (r ∷ rs) h = many_append f (F r) (gather F rs) ∙ ap₂ (λ a b. a + b) h.0 (many_gather f F rs h.1) ∙ sym (many_append f (r ∷ []) rs)

pub own_owner : (u : ℕ) (r : Row) → is_own u r ≡ true → (s : ℕ) × (r.1.owner ≡ tentative u s)
unfolding is_own
own_owner u r h = go r.1.owner refl h
  where
    go : (o : Owner) → r.1.owner ≡ o → is_by u o ≡ true → (s : ℕ) × (r.1.owner ≡ tentative u s)
    go committed e k = lie (unfold is_by in k)
    go (tentative v s) e k = (s, e ∙ ap (λ z. tentative z s) (eqb-true v u (unfold is_by in k)))

pub not_own : (u : ℕ) (r : Row) → r.1.owner ≡ committed → is_own u r ≡ false
unfolding is_own is_by
not_own u r e = ap (is_by u) e

own_late : (u n : ℕ) (r : Row) → is_own u r ≡ false → earlier_by u n r ≡ false
unfolding earlier_by
own_late u n r h = rw h

pub gather_cons : (F : Row → List Row) (r : Row) (rs : List Row) → gather F (r ∷ rs) ≡ F r ++ gather F rs
unfolding gather
gather_cons F r rs = refl

keep_gather : (f : Row → Bool) (F : Row → List Row) (rs : List Row) → AllOf (λ r. AllOf (λ a. f a ≡ f r) (F r)) rs
    → keep f (gather F rs) ≡ gather F (keep f rs)
keep_gather f F [] h = unfold gather keep in refl
keep_gather f F (r ∷ rs) h =
    let ih = keep_gather f F rs h.1 in
    by (f r)
    (λ k. ap (keep f) (gather_cons F r rs) ∙ keep_append f (F r) (gather F rs)
    ∙ ap₂ (λ a b. a ++ b) (keep_all f (F r) (all_map (λ a. f a ≡ f r) (λ a. f a ≡ true) (λ a e. e ∙ k) (F r) h.0)) ih
    ∙ sym (ap (gather F) (keep_cons f r rs k) ∙ gather_cons F r (keep f rs)))
    (λ k. ap (keep f) (gather_cons F r rs) ∙ keep_append f (F r) (gather F rs)
    ∙ ap₂ (λ a b. a ++ b) (keep_none f (F r) (all_map (λ a. f a ≡ f r) (λ a. f a ≡ false) (λ a e. e ∙ k) (F r) h.0)) ih
    ∙ sym (ap (gather F) (keep_past f r rs k)))

module _ (tx : ℕ) (os : List ℕ) (rs : List Row) (L : LiveOk os rs) (F : Row → List Row)
    (comes : (r : Row) → Mem r rs → AllOf (Comes tx r) (F r))
    (stays : (r : Row) (u s : ℕ) → Mem r rs → r.1.owner ≡ tentative u s → eqb u tx ≡ false → F r ≡ r ∷ []) where
  count_one : (u n : ℕ) → eqb u tx ≡ false → (r : Row) → Mem r rs → how_many (earlier_by u n) (F r) ≡ how_many (earlier_by u n) (r ∷ [])
  count_one u n d r m =
      by (is_own u r)
      (λ h. ap (how_many (earlier_by u n)) (stays r u (own_owner u r h).0 m (own_owner u r h).1 d))
      (λ h. many_none (earlier_by u n) (F r) (all_map (Comes tx r) (λ a. earlier_by u n a ≡ false) (λ a c. off a h c) (F r) (comes r m))
      ∙ sym (many_none (earlier_by u n) (r ∷ []) (own_late u n r h, tt)))
    where
      off : (a : Row) → is_own u r ≡ false → Comes tx r a → earlier_by u n a ≡ false
      off a h (as_is k) = own_late u n r h
      off a h (final p q o z) = own_late u n a (not_own u a o)

  count_all : (u n : ℕ) → eqb u tx ≡ false → how_many (earlier_by u n) (gather F rs) ≡ how_many (earlier_by u n) rs
  count_all u n d = many_gather (earlier_by u n) F rs (all_mem _ rs (λ r m. count_one u n d r m))

  still_counted : (n : ℕ) (o : Owner) → is_by tx o ≡ false → statement_is rs n o ≡ true → statement_is (gather F rs) n o ≡ true
  unfolding statement_is is_by
  still_counted n committed k h = h
  still_counted n (tentative u s) k h = rw (count_all u n k) h

  final_counted : (n : ℕ) (o : Owner) → o ≡ committed → statement_is (gather F rs) n o ≡ true
  final_counted n o e = ap (statement_is (gather F rs) n) e ∙ (unfold statement_is in refl)

  final_marked : (a : Row) → a.1.mark ≡ false → mark_ok a ≡ true
  unfolding mark_ok
  final_marked a m = rw m

  still_open : (o : Owner) → is_by tx o ≡ false → Opened os o → Opened (others tx os) o
  unfolding is_by
  still_open committed n h = tt
  still_open (tentative u s) n h = in_others tx u os n h

  came_counted : (r a : Row) → Mem r rs → Comes tx r a → statement_ok (gather F rs) a ≡ true
  unfolding is_own statement_ok
  came_counted r a m (as_is n) = still_counted (number r) r.1.owner n (mem_all (λ r. statement_is rs (number r) r.1.owner ≡ true) m L.counted)
  came_counted r a m (final p q o z) = final_counted (number a) a.1.owner o

  came_marked : (r a : Row) → Mem r rs → Comes tx r a → mark_ok a ≡ true
  came_marked r a m (as_is n) = mem_all (λ r. mark_ok r ≡ true) m L.marked
  came_marked r a m (final p q o z) = final_marked a z

  came_open : (r a : Row) → Mem r rs → Comes tx r a → Opened (others tx os) a.1.owner
  unfolding is_own
  came_open r a m (as_is n) = still_open r.1.owner n (mem_all (λ r. Opened os r.1.owner) m L.open')
  came_open r a m (final p q o z) = subst (Opened (others tx os)) (sym o) tt

  came_all : (P : Row → Type 0) → ((r a : Row) → Mem r rs → Comes tx r a → P a) → AllOf P (gather F rs)
  came_all P f = gather_all P F rs (all_mem _ rs (λ r m. all_map (Comes tx r) P (λ a c. f r a m c) (F r) (comes r m)))

  closing : AllOf (λ r. Pairs Chain (F r)) rs → Pairs (λ r q. AllOf (λ a. AllOf (Chain a) (F q)) (F r)) rs
      → ((t k : ℕ) → starts_well (keep (is_at t k) (gather F rs)) ≡ true) → LiveOk (others tx os) (gather F rs)
  closing one two hs = record {
    chain = pairs_gather Chain F rs one two;
    counted = came_all (λ a. statement_ok (gather F rs) a ≡ true) came_counted;
    marked = came_all (λ a. mark_ok a ≡ true) came_marked;
    heads = hs;
    open' = came_all (λ a. Opened (others tx os) a.1.owner) came_open;
  }

  -- the rows at a key come of the rows at that key
  came_at : (t k : ℕ) (r a : Row) → Comes tx r a → is_at t k a ≡ is_at t k r
  unfolding is_at
  came_at t k r a (as_is n) = refl
  came_at t k r a (final p q o z) = rw (p, q)

  keep_came : (t k : ℕ) → keep (is_at t k) (gather F rs) ≡ gather F (keep (is_at t k) rs)
  keep_came t k = keep_gather (is_at t k) F rs (all_mem _ rs (λ r m. all_map (Comes tx r) (λ a. is_at t k a ≡ is_at t k r) (λ a c. came_at t k r a c) (F r) (comes r m)))

-- ---- pairs and members

starts_unmarked : (rs : List Row) → AllOf (λ r. r.1.mark ≡ false) rs → starts_well rs ≡ true
unfolding starts_well
starts_unmarked [] h = refl
starts_unmarked (r ∷ rs) h = ap not h.0

came_key : (tx : ℕ) (r a : Row) → Comes tx r a → (a.0 ≡ r.0) × (a.1.key ≡ r.1.key)
came_key tx r a (as_is n) = (refl, refl)
came_key tx r a (final p q o z) = (p, q)

came_with : (tx : ℕ) (r a q b : Row) → Comes tx r a → Comes tx q b → With b a ≡ With q r
unfolding is_at
came_with tx r a q b c d = let u = came_key tx r a c in let v = came_key tx q b d in rw (u.0, u.1, v.0, v.1)

gather_self : (F : Row → List Row) (rs : List Row) → AllOf (λ r. F r ≡ r ∷ []) rs → gather F rs ≡ rs
unfolding gather
gather_self F [] h = refl
gather_self F (r ∷ rs) h = rw (h.0, gather_self F rs h.1)

pub gather_none : (F : Row → List Row) (rs : List Row) → AllOf (λ r. F r ≡ []) rs → gather F rs ≡ []
unfolding gather
gather_none F [] h = refl
gather_none F (r ∷ rs) h = rw h.0 (gather_none F rs h.1)

-- ---- commit

newest_all : (P : Row → Type 0) (o : Option Row) (r : Row) → (o ≡ none → P r)
    → ((x : Row) → o ≡ some x → x.1.mark ≡ false → is_row (number x) r ≡ true → P (x.0, as_committed x.1)) → AllOf P (by_newest o r)
unfolding by_newest
newest_all P none r f g = (f refl, tt)
newest_all P (some x) r f g = go x.1.mark refl (is_row (number x) r) refl
  where
    go : (m : Bool) → x.1.mark ≡ m → (b : Bool) → is_row (number x) r ≡ b → AllOf P (if' m then [] else if' b then kept_row x else [])
    go true m b k = unfold if'◌then◌else◌ in tt
    go false m true k = unfold if'◌then◌else◌ kept_row in (g x refl m k, tt)
    go false m false k = unfold if'◌then◌else◌ in tt

newest_one : (R : Row → Row → Type 0) (o : Option Row) (r : Row) → Pairs R (by_newest o r)
unfolding by_newest
newest_one R none r = (tt, tt)
newest_one R (some x) r = go x.1.mark (is_row (number x) r)
  where
    go : (m b : Bool) → Pairs R (if' m then [] else if' b then kept_row x else [])
    go true b = unfold if'◌then◌else◌ in tt
    go false true = unfold if'◌then◌else◌ kept_row in (tt, tt)
    go false false = unfold if'◌then◌else◌ in tt

own_both : (tx t k : ℕ) (r : Row) → own_at tx t k r ≡ true → (is_own tx r ≡ true) × (is_at t k r ≡ true)
unfolding own_at
own_both tx t k r h = and_true (is_own tx r) (is_at t k r) h

own_self : (tx : ℕ) (r : Row) → own_at tx r.0 r.1.key r ≡ is_own tx r
unfolding own_at
own_self tx r = rw (at_join r.0 r.1.key r refl refl) (and_yes (is_own tx r))

module _ (tx : ℕ) (os : List ℕ) (rs : List Row) (L : LiveOk os rs) (D : Pairs Differ rs) where
  abbrev newest : Row → Option Row
  newest r = last (own_at tx r.0 r.1.key) rs

  pub commit_comes : (r : Row) → Mem r rs → AllOf (Comes tx r) (after_commit tx rs r)
  unfolding after_commit
  commit_comes r m =
      newest_all (Comes tx r) (newest r) r
      (λ n. as_is (sym (own_self tx r) ∙ mem_all (λ y. own_at tx r.0 r.1.key y ≡ false) m (last_off (own_at tx r.0 r.1.key) rs n)))
      (λ x n u k. let q = last_mem (own_at tx r.0 r.1.key) rs x n in let s = at_split r.0 r.1.key x (own_both tx r.0 r.1.key x q.1).1 in
      came x r s.0 s.1 u)
    where
      came : (x r : Row) → x.0 ≡ r.0 → x.1.key ≡ r.1.key → x.1.mark ≡ false → Comes tx r (x.0, as_committed x.1)
      came x r p q m = unfold as_committed in final p q refl m

  -- tentative rows of another transaction have no own row at their key
  clash : (o o' : Owner) (u s v : ℕ) → o ≡ tentative u s → o' ≡ tentative tx v → eqb u tx ≡ false
      → (owner_after o o' ≡ true → ⊥) × (owner_after o' o ≡ true → ⊥)
  unfolding owner_after
  clash o o' u s v e f n = (
    λ h. lie (sym n ∙ (sym (ap₂ owner_after e f) ∙ h)),
    λ h. lie (sym n ∙ ap (λ z. eqb z tx) (sym (eqb-true tx u (sym (ap₂ owner_after f e) ∙ h))) ∙ eqb_self tx),
  )

  owner_same : (u s v : ℕ) → tentative u s ≡ tentative tx v → eqb u tx ≡ true
  owner_same u s v h = let z : u ≡ tx = cc in ap (λ w. eqb w tx) z ∙ eqb_self tx

  -- so an own row and one of another transaction are not at one key
  pub not_beside : (r x : Row) (u s : ℕ) → Mem r rs → r.1.owner ≡ tentative u s → eqb u tx ≡ false → Mem x rs → is_own tx x ≡ true → is_at r.0 r.1.key x ≡ true → ⊥
  not_beside r x u s m e n i o a =
      let w = own_owner tx x o in
      let at = at_split r.0 r.1.key x a in
      let c = clash r.1.owner x.1.owner u s w.0 e w.1 n in
      mem_pairs Chain m i L.chain
      (λ q. lie (sym n ∙ owner_same u s w.0 (sym e ∙ ap (λ z. z.1.owner) q ∙ w.1)))
      (λ k. c.0 (k (at_join x.0 x.1.key r (sym at.0) (sym at.1))))
      (λ k. c.1 (k a))

  pub commit_stays : (r : Row) (u s : ℕ) → Mem r rs → r.1.owner ≡ tentative u s → eqb u tx ≡ false → after_commit tx rs r ≡ r ∷ []
  unfolding after_commit
  commit_stays r u s m e n =
      by-option (newest r) (λ o. ap (λ z. by_newest z r) o ∙ (unfold by_newest in refl))
      (λ x o. let q = last_mem (own_at tx r.0 r.1.key) rs x o in
      let b = own_both tx r.0 r.1.key x q.1 in
      absurd (not_beside r x u s m e n q.0 b.0 b.1))

  commit_apart : (r q : Row) → Mem r rs → Mem q rs → Chain r q × Differ r q → AllOf (λ a. AllOf (Chain a) (after_commit tx rs q)) (after_commit tx rs r)
  unfolding after_commit number
  commit_apart r q mr mq h =
      by (With q r)
      (λ w. let s = at_split q.0 q.1.key r w in
      let e : newest q ≡ newest r = ap₂ (λ a b. last (own_at tx a b) rs) (sym s.0) (sym s.1) in
      newest_all (λ a. AllOf (Chain a) (by_newest (newest q) q)) (newest r) r
      (λ n. newest_all (Chain r) (newest q) q (λ n'. h.0) (λ x n' u k. never (sym n ∙ sym e ∙ n')))
      (λ x n u k. newest_all (Chain (x.0, as_committed x.1)) (newest q) q (λ n'. never (sym n' ∙ e ∙ n))
      (λ y n' u' k'. let z : x ≡ y = some_eq (sym n ∙ sym e ∙ n') in absurd
      (h.1 (row_number x.1.number r k ∙ sym (row_number x.1.number q (ap (λ w. is_row (number w) q) z ∙ k')))))))
      (λ w. all_map (Comes tx r) (λ a. AllOf (Chain a) (after_commit tx rs q))
      (λ a c. all_map (Comes tx q) (Chain a) (λ b d k. lie (sym w ∙ (sym (came_with tx r a q b c d) ∙ k))) (after_commit tx rs q)
      (commit_comes q mq)) (after_commit tx rs r) (commit_comes r mr))

  at_key : (t k : ℕ) → AllOf (λ r. is_at t k r ≡ true) (keep (is_at t k) rs)
  at_key t k = all_map (λ r. (is_at t k r ≡ true) × Mem r rs) (λ r. is_at t k r ≡ true) (λ r q. q.0) (keep (is_at t k) rs) (kept_mem (is_at t k) rs)

  -- the rows at a key, by the newest own one
  pub commit_at : (t k : ℕ) → keep (is_at t k) (gather (after_commit tx rs) rs) ≡ gather (by_newest (last (own_at tx t k) rs)) (keep (is_at t k) rs)
  commit_at t k =
      keep_came tx os rs L (after_commit tx rs) commit_comes commit_stays t k
      ∙ gather_ext (after_commit tx rs) (by_newest (last (own_at tx t k) rs)) (keep (is_at t k) rs)
      (all_map (λ r. is_at t k r ≡ true) (λ r. after_commit tx rs r ≡ by_newest (last (own_at tx t k) rs) r)
      (λ r h. let s = at_split t k r h in (unfold after_commit in ap₂ (λ a b. by_newest (last (own_at tx a b) rs) r) s.0 s.1)) (keep (is_at t k) rs) (at_key t k))

  -- none of them: they stay
  pub newest_stays : (K : List Row) → gather (by_newest none) K ≡ K
  newest_stays K = gather_self (by_newest none) K (all_mem _ K (λ r i. unfold by_newest in refl))

  commit_heads : (t k : ℕ) → starts_well (keep (is_at t k) (gather (after_commit tx rs) rs)) ≡ true
  commit_heads t k =
      let m = last (own_at tx t k) rs in
      let K = keep (is_at t k) rs in
      subst (λ z. starts_well z ≡ true) (sym (commit_at t k))
      (by-option m
      (λ n. subst (λ z. starts_well z ≡ true) (sym (ap (λ z. gather (by_newest z) K) n ∙ newest_stays K)) (L.heads t k))
      (λ x n. starts_unmarked (gather (by_newest m) K)
      (gather_all (λ a. a.1.mark ≡ false) (by_newest m) K
      (all_mem _ K (λ r i. newest_all (λ a. a.1.mark ≡ false) m r (λ n'. never (sym n' ∙ n)) (λ y n' u j. (unfold as_committed in u)))))))

  pub commit_live : LiveOk (others tx os) (gather (after_commit tx rs) rs)
  commit_live = closing tx os rs L (after_commit tx rs) commit_comes commit_stays
      (all_mem _ rs (λ r m. unfold after_commit in newest_one Chain (newest r) r))
      (pairs_map (λ r q. Chain r q × Differ r q) _ rs commit_apart (pairs_both Chain Differ rs L.chain D))
      commit_heads

  -- ---- abort

  abort_own : (r : Row) → is_own tx r ≡ true → after_abort tx r ≡ []
  unfolding after_abort if'◌then◌else◌
  abort_own r h = rw h

  abort_not : (r : Row) → is_own tx r ≡ false → after_abort tx r ≡ r ∷ []
  unfolding after_abort if'◌then◌else◌
  abort_not r h = rw h

  abort_all : (P : Row → Type 0) (r : Row) → (is_own tx r ≡ false → P r) → AllOf P (after_abort tx r)
  abort_all P r f = by (is_own tx r) (λ h. subst (AllOf P) (sym (abort_own r h)) tt) (λ h. subst (AllOf P) (sym (abort_not r h)) (f h, tt))

  pub abort_comes : (r : Row) → Mem r rs → AllOf (Comes tx r) (after_abort tx r)
  abort_comes r m = abort_all (Comes tx r) r (λ h. as_is h)

  pub abort_stays : (r : Row) (u s : ℕ) → Mem r rs → r.1.owner ≡ tentative u s → eqb u tx ≡ false → after_abort tx r ≡ r ∷ []
  abort_stays r u s m e n = abort_not r (unfold is_own is_by in ap (is_by tx) e ∙ n)

  abort_one : (r : Row) → Pairs Chain (after_abort tx r)
  abort_one r = by (is_own tx r) (λ h. subst (Pairs Chain) (sym (abort_own r h)) tt) (λ h. subst (Pairs Chain) (sym (abort_not r h)) (tt, tt))

  own_after : (o o' : Owner) → is_by tx o ≡ true → owner_after o o' ≡ true → is_by tx o' ≡ true
  unfolding is_by owner_after
  own_after committed o' h k = lie h
  own_after (tentative u s) committed h k = lie k
  own_after (tentative u s) (tentative v w) h k = ap (λ z. eqb z tx) (sym (eqb-true u v k)) ∙ h

  own_next : (r q : Row) → owner_after r.1.owner q.1.owner ≡ true → is_own tx r ≡ true → is_own tx q ≡ true
  unfolding is_own
  own_next r q c o = own_after r.1.owner q.1.owner o c

  abort_starts : (t k : ℕ) (K : List Row) → AllOf (λ r. is_at t k r ≡ true) K → Pairs Chain K → starts_well K ≡ true
      → starts_well (gather (after_abort tx) K) ≡ true
  abort_starts t k [] a p h = unfold gather starts_well in refl
  abort_starts t k (r ∷ K) a p h =
      by (is_own tx r)
      (λ o. ap starts_well (gather_none (after_abort tx) (r ∷ K) (abort_own r o, rest o)) ∙ (unfold starts_well in refl))
      (λ o. ap starts_well (gather_cons (after_abort tx) r K ∙ ap (λ z. z ++ gather (after_abort tx) K) (abort_not r o)) ∙ (unfold starts_well in h))
    where
      rest : is_own tx r ≡ true → AllOf (λ q. after_abort tx q ≡ []) K
      rest o = go K a.1 p.0
        where
          go : (xs : List Row) → AllOf (λ r. is_at t k r ≡ true) xs → AllOf (Chain r) xs → AllOf (λ q. after_abort tx q ≡ []) xs
          go [] b c = tt
          go (q ∷ xs) b c =
              (abort_own q (own_next r q (c.0 (at_as t k q r b.0 ∙ a.0)) o), go xs b.1 c.1)

  pub abort_at : (t k : ℕ) → keep (is_at t k) (gather (after_abort tx) rs) ≡ gather (after_abort tx) (keep (is_at t k) rs)
  abort_at t k = keep_came tx os rs L (after_abort tx) abort_comes abort_stays t k

  abort_heads : (t k : ℕ) → starts_well (keep (is_at t k) (gather (after_abort tx) rs)) ≡ true
  abort_heads t k = subst (λ z. starts_well z ≡ true) (sym (abort_at t k))
      (abort_starts t k (keep (is_at t k) rs) (at_key t k) (pairs_keep Chain (is_at t k) rs L.chain) (L.heads t k))

  pub abort_live : LiveOk (others tx os) (gather (after_abort tx) rs)
  abort_live = closing tx os rs L (after_abort tx) abort_comes abort_stays
      (all_mem _ rs (λ r m. abort_one r))
      (pairs_map Chain _ rs (λ r q mr mq h. abort_all (λ a. AllOf (Chain a) (after_abort tx q)) r (λ o. abort_all (Chain r) q (λ o'. h))) L.chain)
      abort_heads
