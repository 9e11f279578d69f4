-- Commit and abort on the live rows, in closed form: what becomes of each row.
use Rattle.basics.proofs.Kit.{◌≡◌, refl, sym, ap, ◌∙◌, subst, ap₂, ◌≢◌, Bool, true, false, ◌&&◌, not, some, none, Option, List, [], ◌∷◌, ◌++◌, append-nil, ℕ, eqb}
use Rattle.basics.specs.Basics.{if'◌then◌else◌, keep, any, last}
use Rattle.basics.proofs.Facts.{by, AllOf, and_true, lie, by-option}
use Rattle.image_rows.specs.Rows.{Row, number, is_at, is_own}
use Rattle.model.specs.State.{Page}
use Rattle.model.specs.Rules.{as_committed}
use Rattle.model.specs.Sight.{rows, held}
use Rattle.model.specs.Transactions.{tagged}
use Rattle.basics.proofs.Elements.{Pairs, Mem, here, all_map, there, mem_all, eqb_self, eqb-true, all_keep, kept_mem, all_mem, all_append, mem_keep, any_off, last_off, last_any, last_skip}
use Rattle.basics.proofs.Elements.{last_some, last_here}
use Rattle.model.proofs.ByNumber.{Op, to_commit, is_row, to_remove, remove_all, plan_key, own_at, plan_rows, place_in, plan_skip, plan_take}
use Rattle.model.proofs.Sound.{PageOk, remove_row_ok, commit_row_ok}
use Rattle.model.proofs.Rows.{amend, away, kept_row, Alike, Differ, Entry, Sub, plain, live_rows, sub_refl, sub_pairs, sub_trans, pairs_plain}
use Rattle.model.proofs.Rows.{held_plain, rows_live}
use Rattle.model.proofs.Places.{numbers, remove, commit, perform, amends_remove, amends_commit}

-- ---- a list of operations on the rows

unfoldable pub gather : (Row → List Row) → List Row → List Row
gather F [] = []
gather F (r ∷ rs) = F r ++ gather F rs

-- what becomes of a row
unfoldable pub row_after : List Op → Row → List Row
row_after [] r = r ∷ []
row_after (to_commit n ∷ os) r = if' is_row n r then row_after os (r.0, as_committed r.1) else row_after os r
row_after (to_remove n ∷ os) r = if' is_row n r then [] else row_after os r

gather_nil : (rs : List Row) → gather (row_after []) rs ≡ rs
unfolding gather row_after
gather_nil [] = refl
gather_nil (r ∷ rs) = ap (λ z. r ∷ z) (gather_nil rs)

gather_removes : (n : ℕ) (os : List Op) (rs : List Row) → gather (row_after os) (amend away n rs) ≡ gather (row_after (to_remove n ∷ os)) rs
unfolding gather row_after amend away if'◌then◌else◌
gather_removes n os [] = refl
gather_removes n os (r ∷ rs) = by (is_row n r) (λ h. rw (h, gather_removes n os rs)) (λ h. rw (h, gather_removes n os rs))

gather_commits : (n : ℕ) (os : List Op) (rs : List Row) → gather (row_after os) (amend kept_row n rs) ≡ gather (row_after (to_commit n ∷ os)) rs
unfolding gather row_after amend kept_row if'◌then◌else◌
gather_commits n os [] = refl
gather_commits n os (r ∷ rs) = by (is_row n r) (λ h. rw (h, gather_commits n os rs)) (λ h. rw (h, gather_commits n os rs))

pub differ_alike : (a b c d : Row) → Alike a b → Alike c d → Differ b d → Differ a c
differ_alike a b c d e f h k = h (sym e.2 ∙ k ∙ f.2)

-- the operations os on the tagged b give a
abbrev Performed : List Op → List Entry → List Entry → Type 0
Performed os a b = Sub (plain a) (plain b) × (live_rows a ≡ gather (row_after os) (live_rows b))

perform_entries : (os : List Op) (ps : List Page) → AllOf PageOk ps → Pairs Differ (plain (tagged ps))
    → Performed os (tagged (perform os ps)) (tagged ps)
unfolding perform
perform_entries [] ps a d = (sub_refl (plain (tagged ps)), sym (gather_nil (live_rows (tagged ps))))
perform_entries (to_commit n ∷ os) ps a d =
    let m = amends_commit n ps a in
    let r = perform_entries os (commit n ps) (commit_row_ok (place_in n (numbers ps)) ps a) (sub_pairs Differ differ_alike m.0 d) in
    (sub_trans r.0 m.0, r.1 ∙ ap (gather (row_after os)) (m.1 (pairs_plain Differ (tagged ps) d)) ∙ gather_commits n os (live_rows (tagged ps)))
perform_entries (to_remove n ∷ os) ps a d =
    let m = amends_remove n ps a in
    let r = perform_entries os (remove n ps) (remove_row_ok (place_in n (numbers ps)) ps a) (sub_pairs Differ differ_alike m.0 d) in
    (sub_trans r.0 m.0, r.1 ∙ ap (gather (row_after os)) (m.1 (pairs_plain Differ (tagged ps) d)) ∙ gather_removes n os (live_rows (tagged ps)))

pub perform_rows : (os : List Op) (ps : List Page) → AllOf PageOk ps → Pairs Differ (held ps)
    → Sub (held (perform os ps)) (held ps) × (rows (perform os ps) ≡ gather (row_after os) (rows ps))
perform_rows os ps a d =
    let r = perform_entries os ps a (subst (Pairs Differ) (held_plain ps) d) in
    (rw (held_plain ps, held_plain (perform os ps)) r.0, rows_live (perform os ps) ∙ r.1 ∙ ap (gather (row_after os)) (sym (rows_live ps)))

-- r is the only row of its number
abbrev Only : Row → List Row → Type 0
Only r rs = AllOf (λ y. y.1.number ≡ r.1.number → y ≡ r) rs

mem_only : {r : Row} {rs : List Row} → Mem r rs → Pairs Differ rs → Only r rs
mem_only {r} (here {rs}) d = (λ e. refl, all_map (Differ r) _ (λ y h e. absurd (h (sym e))) rs d.0)
mem_only {r} (there {y} m) d = (λ e. absurd (mem_all (Differ y) m d.0 e), mem_only m d.1)

-- ---- operations on other numbers

unfoldable op_number : Op → ℕ
op_number (to_commit n) = n
op_number (to_remove n) = n

abbrev Off : Row → Op → Type 0
Off r o = is_row (op_number o) r ≡ false

off_append : (a b : List Op) (r : Row) → AllOf (Off r) a → row_after (a ++ b) r ≡ row_after b r
unfolding row_after op_number if'◌then◌else◌
off_append [] b r h = refl
off_append (to_commit n ∷ os) b r h = rw h.0 (off_append os b r h.1)
off_append (to_remove n ∷ os) b r h = rw h.0 (off_append os b r h.1)

off_after : (a : List Op) (r : Row) → AllOf (Off r) a → row_after a r ≡ r ∷ []
unfolding row_after
off_after a r h = ap (λ z. row_after z r) (sym (append-nil a)) ∙ off_append a [] r h

off_remove_all : (r : Row) (ys : List Row) → AllOf (λ y. is_row (number y) r ≡ false) ys → AllOf (Off r) (remove_all ys)
unfolding remove_all op_number
off_remove_all r [] h = tt
off_remove_all r (y ∷ ys) h = (h.0, off_remove_all r ys h.1)

pub row_self : (r : Row) → is_row (number r) r ≡ true
unfolding is_row number
row_self r = eqb_self r.1.number

hit_remove_all : {r : Row} {ys : List Row} (os : List Op) → Mem r ys → row_after (remove_all ys ++ os) r ≡ []
unfolding row_after remove_all if'◌then◌else◌
hit_remove_all {r} os here = rw (row_self r)
hit_remove_all {r} os (there {y} m) = by (is_row (number y) r) (λ h. rw h) (λ h. rw h (hit_remove_all os m))

-- ---- keys

pub at_split : (t k : ℕ) (r : Row) → is_at t k r ≡ true → (r.0 ≡ t) × (r.1.key ≡ k)
unfolding is_at
at_split t k r h = let s = and_true (eqb r.0 t) (eqb r.1.key k) h in (eqb-true r.0 t s.0, eqb-true r.1.key k s.1)

pub at_join : (t k : ℕ) (r : Row) → r.0 ≡ t → r.1.key ≡ k → is_at t k r ≡ true
unfolding is_at
at_join t k r e f = rw (e, f, eqb_self t, eqb_self k)

-- at the key of the other
abbrev pub With : Row → Row → Bool
With x r = is_at x.0 x.1.key r

pub with_self : (x : Row) → With x x ≡ true
with_self x = at_join x.0 x.1.key x refl refl

-- at a key: whether another is at the same key is whether it is at this one
pub at_as : (t k : ℕ) (x r : Row) → is_at t k x ≡ true → With x r ≡ is_at t k r
at_as t k x r h = let s = at_split t k x h in ap₂ (λ t k. is_at t k r) s.0 s.1

-- of one key with y: the same as y to every other
pub with_as : (y x r : Row) → With y x ≡ true → With x r ≡ With y r
with_as y x r h = at_as y.0 y.1.key x r h

pub with_sym : (x r : Row) → With x r ≡ false → With r x ≡ false
with_sym x r h = by (With r x) (λ k. let s = at_split r.0 r.1.key x k in lie (sym h ∙ at_join x.0 x.1.key r (sym s.0) (sym s.1))) (λ k. k)

pub row_number : (n : ℕ) (r : Row) → is_row n r ≡ true → r.1.number ≡ n
unfolding is_row number
row_number n r h = eqb-true r.1.number n h

pub row_false : (n : ℕ) (r : Row) → r.1.number ≢ n → is_row n r ≡ false
row_false n r h = by (is_row n r) (λ k. absurd (h (row_number n r k))) (λ k. k)

-- ---- the plan

-- of the rows at one key: the newest own one, if there is one, and a row
unfoldable pub by_newest : Option Row → Row → List Row
by_newest none r = r ∷ []
by_newest (some x) r = if' x.1.mark then [] else if' is_row (number x) r then kept_row x else []

module _ (tx : ℕ) (all : List Row) (d : Pairs Differ all) where
  -- of x, what is planned for its key does not touch rows of other keys
  plan_key_off : (x r : Row) → Mem x all → Mem r all → With x r ≡ false → AllOf (Off r) (plan_key x (keep (With x) all))
  unfolding plan_key if'◌then◌else◌ op_number number
  plan_key_off x r mx mr h =
      let only = mem_only mr d in
      let miss : (y : Row) → Mem y all → With x y ≡ true → is_row (number y) r ≡ false = λ y my k. row_false (number y) r
      (λ e. lie (sym h ∙ ap (With x) (sym (mem_all _ my only (sym e))) ∙ k)) in
      let all-off = all_map _ (λ y. is_row (number y) r ≡ false) (λ y q. miss y q.1 q.0) (keep (With x) all)
      (kept_mem (With x) all) in
      let others = keep (λ y. not (is_row (number x) y)) (keep (With x) all) in
      let others-off = all_map (λ y. (not (is_row (number x) y) ≡ true) × (is_row (number y) r ≡ false)) (λ y. is_row (number y) r ≡ false) (λ y q. q.1) others
      (all_keep (λ y. is_row (number y) r ≡ false) (λ y. not (is_row (number x) y)) (keep (With x) all) all-off) in
      by x.1.mark
      (λ m. rw m (off_remove_all r (keep (With x) all) all-off))
      (λ m. rw m (miss x mx (at_join x.0 x.1.key x refl refl), off_remove_all r others others-off))

  abbrev Within : List Row → Type 0
  Within xs = AllOf (λ x. Mem x all) xs

  plan_off : (r : Row) → Mem r all → (xs : List Row) → Within xs → any (own_at tx r.0 r.1.key) xs ≡ false → AllOf (Off r) (plan_rows tx all xs)
  unfolding plan_rows any if'◌then◌else◌ own_at
  plan_off r mr [] w h = tt
  plan_off r mr (x ∷ xs) w h =
      by (is_own tx x && With r x) (λ k. lie (sym (rw (k, any) at h)))
      (λ k. let rest = plan_off r mr xs w.1 (rw (k, any) at h) in
      by (is_own tx x)
      (λ o. by (any (own_at tx x.0 x.1.key) xs) (λ q. rw (o, q) rest)
      (λ q. rw (o, q) (all_append (Off r) (plan_key x (keep (With x) all)) (plan_rows tx all xs) (plan_key_off x r w.0 mr (with_sym r x (rw o at k))) rest)))
      (λ o. rw o rest))

  -- a row at the key of x, the newest own one
  hit_mark : (x r : Row) (os : List Op) → Mem r all → With x r ≡ true → x.1.mark ≡ true
      → row_after (plan_key x (keep (With x) all) ++ os) r ≡ by_newest (some x) r
  unfolding plan_key if'◌then◌else◌ by_newest
  hit_mark x r os mr h m = rw m (hit_remove_all os (mem_keep (With x) mr h))

  hit_other : (x r : Row) (os : List Op) → Mem r all → With x r ≡ true → x.1.mark ≡ false → is_row (number x) r ≡ false
      → row_after (plan_key x (keep (With x) all) ++ os) r ≡ by_newest (some x) r
  unfolding plan_key if'◌then◌else◌ by_newest row_after number
  hit_other x r os mr h m k = rw (m, k) (hit_remove_all os (mem_keep (λ y. not (is_row (number x) y)) (mem_keep (With x) mr h) (ap not k)))

  others_miss : (x : Row) (vs : List Row) → AllOf (λ y. is_row (number y) (x.0, as_committed x.1) ≡ false) (keep (λ y. not (is_row (number x) y)) vs)
  unfolding is_row number as_committed
  others_miss x vs =
      all_map (λ y. (not (eqb (number y) (number x)) ≡ true) × Mem y vs) (λ y. eqb (number x) (number y) ≡ false)
      (λ y q. by (eqb (number x) (number y)) (λ k. lie
      (sym (ap (λ z. not (eqb z x.1.number)) (sym (eqb-true _ _ k)) ∙ ap not (eqb_self x.1.number)) ∙ q.0)) (λ k. k))
      (keep (λ y. not (is_row (number x) y)) vs) (kept_mem (λ y. not (is_row (number x) y)) vs)

  off_settled : (x : Row) (os : List Op) → AllOf (Off x) os → AllOf (Off (x.0, as_committed x.1)) os
  unfolding is_row number as_committed
  off_settled x os h = h

  plan_key_live : (x : Row) (vs : List Row) → x.1.mark ≡ false
      → plan_key x vs ≡ to_commit (number x) ∷ remove_all (keep (λ y. not (is_row (number x) y)) vs)
  unfolding plan_key if'◌then◌else◌
  plan_key_live x vs m = rw m

  commits_self : (x : Row) (os : List Op) → is_row (number x) x ≡ true → row_after (to_commit (number x) ∷ os) x ≡ row_after os (x.0, as_committed x.1)
  unfolding row_after if'◌then◌else◌
  commits_self x os k = rw k

  newest_live : (x r : Row) → x.1.mark ≡ false → is_row (number x) r ≡ true → by_newest (some x) r ≡ (x.0, as_committed x.1) ∷ []
  unfolding by_newest if'◌then◌else◌ kept_row number
  newest_live x r m k = rw (m, k)

  hit_step : (x : Row) (os : List Op) → x.1.mark ≡ false → is_row (number x) x ≡ true
      → row_after (remove_all (keep (λ y. not (is_row (number x) y)) (keep (With x) all)) ++ os) (x.0, as_committed x.1) ≡ (x.0, as_committed x.1) ∷ []
      → row_after (plan_key x (keep (With x) all) ++ os) x ≡ by_newest (some x) x
  hit_step x os m k e =
      ap (λ z. row_after (z ++ os) x) (plan_key_live x (keep (With x) all) m)
      ∙ commits_self x (remove_all (keep (λ y. not (is_row (number x) y)) (keep (With x) all)) ++ os) k ∙ e
      ∙ sym (newest_live x x m k)

  hit_self : (x : Row) (os : List Op) → x.1.mark ≡ false → AllOf (Off x) os → row_after (plan_key x (keep (With x) all) ++ os) x ≡ by_newest (some x) x
  unfolding plan_key if'◌then◌else◌ by_newest row_after kept_row
  hit_self x os m off =
      let y : Row = (x.0, as_committed x.1) in
      let vs = keep (With x) all in
      let k = row_self x in
      let e = off_append (remove_all (keep (λ y. not (is_row (number x) y)) vs)) os y
      (off_remove_all y (keep (λ y. not (is_row (number x) y)) vs) (others_miss x vs)) ∙ off_after os y (off_settled x os off) in
      hit_step x os m k e

  plan_key_hit : (x r : Row) (os : List Op) → Mem x all → Mem r all → With x r ≡ true → AllOf (Off r) os
      → row_after (plan_key x (keep (With x) all) ++ os) r ≡ by_newest (some x) r
  unfolding number
  plan_key_hit x r os mx mr h off =
      by x.1.mark (λ m. hit_mark x r os mr h m)
      (λ m. by (is_row (number x) r)
      (λ k. let e : x ≡ r = mem_all (λ y. y.1.number ≡ r.1.number → y ≡ r) mx (mem_only mr d) (sym (row_number x.1.number r k)) in
      subst (λ z. row_after (plan_key x (keep (With x) all) ++ os) z ≡ by_newest (some x) z) e (hit_self x os m (subst (λ z. AllOf (Off z) os) (sym e) off)))
      (λ k. hit_other x r os mr h m k))

  abbrev Own : Row → Row → Bool
  Own r y = own_at tx r.0 r.1.key y

  -- the same key, the same test
  own_same : (x r : Row) → With r x ≡ true → (xs : List Row) → any (Own x) xs ≡ any (Own r) xs
  own_same x r h xs = let s = at_split r.0 r.1.key x h in ap₂ (λ t k. any (own_at tx t k) xs) s.0 s.1

  own_parts : (r x : Row) → Own r x ≡ true → (is_own tx x ≡ true) × (With r x ≡ true)
  unfolding own_at
  own_parts r x h = and_true (is_own tx x) (With r x) h

  own_not : (r x : Row) → Own r x ≡ false → is_own tx x ≡ true → With r x ≡ false
  unfolding own_at
  own_not r x h o = rw o at h

  with_true : (x r : Row) → With r x ≡ true → With x r ≡ true
  with_true x r h = let s = at_split r.0 r.1.key x h in at_join x.0 x.1.key r (sym s.0) (sym s.1)

  plan_step : (r x : Row) (xs : List Row) → Mem r all → Mem x all → Within xs → row_after (plan_rows tx all xs) r ≡ by_newest (last (Own r) xs) r
      → row_after (plan_rows tx all (x ∷ xs)) r ≡ by_newest (last (Own r) (x ∷ xs)) r
  plan_step r x xs mr mx w ih =
      by (Own r x)
      (λ k. let o = own_parts r x k in
      by-option (last (Own r) xs)
      (λ n. let q : any (Own r) xs ≡ false = any_off (Own r) xs (last_off (Own r) xs n) in
      let e : (is_own tx x && not (any (Own x) xs)) ≡ true = rw (o.0, own_same x r o.1 xs, q) in
      ap (λ z. row_after z r) (plan_take tx all x xs e) ∙ plan_key_hit x r (plan_rows tx all xs) mx mr (with_true x r o.1) (plan_off r mr xs w q)
      ∙ ap (λ z. by_newest z r) (sym (last_here (Own r) x xs n k)))
      (λ y n. let e : (is_own tx x && not (any (Own x) xs)) ≡ false = rw (o.0, own_same x r o.1 xs, last_any (Own r) xs y n) in
      ap (λ z. row_after z r) (plan_skip tx all x xs e) ∙ ih ∙ ap (λ z. by_newest z r) (n ∙ sym (last_some (Own r) x xs y n))))
      (λ k. let rest : row_after (plan_rows tx all xs) r ≡ by_newest (last (Own r) (x ∷ xs)) r = ih ∙ ap (λ z. by_newest z r) (sym (last_skip (Own r) x xs k)) in
      by (is_own tx x && not (any (Own x) xs))
      (λ e. let o = and_true (is_own tx x) (not (any (Own x) xs)) e in
      ap (λ z. row_after z r) (plan_take tx all x xs e) ∙ off_append (plan_key x (keep (With x) all)) (plan_rows tx all xs) r
      (plan_key_off x r mx mr (with_sym r x (own_not r x k o.0))) ∙ rest)
      (λ e. ap (λ z. row_after z r) (plan_skip tx all x xs e) ∙ rest))

  plan_after : (r : Row) → Mem r all → (xs : List Row) → Within xs → row_after (plan_rows tx all xs) r ≡ by_newest (last (Own r) xs) r
  plan_after r mr [] w = unfold plan_rows row_after by_newest last in refl
  plan_after r mr (x ∷ xs) w = plan_step r x xs mr w.0 w.1 (plan_after r mr xs w.1)

  abort_after : (r : Row) → Mem r all → row_after (remove_all (keep (is_own tx) all)) r ≡ (if' is_own tx r then [] else r ∷ [])
  unfolding number
  abort_after r mr =
      by (is_own tx r)
      (λ o. ap (λ z. row_after z r) (sym (append-nil (remove_all (keep (is_own tx) all)))) ∙ hit_remove_all [] (mem_keep (is_own tx) mr o) ∙ (unfold if'◌then◌else◌ in rw o))
      (λ o. off_after (remove_all (keep (is_own tx) all)) r
      (off_remove_all r (keep (is_own tx) all) (all_map (λ y. (is_own tx y ≡ true) × Mem y all) (λ y. is_row (number y) r ≡ false)
      (λ y q. row_false (number y) r (λ e. lie (sym o ∙ ap (is_own tx) (sym (mem_all (λ y. y.1.number ≡ r.1.number → y ≡ r) q.1 (mem_only mr d) (sym e))) ∙ q.0)))
      (keep (is_own tx) all) (kept_mem (is_own tx) all))) ∙ (unfold if'◌then◌else◌ in rw o))

pub gather_ext : (F G : Row → List Row) (rs : List Row) → AllOf (λ r. F r ≡ G r) rs → gather F rs ≡ gather G rs
unfolding gather
gather_ext F G [] h = refl
gather_ext F G (r ∷ rs) h = rw (h.0, gather_ext F G rs h.1)

-- commit and abort, on the live rows
unfoldable pub after_commit : ℕ → List Row → Row → List Row
after_commit tx all r = by_newest (last (own_at tx r.0 r.1.key) all) r

unfoldable pub after_abort : ℕ → Row → List Row
after_abort tx r = if' is_own tx r then [] else r ∷ []

pub commit_rows : (tx : ℕ) (all : List Row) → Pairs Differ all → gather (row_after (plan_rows tx all all)) all ≡ gather (after_commit tx all) all
unfolding after_commit
commit_rows tx all d = gather_ext _ _ all (all_mem _ all (λ r m. plan_after tx all d r m all (all_mem _ all (λ y k. k))))

pub abort_rows : (tx : ℕ) (all : List Row) → Pairs Differ all → gather (row_after (remove_all (keep (is_own tx) all))) all ≡ gather (after_abort tx) all
unfolding after_abort
abort_rows tx all d = gather_ext _ _ all (all_mem _ all (λ r m. abort_after tx all d r m))
