-- Every page that is not frozen is not empty, fits its block and has nothing pending; and every tuple has at most 53 bytes.
use Rattle.block_forms.specs.Limits.{record_space, most_record}
use Rattle.basics.proofs.Kit.{◌≡◌, refl, sym, ◌∙◌, subst, true, false, some, none, Option, List, [], ◌∷◌, ◌++◌, map, ℕ, suc, ◌+◌, ◌*◌, ◌≤◌, ◌<◌, zero, ◌-◌, min, leb, eqb, ltb}
use Rattle.basics.proofs.Kit.{length, take, drop, length-append, length-take, length-drop, length-map, arith}
use Rattle.basics.specs.Basics.{sum, if'◌then◌else◌, is_empty, any}
use Rattle.basics.proofs.Facts.{AllOf, lie, by, never, by-option}
use Rattle.block_forms.specs.Tuple.{Tuple, size, owner_size}
use Rattle.model.specs.State.{Held, nothing, Page, adding, Pending, removing, committing}
use Rattle.model.specs.Rules.{held_size, shown, fresh, with_tuples, lead, split_once, fits, half, after, entering, without_pending, grown, place, place_after, place_front, joined}
use Rattle.model.specs.Rules.{settle, list_of, as_committed, with_pending, commit_now, remove_now, pend_remove, is_adding, pend_commit, is_removing, around, applied}
use Rattle.model.specs.Rules.{is_committing, live, split_all, is_pending, thaw_on, thaw, is_frozen, edit_at, pend_remove_at, remove_row_on, committed_at, commit_row_on, remove_row, commit_row}
use Rattle.model.specs.Transactions.{PlaceOp, commit_place, remove_place, carry_out}
use Rattle.basics.proofs.Elements.{all_map, leb-true, leb-false, all_take, all_drop, some_eq, all_append, has_some, all_parts, sum_append}
use Rattle.basics.proofs.Lists.{sum_parts}
use Rattle.model.proofs.Splits.{Small, half_between, after_all, together, split_all_lem}
use Rattle.model.proofs.RuleCases.{after_cases, all_row, settle_cases, Joinable}
use Rattle.model.proofs.Shown.{bare, after_shown, entering_adding, shown_pend_commit, shown_taken_at, shown_without_pending}

-- a tuple of a page that is not frozen: small, nothing pending
abbrev pub NothingPending : Held → Type 0
NothingPending x = (held_size x ≤ most_record) × (x.pending ≡ nothing)

-- a list of tuples that may stand on such a page
abbrev Fine : List Held → Type 0
Fine ts = AllOf NothingPending ts × (sum held_size ts ≤ record_space) × (0 < length ts)

-- and what a frozen page had at begin
abbrev Whole : List Tuple → Type 0
Whole ts = (sum size ts ≤ record_space) × (0 < length ts)

abbrev pub PageOk : Page → Type 0
PageOk p = AllOf Small p.tuples × (p.frozen ≡ false → Fine p.tuples) × (p.frozen ≡ true → Whole (shown p.tuples))

pub small : (ts : List Held) → AllOf NothingPending ts → AllOf Small ts
small ts a = all_map _ _ (λ x h. h.0) ts a

fresh_ok : (t : ℕ) (ts : List Held) → Fine ts → PageOk (fresh t ts)
unfolding fresh
fresh_ok t ts f = (small ts f.0, λ h. f, λ h. lie h)

all_fresh : (t : ℕ) (tss : List (List Held)) → AllOf Fine tss → AllOf PageOk (map (fresh t) tss)
all_fresh t [] a = tt
all_fresh t (ts ∷ tss) a = (fresh_ok t ts a.0, all_fresh t tss a.1)

frozen_ok : (p : Page) (ts : List Held) → p.frozen ≡ true → AllOf Small ts → shown ts ≡ shown p.tuples → Whole (shown p.tuples)
    → PageOk (with_tuples p ts)
unfolding with_tuples
frozen_ok p ts h a e w = (a, λ k. lie (sym k ∙ h), λ k. rw e w)

-- ---- one split of a page that took one tuple more

-- the first part is at least half, and at most half and a tuple
lead_size : (w a : ℕ) (xs : List Held) → 2 * a < w → w ≡ a + sum held_size xs → AllOf Small xs
    → (w ≤ 2 * (a + sum held_size (take (lead w a xs) xs))) × (2 * (a + sum held_size (take (lead w a xs) xs)) < w + 2 * most_record)
unfolding lead sum if'◌then◌else◌
lead_size w a [] h e s = absurd (omega arith)
lead_size w a (x ∷ xs) h e s =
    by (leb w (2 * (a + held_size x)))
    (λ t. let k : w ≤ 2 * (a + held_size x) = leb-true w (2 * (a + held_size x)) t in rw t (omega arith, omega arith))
    (λ t. let k : 2 * (a + held_size x) < w = leb-false w (2 * (a + held_size x)) t in
    let r = lead_size w (a + held_size x) xs k (omega arith) s.1 in
    rw t (omega arith, omega arith))

split_once_lem : (ts : List Held) → AllOf NothingPending ts → 0 < length ts → sum held_size ts ≤ record_space + most_record → AllOf Fine (split_once ts)
unfolding split_once if'◌then◌else◌ fits half
split_once_lem ts c p l =
    by (leb (sum held_size ts) record_space) (λ h. rw h ((c, leb-true (sum held_size ts) record_space h, p), tt))
    (λ h.
    let big : record_space < sum held_size ts = leb-false (sum held_size ts) record_space h in
    let k = half ts in
    let m = half_between ts (small ts c) big in
    let z = lead_size (sum held_size ts) 0 ts (omega arith) (omega arith) (small ts c) in
    let q = sum_parts held_size k ts in
    let lt : length (take k ts) ≡ min k (length ts) = length-take k ts in
    let ld : length (drop k ts) ≡ length ts - k = length-drop k ts in
    rw h ((all_take _ k ts c, omega arith, omega arith), ((all_drop _ k ts c, omega arith, omega arith), tt)))

after_sum : (x : Held) (ys zs : List Held) → after x ys ≡ some zs → (sum held_size zs ≡ held_size x + sum held_size ys) × (0 < length zs)
unfolding after if'◌then◌else◌ sum
after_sum x [] zs e = never e
after_sum x (y ∷ ys) zs e =
    by-option (after x ys)
    (λ n. by (leb y.tuple.key x.tuple.key)
    (λ t. let k : y ∷ x ∷ ys ≡ zs = some_eq (rw (n, t) at e) in subst
    (λ z. (sum held_size z ≡ held_size x + (held_size y + sum held_size ys)) × (0 < length z)) k (omega arith, omega arith))
    (λ t. never (rw (n, t) at e)))
    (λ ws n. let k : y ∷ ws ≡ zs = some_eq (rw (n, after) at e) in let r = after_sum x ys ws n in
    subst (λ z. (sum held_size z ≡ held_size x + (held_size y + sum held_size ys)) × (0 < length z)) k (omega arith, omega arith))

entering_size : (p : Page) (x : Tuple) → held_size (entering p x) ≡ size x
unfolding held_size entering
entering_size p x = refl

entering_without_pending : (p : Page) (x : Tuple) → p.frozen ≡ false → (entering p x).pending ≡ nothing
unfolding entering if'◌then◌else◌
entering_without_pending p x h = rw h

-- a page takes the tuples zs, which are its own and x
all_grown : (p : Page) (zs : List Held) (ps : List Page) → AllOf Small zs
    → (p.frozen ≡ true → (shown zs ≡ shown p.tuples) × Whole (shown p.tuples))
    → (p.frozen ≡ false → AllOf NothingPending zs × (sum held_size zs ≤ record_space + most_record) × (0 < length zs)) → AllOf PageOk ps → AllOf PageOk (grown p zs ++ ps)
unfolding grown if'◌then◌else◌
all_grown p zs ps s w f a =
    by p.frozen (λ h. rw h (frozen_ok _ zs refl s (w h).0 (w h).1, a))
    (λ h. let g = f h in rw h (all_append PageOk (map (fresh p.table) (split_once zs)) ps (all_fresh p.table (split_once zs) (split_once_lem zs g.0 g.2 g.1)) a))

module _ (t : ℕ) (x : Tuple) (sx : size x ≤ most_record) where
  grown_after : (p : Page) (zs : List Held) (ps : List Page) → after (entering p x) p.tuples ≡ some zs → PageOk p → AllOf PageOk ps
      → AllOf PageOk (grown p zs ++ ps)
  grown_after p zs ps e o a =
      let k = after_sum (entering p x) p.tuples zs e in
      let eq = entering_size p x in
      let es : held_size (entering p x) ≤ most_record = omega arith in
      all_grown p zs ps (after_all Small (entering p x) p.tuples zs e es o.0)
      (λ h. (after_shown (entering p x) p.tuples zs (entering_adding p x h) e, o.2 h))
      (λ h. let f = o.1 h in (after_all NothingPending (entering p x) p.tuples zs e (es, entering_without_pending p x h) f.0, omega arith, k.1)) a

  all_place_after : (ps qs : List Page) → place_after t x ps ≡ some qs → AllOf PageOk ps → AllOf PageOk qs
  unfolding place_after if'◌then◌else◌
  all_place_after [] qs e a = never e
  all_place_after (p ∷ ps) qs e a =
      after_cases t x p ps qs e (λ ts n h m k. subst (AllOf PageOk) k (grown_after p ts ps m a.0 a.1))
      (λ ws n k. subst (AllOf PageOk) k (a.0, all_place_after ps ws n a.1))

  alone : Fine (without_pending x ∷ [])
  unfolding sum without_pending held_size
  alone = (((sx, refl), tt), omega arith, omega arith)

  grown_front : (p : Page) (ps : List Page) → PageOk p → AllOf PageOk ps → AllOf PageOk (grown p (entering p x ∷ p.tuples) ++ ps)
  unfolding sum shown if'◌then◌else◌
  grown_front p ps o a =
      let eq = entering_size p x in
      let es : held_size (entering p x) ≤ most_record = omega arith in
      all_grown p (entering p x ∷ p.tuples) ps (es, o.0) (λ h. (rw (entering_adding p x h), o.2 h))
      (λ h. let f = o.1 h in (((es, entering_without_pending p x h), f.0), omega arith, omega arith)) a

  all_place_front : (ps : List Page) → AllOf PageOk ps → AllOf PageOk (place_front t x ps)
  unfolding place_front if'◌then◌else◌
  all_place_front [] a = (fresh_ok t (without_pending x ∷ []) alone, tt)
  all_place_front (p ∷ ps) a =
      by (ltb p.table t) (λ h. rw h (a.0, all_place_front ps a.1))
      (λ h. by (eqb p.table t) (λ k. rw (h, k) (grown_front p ps a.0 a.1)) (λ k. rw (h, k) (fresh_ok t (without_pending x ∷ []) alone, a)))

  pub place_ok : (ps : List Page) → AllOf PageOk ps → AllOf PageOk (place t x ps)
  unfolding place
  place_ok ps a = by-option (place_after t x ps) (λ n. rw (n, place) (all_place_front ps a)) (λ qs n. rw (n, place) (all_place_after ps qs n a))

-- ---- joining

joined_ok : (p q : Page) → Joinable p q → AllOf NothingPending p.tuples → 0 < length p.tuples → AllOf NothingPending q.tuples → PageOk (joined p q)
unfolding joined
joined_ok p q e a h b =
    let k = e.few in
    let s = sum_append held_size p.tuples q.tuples in
    let l = length-append p.tuples q.tuples in
    fresh_ok p.table (p.tuples ++ q.tuples) (all_append NothingPending p.tuples q.tuples a b, omega arith, omega arith)

settle_ok : (rest : List Page) (o : Option Page) (p : Page) (ps : List Page) → (0 < length p.tuples → AllOf PageOk rest) → AllOf PageOk (list_of o)
    → AllOf NothingPending p.tuples → AllOf PageOk ps → AllOf PageOk (settle rest o p ps)
unfolding list_of
settle_ok rest o p ps r l c a =
    settle_cases (AllOf PageOk) rest o p ps (λ h. all_append PageOk (list_of o) ps l a)
    (λ h q e j. let f = (subst (λ z. AllOf PageOk (list_of z)) e l).0.1 j.left in (joined_ok q p j f.0 f.2 c, a))
    (λ h q qs e j. let k = subst (AllOf PageOk) e a in all_append PageOk (list_of o) _ l (joined_ok p q j c (has_some p.tuples h) (k.0.1 j.right).0, k.1))
    (λ h. all_append PageOk (list_of o) _ l (all_append PageOk rest ps (r (has_some p.tuples h)) a))

-- ---- removing and committing

edit_all : (P : Held → Type 0) (g : Held → List Held) → ((x : Held) → P x → AllOf P (g x)) → (j : ℕ) (ts : List Held) → AllOf P ts
    → AllOf P (edit_at g j ts)
unfolding edit_at
edit_all P g f j [] a = tt
edit_all P g f zero (x ∷ xs) a = all_append P (g x) xs (f x a.0) a.1
edit_all P g f (suc j) (x ∷ xs) a = (a.0, edit_all P g f j xs a.1)

edit_sum : (g : Held → List Held) → ((x : Held) → sum held_size (g x) ≤ held_size x) → (j : ℕ) (ts : List Held)
    → sum held_size (edit_at g j ts) ≤ sum held_size ts
unfolding edit_at sum
edit_sum g f j [] = omega arith
edit_sum g f zero (x ∷ xs) = let k = f x in rw (sum_append held_size (g x) xs) (omega arith)
edit_sum g f (suc j) (x ∷ xs) = let k = edit_sum g f j xs in omega arith

committed_size : (x : Tuple) → size (as_committed x) ≤ size x
unfolding size as_committed owner_size
committed_size x = omega arith

pending_size : (o : Pending) (x : Held) → held_size (with_pending o x) ≡ held_size x
unfolding held_size with_pending
pending_size o x = refl

kept_size : (x : Held) → sum held_size (commit_now x) ≤ held_size x
unfolding commit_now sum held_size
kept_size x = let c = committed_size x.tuple in omega arith

pend_remove_small : (x : Held) → Small x → AllOf Small (pend_remove x)
unfolding pend_remove if'◌then◌else◌
pend_remove_small x s = by (is_adding x.pending) (λ h. rw h tt) (λ h. let k = pending_size removing x in rw h (omega arith, tt))

kept_small : (x : Held) → Small x → AllOf Small (commit_now x)
unfolding commit_now held_size
kept_small x s = let c = committed_size x.tuple in (omega arith, tt)

pend_commit_small : (x : Held) → Small x → AllOf Small (pend_commit x)
unfolding pend_commit if'◌then◌else◌
pend_commit_small x s =
    by (is_adding x.pending) (λ h. rw h (kept_small x s))
    (λ h. by (is_removing x.pending) (λ m. rw (h, m) (s, tt)) (λ m. let k = pending_size committing x in rw (h, m) (omega arith, tt)))

kept_without_pending : (x : Held) → NothingPending x → AllOf NothingPending (commit_now x)
unfolding commit_now held_size
kept_without_pending x c = let k = committed_size x.tuple in ((omega (arith, c.0), c.1), tt)

taken_small : (j : ℕ) (ts : List Held) → AllOf Small ts → AllOf Small (pend_remove_at j ts)
unfolding pend_remove_at if'◌then◌else◌
taken_small j ts a = by (is_empty (edit_at pend_remove j ts)) (λ h. rw h a) (λ h. rw h (edit_all Small pend_remove pend_remove_small j ts a))

remove_row_on_ok : (j : ℕ) (o : Option Page) (p : Page) (ps : List Page) → AllOf PageOk (list_of o) → AllOf PageOk (p ∷ ps)
    → AllOf PageOk (remove_row_on j o p ps)
unfolding remove_row_on if'◌then◌else◌ remove_now sum fresh
remove_row_on_ok j o p ps l a =
    by p.frozen
    (λ h. rw h (all_append PageOk (list_of o) _ l (frozen_ok _ _ refl (taken_small j p.tuples a.0.0) (shown_taken_at j p.tuples) (a.0.2 h), a.1)))
    (λ h.
    let f = a.0.1 h in
    let c = edit_all NothingPending remove_now (λ x q. tt) j p.tuples f.0 in
    let k = edit_sum remove_now (λ x. omega arith) j p.tuples in
    rw h (settle_ok _ o _ ps (λ m. (fresh_ok p.table (edit_at remove_now j p.tuples) (c, omega arith, m), tt)) l c a.1))

kept_length : (j : ℕ) (ts : List Held) → length (edit_at commit_now j ts) ≡ length ts
unfolding edit_at commit_now
kept_length j [] = refl
kept_length zero (x ∷ xs) = refl
kept_length (suc j) (x ∷ xs) = rw (kept_length j xs)

commit_row_on_ok : (j : ℕ) (o : Option Page) (p : Page) (ps : List Page) → AllOf PageOk (list_of o) → AllOf PageOk (p ∷ ps)
    → AllOf PageOk (commit_row_on j o p ps)
unfolding commit_row_on committed_at if'◌then◌else◌ commit_now sum
commit_row_on_ok j o p ps l a =
    by p.frozen
    (λ h. rw h (all_append PageOk (list_of o) _ l
    (frozen_ok _ _ refl (edit_all Small pend_commit pend_commit_small j p.tuples a.0.0) (shown_pend_commit j p.tuples) (a.0.2 h), a.1)))
    (λ h.
    let f = a.0.1 h in
    let c = edit_all NothingPending commit_now kept_without_pending j p.tuples f.0 in
    let k = edit_sum commit_now kept_size j p.tuples in
    rw h (all_append PageOk (list_of o) _ l (fresh_ok p.table (edit_at commit_now j p.tuples) (c, omega arith, rw (kept_length j p.tuples) f.2), a.1)))

pub remove_row_ok : (i : ℕ) (ps : List Page) → AllOf PageOk ps → AllOf PageOk (remove_row i ps)
unfolding remove_row list_of
remove_row_ok i ps a = all_row PageOk remove_row_on remove_row_on_ok i none ps tt a

pub commit_row_ok : (i : ℕ) (ps : List Page) → AllOf PageOk ps → AllOf PageOk (commit_row i ps)
unfolding commit_row list_of
commit_row_ok i ps a = all_row PageOk commit_row_on commit_row_on_ok i none ps tt a

pub carry_ok : (n : ℕ) (os : List PlaceOp) (ps : List Page) → AllOf PageOk ps → AllOf PageOk (carry_out n os ps)
unfolding carry_out
carry_ok n [] ps a = a
carry_ok n (commit_place i ∷ os) ps a = carry_ok n os _ (commit_row_ok _ ps a)
carry_ok n (remove_place i ∷ os) ps a = carry_ok n os _ (remove_row_ok _ ps a)

-- ---- thawing

applied_size : (x : Held) → size (applied x) ≤ held_size x
unfolding applied if'◌then◌else◌ held_size
applied_size x = let c = committed_size x.tuple in by (is_committing x.pending) (λ h. rw h c) (λ h. rw h (omega arith))

pub live_without_pending : (ts : List Held) → AllOf Small ts → AllOf NothingPending (map without_pending (live ts))
unfolding live if'◌then◌else◌ without_pending held_size
live_without_pending [] a = tt
live_without_pending (x ∷ xs) a =
    let s = applied_size x in
    by (is_removing x.pending) (λ h. rw h (live_without_pending xs a.1)) (λ h. rw h ((omega (arith, a.0), refl), live_without_pending xs a.1))

-- the tuples alone are as large
pub bare_size : (ts : List Held) → sum size (bare ts) ≡ sum held_size ts
unfolding sum held_size
bare_size [] = refl
bare_size (x ∷ xs) = rw (bare_size xs)

-- what the deep split makes is fine
split_fine : (ts : List Held) → AllOf NothingPending ts → 0 < length ts → AllOf Fine (split_all ts)
unfolding together fits
split_fine ts c l =
    let k = split_all_lem ts l (small ts c) in
    go (split_all ts) k.0 (subst (AllOf NothingPending) (sym k.1) c)
  where
    go : (tss : List (List Held)) → AllOf (λ us. (fits us ≡ true) × (is_empty us ≡ false)) tss → AllOf NothingPending (together tss) → AllOf Fine tss
    go [] a b = tt
    go (ts ∷ tss) a b =
        let q = all_parts NothingPending ts (together tss) b in
        ((q.0, leb-true (sum held_size ts) record_space a.0.0, has_some ts a.0.1), go tss a.1 q.1)

-- small tuples without a pending operation
without_pending_of : (ts : List Held) → any (λ x. is_pending x.pending) ts ≡ false → AllOf Small ts → AllOf NothingPending ts
unfolding any is_pending
without_pending_of [] e a = tt
without_pending_of (x ∷ xs) e a = go x.pending refl (without_pending_of xs)
  where
    go : (o : Pending) → x.pending ≡ o → (any (λ x. is_pending x.pending) xs ≡ false → AllOf Small xs → AllOf NothingPending xs) → AllOf NothingPending (x ∷ xs)
    go nothing h r = ((a.0, h), r (rw (h, any) at e) a.1)
    go adding h r = lie (sym (rw (h, any) at e))
    go committing h r = lie (sym (rw (h, any) at e))
    go removing h r = lie (sym (rw (h, any) at e))

thaw_on_ok : (b : ℕ) (o : Option Page) (p : Page) (ps : List Page) → p.frozen ≡ true → AllOf PageOk (list_of o) → AllOf PageOk (p ∷ ps)
    → AllOf PageOk (thaw_on b o p ps)
unfolding thaw_on if'◌then◌else◌ fresh
thaw_on_ok b o p ps f l a =
    by (any (λ x. is_pending x.pending) p.tuples)
    (λ h. let c = live_without_pending p.tuples a.0.0 in
    rw h (settle_ok _ o _ ps (λ m. all_fresh p.table (split_all (map without_pending (live p.tuples))) (split_fine (map without_pending (live p.tuples)) c m)) l c a.1))
    (λ h. let w = subst Whole (shown_without_pending p.tuples h) (a.0.2 f) in
    let c = without_pending_of p.tuples h a.0.0 in
    let z = bare_size p.tuples in
    let y = length-map p.tuples (λ h. h.tuple) in
    rw h (all_append PageOk (list_of o) _ l ((a.0.0, λ k. (c, omega (arith, w.0), omega (arith, w.1)), λ k. lie k), a.1)))

thaw_around : (b : ℕ) (o : Option Page) (ps : List Page) → AllOf PageOk (list_of o) → AllOf PageOk ps → AllOf PageOk (around is_frozen (thaw_on b) o ps)
unfolding around list_of is_frozen
thaw_around b o [] l a = l
thaw_around b o (p ∷ ps) l a =
    by p.frozen (λ h. rw (h, around) (thaw_on_ok b o p ps h l a))
    (λ h. rw (h, around) (all_append PageOk (list_of o) _ l (thaw_around b (some p) ps (a.0, tt) a.1)))

pub thaw_ok : (b : ℕ) (ps : List Page) → AllOf PageOk ps → AllOf PageOk (thaw b ps)
unfolding thaw list_of
thaw_ok b ps a = thaw_around b none ps tt a
