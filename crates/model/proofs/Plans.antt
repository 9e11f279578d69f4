-- The plans by place are the plans by number, and their places rise.
use Rattle.basics.proofs.Kit.{◌≡◌, refl, sym, ap, ◌∙◌, subst, ap₂, ◌≢◌, Bool, true, false, ◌&&◌, not, some, none, Option, Option·map, List, [], ◌∷◌, ◌++◌, append_assoc, map, ℕ, suc, ◌+◌}
use Rattle.basics.proofs.Kit.{◌≤◌, ◌<◌, zero, eqb, length, get_or, length-append, append_snoc, get_or-append_seam, arith}
use Rattle.basics.specs.Basics.{if'◌then◌else◌, keep, any, last}
use Rattle.basics.proofs.Lists.{map_append}
use Rattle.basics.proofs.Facts.{by, lie, by-option, AllOf}
use Rattle.block_forms.specs.Tuple.{Tuple}
use Rattle.image_rows.specs.Rows.{Row, number, is_own, is_at}
use Rattle.model.specs.Rules.{is_removing}
use Rattle.model.specs.Places.{PlaceOp, commit_place, remove_place, Placed, row_of, placed, continues, runs, live_of, own_placed, remove_places, each_run, plan_newest, plan_run, plan_runs}
use Rattle.basics.proofs.Elements.{Pairs, all_at, Mem, here, there, mem_all, all_map, all_parts, all_keep, kept_mem, any_off, last_off, last_any, last_skip, last_some, last_here, last_mem}
use Rattle.basics.proofs.Elements.{eqb_self, eqb-true, and_no, and_yes}
use Rattle.model.proofs.ByNumber.{Op, to_commit, to_remove, remove_all, is_row, plan_key, own_at, plan_rows, plan_skip, plan_take}
use Rattle.model.proofs.Rows.{Entry, applied_is, number_of}
use Rattle.model.proofs.RowAfter.{With}
use Rattle.model.proofs.Carry.{numbered, Rising}
use Rattle.model.proofs.Runs.{rows_in, rows_append, flat, Grouped}

-- ---- places rise along a plan

module _ {X : Type 0} where
  -- places that rise, from k to below m
  abbrev pub Between : ℕ → ℕ → List (ℕ × X) → Type 0
  Between k m [] = k ≤ m
  Between k m (v ∷ vs) = (k ≤ v.0) × Between (suc v.0) m vs

  between_lower : (j k m : ℕ) (vs : List (ℕ × X)) → j ≤ k → Between k m vs → Between j m vs
  between_lower j k m [] h b = omega arith
  between_lower j k m (v ∷ vs) h b = (omega (arith, b.0), b.1)

  between_end : (k m : ℕ) (vs : List (ℕ × X)) → Between k m vs → k ≤ m
  between_end k m [] b = b
  between_end k m (v ∷ vs) b = let r = between_end (suc v.0) m vs b.1 in omega (arith, b.0)

  between_mem : {v : ℕ × X} (k m : ℕ) {vs : List (ℕ × X)} → Mem v vs → Between k m vs → (k ≤ v.0) × (v.0 < m)
  between_mem {v} k m (here {rs}) b = let r = between_end (suc v.0) m rs b.1 in (b.0, omega arith)
  between_mem k m (there {y} i) b = let r = between_mem (suc y.0) m i b.1 in (omega (arith, b.0, r.0), r.1)

  pub between_keep : (f : ℕ × X → Bool) (k m : ℕ) (vs : List (ℕ × X)) → Between k m vs → Between k m (keep f vs)
  unfolding keep if'◌then◌else◌
  between_keep f k m [] b = b
  between_keep f k m (v ∷ vs) b =
      let r = between_keep f (suc v.0) m vs b.1 in
      by (f v) (λ h. rw h (b.0, r)) (λ h. rw h (between_lower k (suc v.0) m (keep f vs) (omega (arith, b.0)) r))

  between_snoc : (k i : ℕ) (vs : List (ℕ × X)) (x : X) → Between k i vs → Between k (suc i) (vs ++ (i, x) ∷ [])
  between_snoc k i [] x b = (b, omega arith)
  between_snoc k i (v ∷ vs) x b = (b.0, between_snoc (suc v.0) i vs x b.1)

pub between_live : (k m : ℕ) (xs : List Placed) → Between k m xs → Between k m (live_of xs)
unfolding live_of if'◌then◌else◌
between_live k m [] b = b
between_live k m (x ∷ xs) b =
    let r = between_live (suc x.0) m xs b.1 in
    by (is_removing x.1.1.pending) (λ h. rw h (between_lower k (suc x.0) m (live_of xs) (omega (arith, b.0)) r)) (λ h. rw h (b.0, r))

pub between_placed : (i : ℕ) (es : List Entry) → Between i (i + length es) (placed i es)
unfolding placed
between_placed i [] = omega arith
between_placed i (e ∷ es) =
    let z : suc i + length es ≡ i + suc (length es) = omega arith in
    (omega arith, subst (λ m. Between (suc i) m (placed (suc i) es)) z (between_placed (suc i) es))

module _ (n : ℕ) where
  rising_lower : (j k : ℕ) (os : List PlaceOp) → j ≤ k → Rising n k os → Rising n j os
  rising_lower j k [] h r = tt
  rising_lower j k (commit_place i ∷ os) h r = (omega (arith, r.0), r.1, rising_lower j k os h r.2)
  rising_lower j k (remove_place i ∷ os) h r = (omega (arith, r.0), r.1, r.2)

  pub rising_removes : (k m : ℕ) (vs : List (ℕ × Row)) (os : List PlaceOp) → m ≤ n → Between k m vs → Rising n m os → Rising n k (remove_places vs ++ os)
  unfolding remove_places
  rising_removes k m [] os h b r = rising_lower k m os b r
  rising_removes k m (v ∷ vs) os h b r =
      let e = between_end (suc v.0) m vs b.1 in (b.0, omega arith, rising_removes (suc v.0) m vs os h b.1 r)

  rising_newest : (k m : ℕ) (o : Option (ℕ × Row)) (vs : List (ℕ × Row)) (os : List PlaceOp) → m ≤ n → Between k m vs
      → ((x : ℕ × Row) → o ≡ some x → Mem x vs) → Rising n m os → Rising n k (plan_newest o vs ++ os)
  unfolding plan_newest if'◌then◌else◌
  rising_newest k m none vs os h b f r = rising_lower k m os (between_end k m vs b) r
  rising_newest k m (some x) vs os h b f r =
      let w = between_mem k m (f x refl) b in
      by x.1.1.mark (λ q. rw q (rising_removes k m vs os h b r))
      (λ q. rw q (w.0, omega (arith, w.1), rising_removes k m (keep (λ y. not (eqb y.0 x.0)) vs) os h (between_keep _ k m vs b) r))

  rising_run : (tx k m : ℕ) (run : List Placed) (os : List PlaceOp) → m ≤ n → Between k m run → Rising n m os → Rising n k (plan_run tx run ++ os)
  unfolding plan_run
  rising_run tx k m run os h b r =
      rising_newest k m (last (own_placed tx) (live_of run)) (live_of run) os h (between_live k m run b) (λ x e. (last_mem (own_placed tx) (live_of run) x e).0) r

  pub rising_runs : (tx k i : ℕ) (run : List Placed) (es : List Entry) → Between k i run → i + length es ≤ n
      → Rising n k (plan_runs tx (runs run (placed i es)))
  unfolding runs placed each_run
  rising_runs tx k i run [] b h = rising_run tx k i run [] (omega arith) b tt
  rising_runs tx k i run (e ∷ es) b h =
      by (continues run (i, e))
      (λ c. rw (c, runs) (rising_runs tx k (suc i) (run ++ (i, e) ∷ []) es (between_snoc k i run e b) (omega arith)))
      (λ c. rw (c, runs, each_run) (rising_run tx k i run _ (omega arith) b (rising_runs tx i (suc i) ((i, e) ∷ []) es (omega arith, omega arith) (omega arith))))

-- ---- numbers and places

-- the number at its place, where ns are the numbers at entry
abbrev pub Named : List ℕ → ℕ → ℕ → Type 0
Named ns i n = (i < length ns) × (get_or ns i 0 ≡ n)

-- distinct numbers stand at distinct places
same_place : (ns : List ℕ) → Pairs (λ a b. a ≢ b) ns → (i j : ℕ) → i < length ns → j < length ns → get_or ns i 0 ≡ get_or ns j 0 → i ≡ j
same_place [] d i j h k e = absurd (omega arith)
same_place (n ∷ ns) d zero zero h k e = refl
same_place (n ∷ ns) d zero (suc j) h k e = absurd (all_at (λ x. n ≢ x) 0 ns j (omega arith) d.0 e)
same_place (n ∷ ns) d (suc i) zero h k e = absurd (all_at (λ x. n ≢ x) 0 ns i (omega arith) d.0 (sym e))
same_place (n ∷ ns) d (suc i) (suc j) h k e = ap suc (same_place ns d.1 i j (omega arith) (omega arith) e)

place_number : (ns : List ℕ) → Pairs (λ a b. a ≢ b) ns → (i j m n : ℕ) → Named ns i m → Named ns j n → eqb i j ≡ eqb m n
place_number ns d i j m n a b =
    by (eqb i j)
    (λ h. let e : m ≡ n = sym a.1 ∙ ap (λ z. get_or ns z 0) (eqb-true i j h) ∙ b.1 in h ∙ sym (ap (λ z. eqb z n) e ∙ eqb_self n))
    (λ h. by (eqb m n)
    (λ k. let e : i ≡ j = same_place ns d i j a.0 b.0 (a.1 ∙ eqb-true m n k ∙ sym b.1) in lie (sym h ∙ ap (λ z. eqb z j) e ∙ eqb_self j))
    (λ k. h ∙ sym k))

pub named_placed : (ms : List ℕ) (es : List Entry) → AllOf (λ x. Named (ms ++ map number_of es) x.0 (row_of x).1.number) (placed (length ms) es)
unfolding placed
named_placed ms [] = tt
named_placed ms (e ∷ es) =
    let ns = ms ++ map number_of (e ∷ es) in
    let l = length-append ms (map number_of (e ∷ es)) in
    let s = append_snoc ms (number_of e) (map number_of es) in
    let z : length (ms ++ number_of e ∷ []) ≡ suc (length ms) = length-append ms (number_of e ∷ []) ∙ omega arith in
    let r = named_placed (ms ++ number_of e ∷ []) es in (
      (omega arith, get_or-append_seam ms (number_of e) (map number_of es) 0),
      subst (λ i. AllOf (λ x. Named ns x.0 (row_of x).1.number) (placed i es)) z
          (subst (λ q. AllOf (λ x. Named q x.0 (row_of x).1.number) (placed (length (ms ++ number_of e ∷ [])) es)) (append_assoc ms (number_of e ∷ []) (map number_of es)) r),
    )

pub named_live : (ns : List ℕ) (xs : List Placed) → AllOf (λ x. Named ns x.0 (row_of x).1.number) xs → AllOf (λ y. Named ns y.0 y.1.1.number) (live_of xs)
unfolding live_of if'◌then◌else◌
named_live ns [] a = tt
named_live ns (x ∷ xs) a =
    by (is_removing x.1.1.pending) (λ h. rw h (named_live ns xs a.1))
    (λ h. rw h ((a.0.0, a.0.1 ∙ sym (ap (λ (z : Tuple). z.number) (applied_is x.1.1))), named_live ns xs a.1))

-- ---- plans

pub numbered_removes : (ns : List ℕ) (vs : List (ℕ × Row)) → AllOf (λ y. Named ns y.0 y.1.1.number) vs
    → map (numbered ns) (remove_places vs) ≡ remove_all (map (λ y. y.1) vs)
unfolding remove_places remove_all numbered number
numbered_removes ns [] a = refl
numbered_removes ns (v ∷ vs) a = ap₂ (λ n os. to_remove n ∷ os) a.0.1 (numbered_removes ns vs a.1)

pub keep_map : (f : ℕ × Row → Bool) (g : Row → Bool) (vs : List (ℕ × Row)) → AllOf (λ y. f y ≡ g y.1) vs
    → map (λ y. y.1) (keep f vs) ≡ keep g (map (λ y. y.1) vs)
unfolding keep if'◌then◌else◌
keep_map f g [] a = refl
keep_map f g (v ∷ vs) a =
    by (g v.1) (λ h. rw (a.0, h, keep_map f g vs a.1)) (λ h. rw (a.0, h, keep_map f g vs a.1))

last_map : (tx : ℕ) (vs : List (ℕ × Row)) → last (is_own tx) (map (λ y. y.1) vs) ≡ Option·map (λ y. y.1) (last (own_placed tx) vs)
unfolding last own_placed if'◌then◌else◌
last_map tx [] = refl
last_map tx (v ∷ vs) =
    by-option (last (own_placed tx) vs)
    (λ n. let e = last_map tx vs ∙ ap (Option·map (λ y. y.1)) n in by (is_own tx v.1) (λ h. rw (e, n, h)) (λ h. rw (e, n, h)))
    (λ z n. let e = last_map tx vs ∙ ap (Option·map (λ y. y.1)) n in rw (e, n, last))

-- by number: of the rows of a key, the newest own one
unfoldable newest : Option Row → List Row → List Op
newest none vs = []
newest (some r) vs = plan_key r vs

numbered_newest : (ns : List ℕ) → Pairs (λ a b. a ≢ b) ns → (o : Option (ℕ × Row)) (vs : List (ℕ × Row)) → AllOf (λ y. Named ns y.0 y.1.1.number) vs
    → ((x : ℕ × Row) → o ≡ some x → Mem x vs) → map (numbered ns) (plan_newest o vs) ≡ newest (Option·map (λ y. y.1) o) (map (λ y. y.1) vs)
unfolding plan_newest newest plan_key if'◌then◌else◌ is_row number numbered
numbered_newest ns d none vs a f = refl
numbered_newest ns d (some x) vs a f =
    let w = mem_all (λ y. Named ns y.0 y.1.1.number) (f x refl) a in
    let t : AllOf (λ y. not (eqb y.0 x.0) ≡ not (is_row (number x.1) y.1)) vs = all_map _ _
    (λ y b. ap not (place_number ns d y.0 x.0 y.1.1.number x.1.1.number b w)) vs a in
    let others = keep (λ y. not (eqb y.0 x.0)) vs in
    let c : AllOf (λ y. Named ns y.0 y.1.1.number) others = all_map _ _ (λ y q. q.1) others (all_keep _ (λ y. not (eqb y.0 x.0)) vs a) in
    by x.1.1.mark (λ m. rw m (numbered_removes ns vs a))
    (λ m. rw m (ap₂ (λ n os. n ∷ os) (ap to_commit w.1)
    (numbered_removes ns (keep (λ y. not (eqb y.0 x.0)) vs) c ∙ ap remove_all (keep_map _ _ vs t))))

module _ (tx : ℕ) (ev : List Row) where
  -- the own rows at the key of x: those of its run
  own_any : (x : Row) (L Y : List Row) → AllOf (λ r. With x r ≡ true) L → AllOf (λ q. With x q ≡ false) Y
      → any (own_at tx x.0 x.1.key) (L ++ Y) ≡ any (is_own tx) L
  unfolding any own_at
  own_any x [] Y a b = any_off _ Y (all_map _ _ (λ q h. ap (λ z. is_own tx q && z) h ∙ and_no (is_own tx q)) Y b)
  own_any x (r ∷ L) Y a b =
      let e : (is_own tx r && With x r) ≡ is_own tx r = ap (λ z. is_own tx r && z) a.0 ∙ and_yes (is_own tx r) in
      by (is_own tx r) (λ h. rw (e, h, any)) (λ h. rw (e, h, any) (own_any x L Y a.1 b))

  -- L: the end of the rows of a run; Y: what stands behind it
  plan_run_lem : (vs L Y : List Row) → AllOf (λ x. vs ≡ keep (With x) ev) L → Pairs (λ x r. With x r ≡ true) L → AllOf (λ x. AllOf (λ q. With x q ≡ false) Y) L
      → plan_rows tx ev (L ++ Y) ≡ newest (last (is_own tx) L) vs ++ plan_rows tx ev Y
  unfolding newest
  plan_run_lem vs [] Y v s o = unfold last in refl
  plan_run_lem vs (x ∷ L) Y v s o =
      let ih = plan_run_lem vs L Y v.1 s.1 o.1 in
      let k = own_any x L Y s.0 o.0 in
      by-option (last (is_own tx) L)
      (λ n. let e = ap not (k ∙ any_off (is_own tx) L (last_off (is_own tx) L n)) in
      let r : plan_rows tx ev (L ++ Y) ≡ plan_rows tx ev Y = ih ∙ ap (λ z. newest z vs ++ plan_rows tx ev Y) n in
      by (is_own tx x)
      (λ h. plan_take tx ev x (L ++ Y) (rw (h, e)) ∙ ap₂ (λ a b. plan_key x a ++ b) (sym v.0) r
      ∙ ap (λ z. newest z vs ++ plan_rows tx ev Y) (sym (last_here (is_own tx) x L n h)))
      (λ h. plan_skip tx ev x (L ++ Y) (rw h) ∙ r ∙ ap (λ z. newest z vs ++ plan_rows tx ev Y) (sym (last_skip (is_own tx) x L h ∙ n))))
      (λ z n. let e = ap not (k ∙ last_any (is_own tx) L z n) in
      plan_skip tx ev x (L ++ Y) (ap (λ b. is_own tx x && b) e ∙ and_no (is_own tx x)) ∙ ih
      ∙ ap (λ w. newest w vs ++ plan_rows tx ev Y) (n ∙ sym (last_some (is_own tx) x L z n)))

-- a property of the tables and keys of tuples is one of their live rows
pub rows_all : (P : ℕ → ℕ → Type 0) (xs : List Placed) → AllOf (λ x. P (row_of x).0 (row_of x).1.key) xs → AllOf (λ r. P r.0 r.1.key) (rows_in xs)
unfolding live_of if'◌then◌else◌
rows_all P [] a = tt
rows_all P (x ∷ xs) a =
    by (is_removing x.1.1.pending) (λ h. rw h (rows_all P xs a.1))
    (λ h. rw h (subst (P x.1.0) (sym (ap (λ (z : Tuple). z.key) (applied_is x.1.1))) a.0, rows_all P xs a.1))

pairs_of : (R : Row → Row → Type 0) (L : List Row) → AllOf (λ r. AllOf (R r) L) L → Pairs R L
pairs_of R [] a = tt
pairs_of R (x ∷ L) a = (a.0.1, pairs_of R L (all_map _ _ (λ r h. h.1) L a.1))

-- rows that are all those at the key of each of them are of one key
pub kept_with : (ev vs : List Row) → AllOf (λ r. vs ≡ keep (With r) ev) vs → AllOf (λ r. AllOf (λ q. With r q ≡ true) vs) vs
kept_with ev vs v = all_map _ _ (λ r e. subst (AllOf (λ q. With r q ≡ true)) (sym e) (kept r)) vs v
  where
    kept : (r : Row) → AllOf (λ q. With r q ≡ true) (keep (With r) ev)
    kept r = all_map (λ q. (With r q ≡ true) × Mem q ev) (λ q. With r q ≡ true) (λ q h. h.0) (keep (With r) ev) (kept_mem (With r) ev)

pub numbered_runs : (tx : ℕ) (ev : List Row) (ns : List ℕ) → Pairs (λ a b. a ≢ b) ns → (rs : List (List Placed)) → Grouped ev rs
    → AllOf (λ x. Named ns x.0 (row_of x).1.number) (flat rs) → map (numbered ns) (plan_runs tx rs) ≡ plan_rows tx ev (rows_in (flat rs))
unfolding each_run plan_run flat
numbered_runs tx ev ns d [] g a = unfold live_of plan_rows in refl
numbered_runs tx ev ns d (run ∷ rs) g a =
    let vs = rows_in run in
    let o = last (own_placed tx) (live_of run) in
    let q = all_parts (λ x. Named ns x.0 (row_of x).1.number) run (flat rs) a in
    let v = rows_all (λ t k. vs ≡ keep (is_at t k) ev) run g.0 in
    map_append (numbered ns) (plan_run tx run) (plan_runs tx rs)
    ∙ ap₂ (λ x y. x ++ y)
    (numbered_newest ns d o (live_of run) (named_live ns run q.0) (λ x e. (last_mem (own_placed tx) (live_of run) x e).0) ∙ ap (λ z. newest z vs) (sym (last_map tx (live_of run))))
    (numbered_runs tx ev ns d rs g.2 q.1)
    ∙ sym (plan_run_lem tx ev vs vs (rows_in (flat rs)) v (pairs_of (λ r q. With r q ≡ true) vs (kept_with ev vs v))
    (rows_all (λ t k. AllOf (λ q. is_at t k q ≡ false) (rows_in (flat rs))) run g.1))
    ∙ ap (plan_rows tx ev) (sym (rows_append run (flat rs)))
