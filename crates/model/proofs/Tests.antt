-- Recovery's tests on the rows say what the invariant says.
use Rattle.basics.proofs.Kit.{◌≡◌, refl, sym, ap, ◌∙◌, ap₂, true, false, not, List, [], ◌∷◌, map, ℕ, suc, eqb, ltb, arith}
use Rattle.basics.specs.Basics.{if'◌then◌else◌, paired, keep, is_in, any, distinct}
use Rattle.basics.proofs.Facts.{by, and_true, lie, AllOf}
use Rattle.block_forms.specs.Tuple.{Owner, committed, tentative}
use Rattle.image_rows.specs.Rows.{Row, is_lower, follows, number, owner_after, starts_well, is_at}
use Rattle.basics.proofs.Elements.{leb-true, eqb-true, not-true, all_map, Pairs, keep_cons, keep_past, leb-false, eqb_self, and_both, le_true, keep_none}
use Rattle.basics.proofs.Lists.{paired_tail, paired_next}
use Rattle.model.proofs.Rows.{Differ}
use Rattle.model.proofs.Placing.{Before}
use Rattle.model.proofs.RowAfter.{With, at_split, at_join, at_as}
use Rattle.model.proofs.Valid.{Chain}

-- ---- the order: neighbours, and all pairs

pub lower_before : (r s : Row) → is_lower r s ≡ true → Before r s
unfolding is_lower
lower_before r s h =
    by (ltb r.0 s.0)
    (λ k. let l = leb-true (suc r.0) s.0 k in (omega arith, λ u. absurd (omega arith)))
    (λ k. let q = and_true (eqb r.0 s.0) (ltb r.1.key s.1.key) (rw k at h) in
    let e = eqb-true r.0 s.0 q.0 in
    let l = leb-true (suc r.1.key) s.1.key q.1 in
    (omega arith, λ u. (omega arith, λ w. absurd (omega arith))))

abbrev First : Row → Row → Type 0
First r s = With s r ≡ false → s.1.mark ≡ false

follows_split : (r s : Row) → follows r s ≡ true → Before r s × Chain r s × First r s
unfolding follows if'◌then◌else◌
follows_split r s h =
    by (With s r)
    (λ w. let q = and_true (ltb r.1.number s.1.number) (owner_after r.1.owner s.1.owner) (rw w at h) in
    let e = at_split s.0 s.1.key r w in
    let l = leb-true (suc r.1.number) s.1.number q.0 in
    ((omega (arith, e.0), λ u. (omega (arith, e.1), λ v. l)), λ u. q.1, λ u. lie (sym u ∙ w)))
    (λ w. let q = and_true (is_lower r s) (not s.1.mark) (rw w at h) in
    (lower_before r s q.0, λ u. lie (sym w ∙ u), λ u. not-true s.1.mark q.1))

pub before_trans : (a b c : Row) → Before a b → Before b c → Before a c
before_trans a b c h k = (
  omega (arith, h.0, k.0),
  λ u. let h' = h.1 (omega (arith, k.0)) in let k' = k.1
      (omega (arith, h.0)) in (omega (arith, h'.0, k'.0), λ v. omega (arith, h'.1 (omega (arith, k'.0)), k'.1 (omega (arith, h'.0)))),
)

owner_trans : (o p q : Owner) → owner_after o p ≡ true → owner_after p q ≡ true → owner_after o q ≡ true
unfolding owner_after
owner_trans committed committed q h k = lie h
owner_trans committed (tentative u s) committed h k = lie k
owner_trans committed (tentative u s) (tentative v w) h k = refl
owner_trans (tentative u s) committed q h k = lie h
owner_trans (tentative u s) (tentative v w) committed h k = lie k
owner_trans (tentative u s) (tentative v w) (tentative x y) h k = ap (λ z. eqb z x) (eqb-true u v h) ∙ k

-- a row between two of one key is of that key
between : (a b c : Row) → Before a b → Before b c → With c a ≡ true → (With b a ≡ true) × (With c b ≡ true)
between a b c h k w =
    let e = at_split c.0 c.1.key a w in
    let h' = h.1 (omega (arith, k.0, e.0)) in
    let k' = k.1 (omega (arith, h.0, e.0)) in (
      at_join b.0 b.1.key a (omega (arith, h.0, k.0, e.0)) (omega (arith, h'.0, k'.0, e.1)),
      at_join c.0 c.1.key b
          (omega (arith, h.0, k.0, e.0)) (omega (arith, h'.0, k'.0, e.1)),
    )

chain_trans : (a b c : Row) → Before a b → Before b c → Chain a b → Chain b c → Chain a c
chain_trans a b c h k f g w = let m = between a b c h k w in owner_trans a.1.owner b.1.owner c.1.owner (f m.0) (g m.1)

abbrev Ordered : Row → Row → Type 0
Ordered a b = Before a b × Chain a b

paired_all : (r : Row) (rs : List Row) → paired follows (r ∷ rs) ≡ true → AllOf (Ordered r) rs
paired_all r [] h = tt
paired_all r (s ∷ rs) h =
    let q = paired_tail follows r s rs h in
    let f = follows_split r s q.0 in
    ((f.0, f.1), all_map (Ordered s) (Ordered r) (λ c k. (before_trans r s c f.0 k.0, chain_trans r s c f.0 k.0 f.1 k.1)) rs (paired_all s rs q.1))

pub paired_pairs : (rs : List Row) → paired follows rs ≡ true → Pairs Before rs × Pairs Chain rs
paired_pairs [] h = (tt, tt)
paired_pairs (r ∷ rs) h =
    let a = paired_all r rs h in
    let q = paired_pairs rs (paired_next follows r rs h) in
    ((all_map (Ordered r) (Before r) (λ s k. k.0) rs a, q.0), (all_map (Ordered r) (Chain r) (λ s k. k.1) rs a, q.1))

starts_head : (r : Row) (rs : List Row) → r.1.mark ≡ false → starts_well (r ∷ rs) ≡ true
unfolding starts_well
starts_head r rs h = ap not h

head_starts : (r : Row) (rs : List Row) → starts_well (r ∷ rs) ≡ true → r.1.mark ≡ false
unfolding starts_well
head_starts r rs h = not-true r.1.mark h

-- the first of a key, behind a row that is not of it
heads_behind : (t k : ℕ) (r : Row) (rs : List Row) → paired follows (r ∷ rs) ≡ true → is_at t k r ≡ false → starts_well (keep (is_at t k) rs) ≡ true
heads_behind t k r [] h n = unfold keep starts_well in refl
heads_behind t k r (s ∷ rs) h n =
    let q = paired_tail follows r s rs h in
    by (is_at t k s)
    (λ e. let c = at_split t k s e in
    let w : With s r ≡ false = ap₂ (λ a b. is_at a b r) c.0 c.1 ∙ n in
    ap starts_well (keep_cons (is_at t k) s rs e) ∙ starts_head s (keep (is_at t k) rs) ((follows_split r s q.0).2 w))
    (λ e. ap starts_well (keep_past (is_at t k) s rs e) ∙ heads_behind t k s rs q.1 e)

pub all_heads : (rs : List Row) → paired follows rs ≡ true → starts_well rs ≡ true → (t k : ℕ) → starts_well (keep (is_at t k) rs) ≡ true
all_heads [] h s t k = unfold keep starts_well in refl
all_heads (r ∷ rs) h s t k =
    by (is_at t k r)
    (λ e. ap starts_well (keep_cons (is_at t k) r rs e) ∙ starts_head r (keep (is_at t k) rs) (head_starts r rs s))
    (λ e. ap starts_well (keep_past (is_at t k) r rs e) ∙ heads_behind t k r rs h e)

-- ---- and back

before_lower : (r s : Row) → Before r s → With s r ≡ false → is_lower r s ≡ true
unfolding is_lower
before_lower r s h w =
    by (ltb r.0 s.0) (λ k. rw k)
    (λ k. let e : r.0 ≡ s.0 = omega (arith, h.0, leb-false (suc r.0) s.0 k) in
    let h' = h.1 (omega arith) in
    by (ltb r.1.key s.1.key) (λ l. rw (k, l, e, eqb_self s.0))
    (λ l. let f : r.1.key ≡ s.1.key = omega (arith, h'.0, leb-false (suc r.1.key) s.1.key l) in lie (sym w ∙ at_join s.0 s.1.key r e f)))

pub follows_join : (r s : Row) → Before r s → Chain r s → First r s → follows r s ≡ true
unfolding follows if'◌then◌else◌
follows_join r s b c f =
    by (With s r)
    (λ w. let e = at_split s.0 s.1.key r w in
    let l = (b.1 (omega (arith, e.0))).1 (omega (arith, e.1)) in
    rw w (and_both (le_true (suc r.1.number) s.1.number l) (c w)))
    (λ w. rw w (and_both (before_lower r s b w) (ap not (f w))))

-- beyond the key of r, every first version is unmarked
abbrev Beyond : Row → List Row → Type 0
Beyond r rs = (t k : ℕ) → is_at t k r ≡ false → starts_well (keep (is_at t k) rs) ≡ true

passed : (t k : ℕ) (r s q : Row) → is_at t k s ≡ false → is_at t k r ≡ true → Before r s → Before s q → is_at t k q ≡ false
passed t k r s q n e h l =
    by (is_at t k q)
    (λ d. let u = at_split t k r e in
    let m = between r s q h l (at_as t k q r d ∙ e) in
    let w = at_split s.0 s.1.key r m.0 in
    lie (sym n ∙ at_join t k s (sym w.0 ∙ u.0) (sym w.1 ∙ u.1)))
    (λ d. d)

pairs_paired : (r : Row) (rs : List Row) → Pairs Before (r ∷ rs) → Pairs Chain (r ∷ rs) → Beyond r rs → paired follows (r ∷ rs) ≡ true
unfolding paired
pairs_paired r [] b c f = refl
pairs_paired r (s ∷ rs) b c f =
    and_both (follows_join r s b.0.0 c.0.0
    (λ w. head_starts s (keep (With s) rs) (sym (ap starts_well (keep_cons (With s) s rs (at_join s.0 s.1.key s refl refl))) ∙ f s.0 s.1.key w)))
    (pairs_paired s rs b.1 c.1 (λ t k n. beyond t k n))
  where
    -- a key that is not the one of s: if it is the one of r, then no row behind s has it
    beyond : (t k : ℕ) → is_at t k s ≡ false → starts_well (keep (is_at t k) rs) ≡ true
    beyond t k n =
        by (is_at t k r)
        (λ e. ap starts_well (keep_none (is_at t k) rs
        (all_map (Before s) (λ q. is_at t k q ≡ false) (λ q l. passed t k r s q n e b.0.0 l) rs b.1.0)) ∙ (unfold starts_well in refl))
        (λ e. sym (ap starts_well (keep_past (is_at t k) s rs n)) ∙ f t k e)

pub order_tests : (rs : List Row) → Pairs Before rs → Pairs Chain rs → ((t k : ℕ) → starts_well (keep (is_at t k) rs) ≡ true)
    → (paired follows rs ≡ true) × (starts_well rs ≡ true)
order_tests [] b c h = (unfold paired in refl, unfold starts_well in refl)
order_tests (r ∷ rs) b c h = (
  pairs_paired r rs b c (λ t k n. sym (ap starts_well (keep_past (is_at t k) r rs n)) ∙ h t k),
  starts_head r rs (head_starts r (keep (With r) rs) (sym (ap starts_well (keep_cons (With r) r rs (at_join r.0 r.1.key r refl refl))) ∙ h r.0 r.1.key)),
)

-- ---- numbers

differ_in : (r : Row) (rs : List Row) → AllOf (Differ r) rs → is_in (number r) (map number rs) ≡ false
unfolding is_in any number
differ_in r [] a = refl
differ_in r (s ∷ rs) a = by (eqb r.1.number s.1.number) (λ k. absurd (a.0 (eqb-true _ _ k))) (λ k. rw (k, any) (differ_in r rs a.1))

pub differ_distinct : (rs : List Row) → Pairs Differ rs → distinct (map number rs) ≡ true
unfolding distinct
differ_distinct [] p = refl
differ_distinct (r ∷ rs) p = rw (differ_in r rs p.0, differ_distinct rs p.1)

in_differ : (r : Row) (rs : List Row) → is_in (number r) (map number rs) ≡ false → AllOf (Differ r) rs
unfolding is_in any number
in_differ r [] h = tt
in_differ r (s ∷ rs) h =
    by (eqb r.1.number s.1.number) (λ k. lie (sym (rw (k, any) at h)))
    (λ k. (λ e. lie (sym k ∙ ap (λ z. eqb z s.1.number) e ∙ eqb_self s.1.number), in_differ r rs (rw (k, any) at h)))

pub distinct_differ : (rs : List Row) → distinct (map number rs) ≡ true → Pairs Differ rs
unfolding distinct
distinct_differ [] h = tt
distinct_differ (r ∷ rs) h =
    let q = and_true (not (is_in (number r) (map number rs))) (distinct (map number rs)) h in
    (in_differ r rs (not-true (is_in (number r) (map number rs)) q.0), distinct_differ rs q.1)
