-- The block that a store takes: in range, free, and there while enough are free.
use Rattle.basics.proofs.Kit.{◌≡◌, refl, ap, Bool, true, false, not, ◌++◌, ℕ, suc, ◌+◌, ◌≤◌, ◌<◌, zero, ◌-◌, eqb, arith}
use Rattle.basics.specs.Basics.{from, first, how_many, if'◌then◌else◌}
use Rattle.basics.proofs.Facts.{by, by-option}
use Rattle.model.specs.State.{Store}
use Rattle.model.specs.Checkpoint.{allocate, free_count, is_free, used_and}
use Rattle.basics.proofs.Elements.{all_map, first_none, many_append, first_all, all_append, not-true, first_passes, eqb_self, or_right, eqb-true}
use Rattle.basics.proofs.Firsts.{from_append, all_from}

-- a free block in range
pub record Fresh (n : ℕ) (used : ℕ → Bool) (b : ℕ) : Type 0 where
  pub pos : 0 < b
  pub low : b < n
  pub free : used b ≡ false

pub allocate_fresh : (s : Store) → s.taken < s.blocks → 0 < free_count s → Fresh s.blocks s.used (allocate s)
unfolding allocate free_count is_free
allocate_fresh s t h =
    let f = is_free s in
    let xs = from (suc s.taken) (s.blocks - suc s.taken) in
    let ys = from 1 s.taken in
    by-option (first f (xs ++ ys))
    (λ e.
    let z = first_none f (xs ++ ys) e in
    let u = many_append f xs ys in
    let v = many_append f ys xs in
    let w : s.blocks - 1 ≡ s.taken + (s.blocks - suc s.taken) = omega arith in
    let y : 1 + s.taken ≡ suc s.taken = omega arith in
    let k : from 1 (s.blocks - 1) ≡ ys ++ xs = rw (w, from_append 1 s.taken, y) in
    let g : how_many f (from 1 (s.blocks - 1)) ≡ how_many f (ys ++ xs) = ap (how_many f) k in
    absurd (omega arith))
    (λ b e.
    let a = first_all f (λ b. (0 < b) × (b < s.blocks)) (xs ++ ys) b e
    (all_append _ xs ys (all_map _ _ (λ c q. (omega arith, omega arith)) xs (all_from _ _)) (all_map _ _ (λ c q. (omega arith, omega arith)) ys (all_from _ _))) in
    rw (e, allocate) (record { pos = a.0; low = a.1; free = not-true _ (first_passes f (xs ++ ys) b e) }))

-- ---- one block more in use is one block less free

pub used_new : (s : Store) (b : ℕ) → used_and b s.used b ≡ true
used_new s b = rw (eqb_self b)

pub used_old : (s : Store) (b c : ℕ) → s.used c ≡ true → used_and b s.used c ≡ true
used_old s b c h = or_right (eqb b c) (s.used c) h

used_other : (s : Store) (b c : ℕ) → eqb b c ≡ false → used_and b s.used c ≡ s.used c
used_other s b c h = rw h

module _ (s : Store) (b : ℕ) where
  abbrev free : ℕ → Bool
  free c = not (s.used c)

  abbrev free_later : ℕ → Bool
  free_later c = not (used_and b s.used c)

  count_above : (a k : ℕ) → b < a → how_many free_later (from a k) ≡ how_many free (from a k)
  unfolding how_many from
  count_above a zero h = refl
  count_above a (suc k) h =
      by (eqb b a) (λ e. let q = eqb-true b a e in absurd (omega arith))
      (λ e. rw (used_other s b a e, count_above (suc a) k (omega arith)))

  pub count_one : (a k : ℕ) → how_many free (from a k) ≤ suc (how_many free_later (from a k))
  unfolding how_many from if'◌then◌else◌
  count_one a zero = omega arith
  count_one a (suc k) =
      by (eqb b a)
      (λ e. let q = eqb-true b a e in
      let c = count_above (suc a) k (omega arith) in
      by (s.used a) (λ i. by (used_and b s.used a) (λ j. rw (j, i) (omega arith)) (λ j. rw (j, i) (omega arith)))
      (λ i. by (used_and b s.used a) (λ j. rw (j, i) (omega arith)) (λ j. rw (j, i) (omega arith))))
      (λ e. let c = count_one (suc a) k in
      by (s.used a) (λ i. rw (used_other s b a e, i) c) (λ i. rw (used_other s b a e, i) (omega arith)))
