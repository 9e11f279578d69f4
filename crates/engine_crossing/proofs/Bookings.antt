-- One booking: when it cannot cross an interval, and its tests as the code makes them.
use Rattle.basics.proofs.Kit.{◌≡◌, refl, sym, ap, ◌∙◌, ap₂, Bool, true, false, ◌&&◌, List, [], ◌∷◌, ℕ, ◌+◌, ◌≤◌, ltb, le-ltb, arith}
use Rattle.basics.specs.Basics.{every, all}
use Rattle.basics.proofs.Ands.{and_no}
use Rattle.block_forms.specs.Tuple.{Tuple, AllBytes}
use Rattle.calendar.specs.Calendar.{minutes}
use Rattle.model.specs.Crossing.{crosses}
use Rattle.engine_crossing.specs.Crossing.{longest}

-- ---- the length

pub minutes_most : (bs : List ℕ) → AllBytes bs → minutes bs ≤ longest
unfolding minutes
minutes_most [] a = omega arith
minutes_most (b ∷ []) a = omega arith
minutes_most (b ∷ c ∷ bs) a = omega (arith, a.0, a.1.0)

-- ---- the tests

three : (a b c : Bool) → ((a && b) && c) ≡ every (a ∷ b ∷ c ∷ [])
unfolding every all
three true true true = refl
three true true false = refl
three true false c = refl
three false b c = refl

module _ (first end : ℕ) (x : Tuple) where
  -- what the code computes
  pub crosses_is : {n k : ℕ} → n ≡ minutes x.payload → k ≡ x.key → ((ltb 0 n && ltb k end) && ltb first (k + n)) ≡ crosses first end x
  unfolding crosses
  crosses_is e q = ap₂ (λ n k. (ltb 0 n && ltb k end) && ltb first (k + n)) e q ∙ three _ _ _

  -- the longest booking with this key ends before the interval
  pub ends_before : AllBytes x.payload → x.key + longest ≤ first → crosses first end x ≡ false
  unfolding crosses
  ends_before a h =
      let n = minutes x.payload in
      sym (three (ltb 0 n) (ltb x.key end) (ltb first (x.key + n)))
      ∙ ap (λ b. (ltb 0 n && ltb x.key end) && b) (le-ltb first (x.key + n) (omega (arith, minutes_most x.payload a)))
      ∙ and_no (ltb 0 n && ltb x.key end)

  -- the interval ends where the booking starts, or before
  pub starts_behind : end ≤ x.key → crosses first end x ≡ false
  unfolding crosses
  starts_behind h =
      let n = minutes x.payload in
      let c = ltb first (x.key + n) in
      sym (three (ltb 0 n) (ltb x.key end) c) ∙ ap (λ b. (ltb 0 n && b) && c) (le-ltb x.key end h) ∙ ap (λ b. b && c) (and_no (ltb 0 n))
