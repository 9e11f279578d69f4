-- The walk from both ends stops at the tuple that ends the first part of a split (`ends_first_part`).
use Rattle.basics.proofs.Kit.{◌≡◌, refl, sym, ap, ◌∙◌, List, [], ◌∷◌, map, ℕ, zero, suc, ◌+◌, ◌*◌, ◌≤◌, ◌<◌, ltb, length, length-map, get_or, take, take-length}
use Rattle.basics.proofs.Kit.{le-leb, lt-leb, lt-ltb, le-ltb, ltb-true, ltb-false, arith}
use Rattle.basics.specs.Basics.{if'◌then◌else◌, sum}
use Rattle.basics.proofs.Facts.{by}
use Rattle.basics.proofs.Lists.{sum_take_next, sum_take_more}
use Rattle.model.specs.State.{Held}
use Rattle.model.specs.Rules.{lead, half, held_size}
use Rattle.model.specs.Dividing.{meet, dividing, EndsFirstPart, DividingCases}

-- ---- a step of the walk

module _ (ws : List ℕ) (n i l r : ℕ) where
  pub meet_left : l + get_or ws i 0 < r + get_or ws (suc (i + n)) 0 → meet ws (suc n) i l r ≡ meet ws n (suc i) (l + get_or ws i 0) r
  unfolding meet
  meet_left h = rw (lt-ltb _ _ h, meet) refl

  pub meet_right : r + get_or ws (suc (i + n)) 0 ≤ l + get_or ws i 0 → meet ws (suc n) i l r ≡ meet ws n i l (r + get_or ws (suc (i + n)) 0)
  unfolding meet
  meet_right h = rw (le-ltb _ _ h, meet) refl

-- ---- where it ends

-- the size of the first k tuples
abbrev size_to : List Held → ℕ → ℕ
size_to hs k = sum held_size (take k hs)

-- the first part ends with the tuple by which half is reached
lead_at : (w a : ℕ) (hs : List Held) (k : ℕ) → k < length hs → (0 < k → 2 * (a + size_to hs k) < w) → w ≤ 2 * (a + size_to hs (suc k)) → lead w a hs ≡ suc k
unfolding lead sum if'◌then◌else◌
lead_at w a [] k l below reached = absurd (omega arith)
lead_at w a (h ∷ hs) zero l below reached = rw (le-leb w (2 * (a + held_size h)) (omega arith))
lead_at w a (h ∷ hs) (suc k) l below reached =
    let b = below (omega arith) in
    rw (lt-leb w (2 * (a + held_size h)) (omega arith)) (ap suc (lead_at w (a + held_size h) hs k (omega arith) (λ z. omega arith) (omega arith)))

-- Where the ends are: n + 1 tuples from place i up to k are between them. What the left side took is below half, and half is reached before what the
-- right side took.
record Ends (hs : List Held) (n i k l r : ℕ) : Type 0 where
  between : k ≡ suc (i + n)
  inside : k ≤ length hs
  left : l ≡ size_to hs i
  right : r + size_to hs k ≡ sum held_size hs
  below : 0 < i → 2 * size_to hs i < sum held_size hs
  reached : sum held_size hs ≤ 2 * size_to hs k

meet_half : (hs : List Held) (n i k l r : ℕ) → Ends hs n i k l r → half hs ≡ suc (meet (map held_size hs) n i l r)
unfolding half meet
meet_half hs zero i k l r e =
    let ek : k ≡ suc i = omega (arith, e.between) in
    let q = ap (size_to hs) ek in
    lead_at (sum held_size hs) 0 hs i (omega (arith, e.inside, e.between)) (λ p. omega (arith, e.below p)) (omega (arith, e.reached, q))
meet_half hs (suc n) i k l r e =
    let j : ℕ = suc (i + n) in
    let a : ℕ = l + get_or (map held_size hs) i 0 in
    let b : ℕ = r + get_or (map held_size hs) j 0 in
    let x = sum_take_next held_size hs i in
    let y = sum_take_next held_size hs j in
    let z = sum_take_more held_size hs (suc i) j (omega arith) in
    let ek : k ≡ suc j = omega (arith, e.between) in
    let q = ap (size_to hs) ek in
    let e0 = e.left in let e1 = e.right in
    by (ltb a b)
    (λ h. let t = ltb-true a b h in
    meet_half hs n (suc i) k a r record { between = omega (arith, e.between); inside = e.inside; left = omega arith; right = e1; below = λ p. omega arith; reached = e.reached }
    ∙ ap suc (sym (meet_left (map held_size hs) n i l r t)))
    (λ h. let t = ltb-false a b h in
    meet_half hs n i j l b record { between = omega arith; inside = omega (arith, e.inside, e.between); left = e0; right = omega arith; below = e.below; reached = omega arith }
    ∙ ap suc (sym (meet_right (map held_size hs) n i l r t)))

-- at the start nothing is taken
pub ends_first_part : EndsFirstPart
unfolding dividing sum
ends_first_part hs p =
    let q : size_to hs (length hs) ≡ sum held_size hs = ap (sum held_size) (take-length hs) in
    meet_half hs _ 0 (length hs) 0 0 record {
      between = omega (arith, length-map hs held_size);
      inside = omega arith;
      left = refl;
      right = omega arith;
      below = λ z. absurd (omega arith);
      reached = omega arith;
    }

pub dividing_cases_hold : DividingCases
unfolding meet dividing
dividing_cases_hold = record { one = refl; equal = refl; three = refl; first = refl; last = refl; five_and_five = refl; nineteen = refl; fifty_seven = refl }
