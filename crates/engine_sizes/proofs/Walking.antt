-- The walk from both ends over tuples, turn by turn: where the ends are, and what each side has with the tuple that is next for it.
use Rattle.basics.proofs.Kit.{◌≡◌, sym, ap, ◌∙◌, subst, List, map, ℕ, suc, ◌+◌, ◌*◌, ◌-◌, ◌≤◌, ◌<◌, length, length-map, get_or, take, take-length, arith}
use Rattle.basics.specs.Basics.{sum}
use Rattle.basics.proofs.Lists.{sum_take_next, sum_parts}
use Rattle.block_forms.specs.Limits.{most_record}
use Rattle.image.specs.Stages.{capacity_limit}
use Rattle.model.specs.State.{Held}
use Rattle.model.specs.Rules.{held_size, half}
use Rattle.model.specs.Dividing.{meet, dividing}
use Rattle.model.proofs.Dividing.{meet_left, meet_right, ends_first_part}
use Rattle.memory_layout.specs.Flat.{flat_of, row_in, Room}
use Rattle.memory_layout.specs.Elements.{rows_from, RowRange}
use Rattle.memory_layout.proofs.Laws.{sizes}
use Rattle.engine_sizes.specs.Parts.{IsFirstPart}
use Rattle.engine_sizes.specs.declared.FirstPart.{FirstPart}
use Rattle.engine_sizes.proofs.Sizes.{range_length, rows_most, row_size}

-- ---- over tuples

-- The ends are at places a and b: the left side took l, all before a, and the right side r, all behind b; left and right have the next in them.
pub record Walked (hs : List Held) (a b left right : ℕ) : Type 0 where
  l : ℕ
  r : ℕ
  order : a ≤ b
  inside : b < length hs
  left_next : left ≡ l + get_or (map held_size hs) a 0
  right_next : right ≡ r + get_or (map held_size hs) b 0
  left_took : l ≡ sum held_size (take a hs)
  right_took : r + sum held_size (take (suc b) hs) ≡ sum held_size hs
  ahead : dividing (map held_size hs) ≡ meet (map held_size hs) (b - a) a l r

module _ (hs : List Held) where
  -- their sizes
  abbrev ws : List ℕ
  ws = map held_size hs

  starts : {a b left right : ℕ} → 0 < length hs → a ≡ 0 → b ≡ length hs - 1 → left ≡ get_or ws a 0 → right ≡ get_or ws b 0 → Walked hs a b left right
  unfolding dividing sum
  starts {a} {b} p ea eb x y =
      let en : length ws - 1 ≡ b - a = omega (arith, length-map hs held_size) in
      let el : suc b ≡ length hs = omega arith in
      record {
        l = 0;
        r = 0;
        order = omega arith;
        inside = omega arith;
        left_next = omega (arith, x);
        right_next = omega (arith, y);
        left_took = ap (λ (z : ℕ). sum held_size (take z hs)) (sym ea);
        right_took = omega (arith, ap (λ (z : ℕ). sum held_size (take z hs)) el, ap (sum held_size) (take-length hs));
        ahead = λ i. meet ws (en i) (sym ea i) 0 0;
      }

  module _ {a b left right : ℕ} (w : Walked hs a b left right) where
    -- what the left side has with its next is the size of the tuples so far
    so_far : left ≡ sum held_size (take (suc a) hs)
    so_far = omega (arith, w.left_next, w.left_took, sum_take_next held_size hs a)

    -- no side has more than all
    left_most : left ≤ sum held_size hs
    left_most = omega (arith, so_far, sum_parts held_size (suc a) hs)

    right_most : right ≤ sum held_size hs
    right_most = omega (arith, w.right_next, w.right_took, sum_take_next held_size hs b)

    -- the left side takes its next
    left_takes : a < b → left < right → {v : ℕ} → v ≡ get_or ws (suc a) 0 → Walked hs (suc a) b (left + v) right
    left_takes h c e =
        let n : ℕ = b - suc a in
        let en : b - a ≡ suc n = omega arith in
        let eb : suc (a + n) ≡ b = omega arith in
        let g = ap (λ (z : ℕ). get_or ws z 0) eb in
        record {
          l = left;
          r = w.r;
          order = h;
          inside = w.inside;
          left_next = omega arith;
          right_next = w.right_next;
          left_took = so_far;
          right_took = w.right_took;
          ahead = w.ahead ∙ ap (λ (z : ℕ). meet ws z a w.l w.r) en
              ∙ meet_left ws n a w.l w.r (omega (arith, g, w.left_next, w.right_next))
              ∙ ap (λ (z : ℕ). meet ws n (suc a) z w.r) (sym w.left_next);
        }

    -- the right side takes its next
    right_takes : a < b → right ≤ left → {c v : ℕ} → b ≡ suc c → v ≡ get_or ws c 0 → Walked hs a c left (right + v)
    right_takes h d {c} eb e =
        let n : ℕ = c - a in
        let en : b - a ≡ suc n = omega arith in
        let es : suc (a + n) ≡ b = omega arith in
        let g = ap (λ (z : ℕ). get_or ws z 0) es in
        record {
          l = w.l;
          r = right;
          order = omega arith;
          inside = omega (arith, w.inside);
          left_next = w.left_next;
          right_next = omega arith;
          left_took = w.left_took;
          right_took = omega (arith, w.right_next, w.right_took, sum_take_next held_size hs b, ap (λ (z : ℕ). sum held_size (take z hs)) eb);
          ahead = w.ahead ∙ ap (λ (z : ℕ). meet ws z a w.l w.r) en
              ∙ meet_right ws n a w.l w.r (omega (arith, g, w.left_next, w.right_next))
              ∙ ap (meet ws n a w.l) (omega (arith, g, w.right_next));
        }

    -- one tuple is left between the ends
    ends_met : b ≤ a → suc a ≡ half hs
    unfolding meet
    ends_met h =
        let en : b - a ≡ 0 = omega arith in
        sym (ends_first_part hs (omega (arith, w.inside)) ∙ ap suc (w.ahead ∙ ap (λ (z : ℕ). meet ws z a w.l w.r) en))

-- ---- over rows

-- the ends are at rows i and j, of those from s up to e
pub record Between (m : List ℕ) (s e i j left right : ℕ) : Type 0 where
  pub least : s ≤ i
  pub order : i ≤ j
  pub most : j < e
  pub walked : Walked (rows_from m s e) (i - s) (j - s) left right

module _ {m : List ℕ} {s e : ℕ} (g : RowRange m s e) where
  -- the size of row k is its size among theirs
  among : (k : ℕ) {v : ℕ} → s ≤ k → k < e → v ≡ held_size (row_in (flat_of m) k) → v ≡ get_or (map held_size (rows_from m s e)) (k - s) 0
  among k l h x = x ∙ sym (row_size g k l h)

  pub walk_start : s < e → {left right : ℕ} → left ≡ held_size (row_in (flat_of m) s) → right ≡ held_size (row_in (flat_of m) (e - 1)) → Between m s e s (e - 1) left right
  walk_start h x y = record {
    least = omega arith;
    order = omega arith;
    most = omega arith;
    walked = starts (rows_from m s e) (omega (arith, range_length g)) (omega arith) (omega (arith, range_length g)) (among s (omega arith) h x)
        (among (e - 1) (omega arith) (omega arith) y);
  }

  module _ {i j left right : ℕ} (b : Between m s e i j left right) where
    -- a row that an end may be at
    pub row_there : {k : ℕ} → i ≤ k → k ≤ j → Room m × (k < length (flat_of m).rows)
    row_there l h = (g.room, omega (arith, g.inside, b.most))

    -- no number is large
    pub few : i < capacity_limit
    few = omega (arith, b.order, b.most, g.inside, (sizes g.room).rows)

    pub light : (left ≤ most_record * capacity_limit) × (right ≤ most_record * capacity_limit)
    light = let n = (sizes g.room).rows in let k = rows_most g in
        (omega (arith, left_most (rows_from m s e) b.walked, g.inside), omega (arith, right_most (rows_from m s e) b.walked, g.inside))

    pub walk_left : i < j → left < right → {v : ℕ} → v ≡ held_size (row_in (flat_of m) (i + 1)) → Between m s e (i + 1) j (left + v) right
    walk_left h c {v} x =
        let l = b.least in let n = b.most in
        let q : suc (i - s) ≡ i + 1 - s = omega arith in
        let t = ap (λ (z : ℕ). get_or (map held_size (rows_from m s e)) z 0) q in
        record {
          least = omega arith;
          order = omega arith;
          most = n;
          walked = subst (λ (z : ℕ). Walked (rows_from m s e) z (j - s) (left + v) right) q
              (left_takes (rows_from m s e) b.walked (omega arith) c (among (i + 1) (omega arith) (omega arith) x ∙ sym t));
        }

    pub walk_right : i < j → right ≤ left → {v : ℕ} → v ≡ held_size (row_in (flat_of m) (j - 1)) → Between m s e i (j - 1) left (right + v)
    walk_right h c x =
        let l = b.least in let n = b.most in
        record {
          least = l;
          order = omega arith;
          most = omega arith;
          walked = right_takes (rows_from m s e) b.walked (omega arith) c (omega arith) (among (j - 1) (omega arith) (omega arith) x);
        }

    -- where they meet
    pub walk_end : j ≤ i → {r : FirstPart} → r.count ≡ i + 1 - s → r.size ≡ left → IsFirstPart r (rows_from m s e)
    walk_end h ec es =
        let q = ends_met (rows_from m s e) b.walked (omega arith) in
        record {
          count = omega (arith, q, b.least);
          size = es ∙ so_far (rows_from m s e) b.walked ∙ ap (λ (z : ℕ). sum held_size (take z (rows_from m s e))) q;
        }
