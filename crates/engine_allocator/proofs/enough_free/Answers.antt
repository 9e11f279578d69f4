-- `engine_allocator::enough_free` meets its contract. The invariant: k of the blocks passed are free; a search that ends early has found enough (`tally_end`).
use Rattle.basics.proofs.Kit.{◌≡◌, refl, sym, ap, ◌∙◌, Bool, true, false, not, ℕ, ◌-◌, ◌≤◌, leb, le-leb, arith}
use Rattle.std.specs.Int.{from_bool}
use Rattle.memory_layout.specs.declared.Head.{Head}
use Rattle.memory_layout.specs.Flat.{Flat, flat_of}
use Rattle.memory_layout.specs.Store.{store_of}
use Rattle.basics.specs.Basics.{how_many, from, one_if}
use Rattle.basics.proofs.Froms.{tally_iteration, tally_end}
use Rattle.model.specs.Checkpoint.{free_count}
use Rattle.engine_allocator.proofs.Tallies.{free_is}
use Rattle.engine_allocator.proofs.enough_free.Goals as goal

-- as many as the head says
total : (f : Flat) (n : ℕ) → n ≡ f.head.blocks → how_many (λ b. not (f.used b)) (from 1 (n - 1)) ≡ how_many (λ b. not (f.used b)) (from 1 (f.head.blocks - 1))
total f n e = ap (λ (z : ℕ). how_many (λ b. not (f.used b)) (from 1 (z - 1))) e

byte_is : (b : Bool) → from_bool b ≡ one_if b
byte_is true = refl
byte_is false = refl

byte_most : {r : ℕ} (b : Bool) → r ≡ from_bool b → r ≤ 1
byte_most true e = omega arith
byte_most false e = omega arith

pub get_head-n-requires : goal.get_head-n-requires
get_head-n-requires c = omega (arith, c.requires.range.long)

pub loop-b-init : goal.loop-b-init
loop-b-init c = record { whole = ap (λ (h : Head). h.blocks) c.get_head-n.ensures; few = omega arith; rest = omega arith }

pub returns-then-need-k : goal.returns-then-need-k
returns-then-need-k c = let k = c.loop-b.invariant in
    let f : Flat = flat_of c.args.m.now in
    sym (le-leb c.args.need (free_count (store_of f)) (omega (arith, c.if-need-k.true, k.rest, total f _ k.whole, free_is f)))

pub is_used-requires : goal.is_used-requires
is_used-requires c = let r = c.requires.range in
    (omega (arith, r.many, c.loop-b.invariant.whole), omega (arith, r.long))

pub overflow_add-k : goal.overflow_add-k
overflow_add-k c = omega (arith, c.requires.range.many, c.loop-b.invariant.few, c.loop-b.invariant.whole, byte_most _ c.from-k.ensures)

pub loop-b-preserved : goal.loop-b-preserved
loop-b-preserved c = let k = c.loop-b.invariant in
    let f : Flat = flat_of c.args.m.now in
    let e = c.from-k.ensures ∙ byte_is _ ∙ ap (λ (x : Bool). one_if (not x)) c.is_used.ensures in
    record {
      whole = k.whole;
      few = omega (arith, k.few, byte_most _ c.from-k.ensures);
      rest = omega (arith, k.rest, e, tally_iteration (λ b. not (f.used b)) c.loop-b.b _ c.loop-b-test.true);
    }

pub returns : goal.returns
returns c = let k = c.loop-b.invariant in
    let f : Flat = flat_of c.args.m.now in
    let e : c.loop-b.k ≡ free_count (store_of f) = omega (arith, k.rest, total f _ k.whole, free_is f, tally_end (λ b. not (f.used b)) c.loop-b.b _ c.loop-b-test.false) in
    ap (leb c.args.need) e
