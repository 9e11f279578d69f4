-- `memory_bytes::copy_out` meets its contract. The invariant: the first j bytes of out are those of m from a on, and all others are as at entry.
use Rattle.memory_bytes.proofs.Moves.{write_start, write_front, write_end}
use Rattle.memory_bytes.proofs.Bytes.{length_bytes, get_d_bytes, front_wrote}
use Rattle.memory_bytes.specs.Bytes.{bytes}
use Rattle.basics.proofs.Kit.{◌≡◌, sym, ap, ◌∙◌, ◌++◌, ℕ, length, drop, arith}
use Rattle.memory_bytes.proofs.copy_out.Goals as goal

pub loop-j-init : goal.loop-j-init
loop-j-init c = write_start c.args.out.now 0 (bytes c.args.m.now c.args.a c.args.n)

pub bounds-out-j : goal.bounds-out-j
bounds-out-j c = omega (arith, c.loop-j.invariant.size)

pub loop-j-preserved : goal.loop-j-preserved
loop-j-preserved c = let a = c.args in write_front c.loop-j.invariant (omega arith) (sym (get_d_bytes a.m.now a.a a.n c.loop-j.j (omega arith)))

pub returns : goal.returns
returns c = let a = c.args in
    let e : length (bytes a.m.now a.a a.n) ≡ a.n = length_bytes a.m.now a.a a.n in
    front_wrote (write_end c.loop-j.invariant (omega arith)) (omega arith) ∙ ap (λ (k : ℕ). bytes a.m.now a.a a.n ++ drop k a.out.now) e
