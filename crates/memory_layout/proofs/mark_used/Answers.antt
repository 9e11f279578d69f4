-- `memory_layout::mark_used` meets its contract: the bit of block b is set, and no other bit changes (`mark_becomes`).
use Rattle.basics.proofs.Kit.{◌≡◌, ap, ◌∙◌, ℕ, ◌+◌, ◌*◌, ◌%◌, ◌^◌, ◌/◌, get_or, mod-eq_of_lt, one-mul, pow-lt, bit_or, arith}
use Rattle.memory_layout.proofs.Marks.{mark_becomes}
use Rattle.memory_layout.specs.Places.{used_at}
use Rattle.memory_layout.proofs.mark_used.Goals as goal

pub returns : goal.returns
returns c = let m = c.args.m.now in
    let k : ℕ = c.args.b % 8 in
    let e : 1 * 2 ^ k % 256 ≡ 2 ^ k = ap (λ (z : ℕ). z % 256) (one-mul (2 ^ k)) ∙ mod-eq_of_lt (pow-lt {i = k} {j = 8} (omega arith)) in
    mark_becomes m c.args.b _ c.requires.0 c.requires.1 (ap (bit_or (get_or m (used_at + c.args.b / 8) 0)) e)
