use Rattle.basics.proofs.Kit.{◌≡◌, ℕ, ◌+◌, ◌<◌, get_or}
use Rattle.image_rows.proofs.to_keys.Given as goal

abbrev pub invariant-loop-i : goal.invariant-loop-i
invariant-loop-i l = (k : ℕ) → k < l.i → get_or l.keys k 0 ≡ get_or l.s k 0 + 1
