-- `memory_rows::places::state_at` meets its contract, by that of `state_place`.
use Rattle.basics.proofs.Kit.{ap, ℕ, get_or}
use Rattle.memory_rows.proofs.places.state_at.Goals as goal

pub returns : goal.returns
returns c = ap (λ (z : ℕ). get_or c.args.m.now z 0) c.state_place.ensures.0
