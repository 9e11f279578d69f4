-- `memory_layout::capacity` meets its contract: the number is read from the head, and a memory with room has its bounds (`sized`).
use Rattle.basics.proofs.Kit.{sym, subst, ℕ}
use Rattle.memory_layout.specs.Flat.{Capacity}
use Rattle.memory_layout.proofs.Laws.{sized}
use Rattle.memory_layout.proofs.capacity.Goals as goal

pub returns : goal.returns
returns c = let m = c.args.m.now in subst (λ (z : ℕ). Capacity m z) (sym c.get4.ensures) (sized m c.requires)
