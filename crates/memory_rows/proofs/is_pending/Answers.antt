-- `memory_rows::is_pending` meets its contract: one case for each operation.
use Rattle.memory_rows.specs.contracts.Pending.{the_type}
use Rattle.memory_rows.specs.declared.Pending.{Pending}
use Rattle.memory_rows.specs.declared.Pending.TheVariants.{Nothing, Adding, Committing, Removing}
use Rattle.memory_rows.specs.Rows.{pending_is}
use Rattle.model.specs.Rules.{is_pending}
use denote.Enum.Bare.{sameb}
use Rattle.basics.proofs.Kit.{◌≡◌, refl, ap, ◌∙◌, not}
use Rattle.memory_rows.proofs.is_pending.Goals as goal

told : (p : Pending) → not (sameb the_type p Nothing) ≡ is_pending (pending_is p)
unfolding is_pending
told Nothing = refl
told Adding = refl
told Committing = refl
told Removing = refl

pub returns : goal.returns
returns c = c.ne.ensures ∙ told c.pending_at.result ∙ ap is_pending c.pending_at.ensures
