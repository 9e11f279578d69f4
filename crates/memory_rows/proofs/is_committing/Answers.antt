-- `memory_rows::is_committing` meets its contract: one case for each operation.
use Rattle.memory_rows.specs.contracts.Pending.{the_type}
use Rattle.memory_rows.specs.declared.Pending.{Pending}
use Rattle.memory_rows.specs.declared.Pending.TheVariants.{Nothing, Adding, Committing, Removing}
use Rattle.memory_rows.specs.Rows.{pending_is}
use Rattle.model.specs.Rules.{is_committing}
use denote.Enum.Bare.{sameb}
use Rattle.basics.proofs.Kit.{◌≡◌, refl, ap, ◌∙◌}
use Rattle.memory_rows.proofs.is_committing.Goals as goal

told : (p : Pending) → sameb the_type p Committing ≡ is_committing (pending_is p)
unfolding is_committing
told Nothing = refl
told Adding = refl
told Committing = refl
told Removing = refl

pub returns : goal.returns
returns c = c.eq.ensures ∙ told c.pending_at.result ∙ ap is_committing c.pending_at.ensures
