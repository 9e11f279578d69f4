-- `engine_pages::apply_kept` meets its contract: a pending commit by `kept_both`, any other row by `kept_one`.
use Rattle.basics.proofs.Kit.{sym, ◌∙◌, subst, List, ℕ, ◌<◌, length}
use Rattle.memory_layout.specs.Flat.{flat_of, Room}
use Rattle.engine_pages.proofs.Applying.{kept_both, kept_one, still_row}
use Rattle.engine_pages.proofs.apply_kept.Goals.{then-is_committing, else-is_committing}
use Rattle.engine_pages.proofs.apply_kept.Goals as goal

pub is_committing-requires : goal.is_committing-requires
is_committing-requires c = c.requires

pub commit_row-requires : goal.commit_row-requires
commit_row-requires c = c.requires

pub set_pending-requires : goal.set_pending-requires
set_pending-requires c = let here = λ (z : List ℕ). Room z × (c.args.i < length (flat_of z).rows) in
    elim c.if-is_committing.branch [
      | then-is_committing w ↦ let u = w.commit_row.ensures in subst here (sym w.m-is) (u.room, still_row c.args.m.now c.args.i c.requires.1 u)
      | else-is_committing w ↦ subst here (sym w.m-is) c.requires
    ]

pub returns : goal.returns
returns c =
    elim c.if-is_committing.branch [
      | then-is_committing w ↦
          kept_both c.args.m.now c.args.i c.requires.1 (sym c.is_committing.ensures ∙ w.if-is_committing.true) w.commit_row.ensures (rw w.m-is at c.set_pending.ensures)
      | else-is_committing w ↦ kept_one c.args.m.now c.args.i (sym c.is_committing.ensures ∙ w.if-is_committing.false) (rw w.m-is at c.set_pending.ensures)
    ]
