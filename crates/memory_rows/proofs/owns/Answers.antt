-- `memory_rows::owns` meets its contract: whether the pending operation leaves the owner, and the owner is the transaction (`live_is`).
use Rattle.memory_rows.proofs.Fields.{live_is}
use Rattle.memory_rows.specs.Cells.{keeps_owner}
use Rattle.memory_layout.specs.Flat.{flat_of, row_in}
use Rattle.image_rows.specs.Rows.{is_by}
use Rattle.basics.proofs.Kit.{sym, ap, ◌∙◌, Bool, ◌&&◌}
use Rattle.memory_rows.proofs.owns.Goals as goal

pub returns-then-keeps_owner : goal.returns-then-keeps_owner
returns-then-keeps_owner c = let r = row_in (flat_of c.args.m.now) c.args.i in
    let k = ap keeps_owner (sym c.pending_at.ensures) ∙ sym c.keeps_owner.ensures ∙ c.if-keeps_owner.true in
    let e = c.is_by.ensures ∙ ap (is_by c.args.transaction) c.owner_at.ensures in
    e ∙ sym (live_is c.args.transaction r ∙ ap (λ (b : Bool). b && is_by c.args.transaction r.tuple.owner) k)

pub returns-else-keeps_owner : goal.returns-else-keeps_owner
returns-else-keeps_owner c = let r = row_in (flat_of c.args.m.now) c.args.i in
    let k = ap keeps_owner (sym c.pending_at.ensures) ∙ sym c.keeps_owner.ensures ∙ c.if-keeps_owner.false in
    c.if-keeps_owner.false ∙ sym (live_is c.args.transaction r ∙ ap (λ (b : Bool). b && is_by c.args.transaction r.tuple.owner) k)
