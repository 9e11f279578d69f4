-- `call_recovery::load_row` meets its contract: the record's tuple goes behind all rows, nothing pending (`row_as`).
use Rattle.block_forms.specs.Bytes.{tuple_of}
use Rattle.model.specs.Rules.{without_pending}
use Rattle.memory_rows.specs.Rows.{held_by}
use Rattle.memory_rows.specs.declared.Row.{Row}
use Rattle.basics.proofs.Kit.{◌≡◌, ap, ◌∙◌, List, ℕ, ◌+◌, ◌-◌, take, drop, arith}
use Rattle.call_recovery.proofs.Adding.{row_as}
use Rattle.call_recovery.proofs.load_row.Goals as goal

pub returns : goal.returns
unfolding without_pending tuple_of
returns c = let r = c.args.r in
    let bs : List ℕ = drop r.start c.args.block.now in
    let n : ℕ = r.start + r.len - r.start in
    let k : n ≡ r.len = omega arith in
    row_as (ap (λ (s : Row). held_by s (take n bs)) c.row_of.ensures ∙ ap (λ (j : ℕ). without_pending (tuple_of r (take j bs))) k) c.append_row.ensures
