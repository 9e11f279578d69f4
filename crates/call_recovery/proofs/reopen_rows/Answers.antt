-- `call_recovery::reopen_rows` meets its contract. The invariant: the transactions whose last row is among the first i rows are open, in that order (`Reopened`).
use Rattle.call_recovery.proofs.Owning.{counts_sized, own_length, owner_fits, counts_iteration, counts_small}
use Rattle.call_recovery.proofs.Owning.{same_rows, same_owner, reopened_iteration, reopened_room, reopened_end}
use Rattle.memory_layout.specs.Flat.{flat_of}
use Rattle.memory_layout.proofs.Laws.{rows_read, sizes}
use Rattle.basics.proofs.Kit.{sym, ◌∙◌, ◌+◌, ◌<◌, length, arith}
use Rattle.call_recovery.proofs.reopen_rows.Goals as goal

pub owner_at-o-requires : goal.owner_at-o-requires
owner_at-o-requires c = let l = c.loop-i in
    (l.invariant.0.becomes.room, omega (arith, rows_read _ c.get_counts-n.ensures, c.loop-i-test.true, same_rows l.invariant.0))

pub note-requires : goal.note-requires
note-requires c = let l = c.loop-i in
    let m = c.args.m.now in
    let pre = c.requires.may in
    let h : l.i < length (flat_of m).rows = omega (arith, rows_read _ c.get_counts-n.ensures, c.loop-i-test.true) in
    (counts_small (flat_of m) l.i (sizes pre.room).rows l.invariant.1, owner_fits (flat_of m) _ h pre.owners (same_owner l.invariant.0 c.owner_at-o.ensures))

pub reopen_last-requires : goal.reopen_last-requires
reopen_last-requires c = let l = c.loop-i in
    let m = c.args.m.now in
    let pre = c.requires.may in
    let few = (sizes pre.room).rows in
    let h : l.i < length (flat_of m).rows = omega (arith, rows_read _ c.get_counts-n.ensures, c.loop-i-test.true) in
    let e = same_owner l.invariant.0 c.owner_at-o.ensures in
    let k = counts_iteration (flat_of m) _ h pre.owners e l.invariant.1 c.note.ensures in
    record {
      room = l.invariant.0.becomes.room;
      owner = owner_fits (flat_of m) _ h pre.owners e;
      counted = counts_sized c.requires.counted (omega (arith, own_length (flat_of m)));
      passing = counts_small (flat_of m) (l.i + 1) few k;
      opens = reopened_room l.invariant.0 h pre.owners e c.requires.counted k pre.opens;
    }

pub loop-i-preserved : goal.loop-i-preserved
loop-i-preserved c = let l = c.loop-i in
    let m = c.args.m.now in
    let pre = c.requires.may in
    let h : l.i < length (flat_of m).rows = omega (arith, rows_read _ c.get_counts-n.ensures, c.loop-i-test.true) in
    let e = same_owner l.invariant.0 c.owner_at-o.ensures in
    let k = counts_iteration (flat_of m) _ h pre.owners e l.invariant.1 c.note.ensures in
    (reopened_iteration l.invariant.0 h pre.owners e c.requires.counted k c.reopen_last.ensures, k)

pub shape_of-passed : goal.shape_of-passed
shape_of-passed c = c.loop-i.invariant.1.size ∙ sym c.requires.none.size

pub returns : goal.returns
returns c = reopened_end c.loop-i.invariant.0 (omega (arith, rows_read _ c.get_counts-n.ensures, c.loop-i-test.false))

pub shape_of-m : goal.shape_of-m
shape_of-m c = c.loop-i.invariant.0.becomes.size
