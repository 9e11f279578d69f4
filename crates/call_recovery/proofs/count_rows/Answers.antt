-- `call_recovery::count_rows` meets its contract. The invariant: the counts are those of the first i rows.
use Rattle.basics.proofs.Kit.{sym, ◌∙◌, ◌<◌, length, arith}
use Rattle.memory_layout.specs.Flat.{flat_of}
use Rattle.memory_layout.proofs.Laws.{rows_read, sizes}
use Rattle.call_recovery.proofs.Owning.{owner_fits, counts_iteration, counts_end, counts_small}
use Rattle.call_recovery.proofs.count_rows.Goals as goal

pub owner_at-requires : goal.owner_at-requires
owner_at-requires c = (c.requires.room, omega (arith, rows_read _ c.get_counts-n.ensures, c.loop-i-test.true))

pub note-requires : goal.note-requires
note-requires c = let l = c.loop-i in
    let m = c.args.m.now in
    let h : l.i < length (flat_of m).rows = omega (arith, rows_read _ c.get_counts-n.ensures, c.loop-i-test.true) in
    (counts_small (flat_of m) l.i (sizes c.requires.room).rows l.invariant, owner_fits (flat_of m) _ h c.requires.owners c.owner_at.ensures)

pub loop-i-preserved : goal.loop-i-preserved
loop-i-preserved c = let l = c.loop-i in
    let m = c.args.m.now in
    let h : l.i < length (flat_of m).rows = omega (arith, rows_read _ c.get_counts-n.ensures, c.loop-i-test.true) in
    counts_iteration (flat_of m) _ h c.requires.owners c.owner_at.ensures l.invariant c.note.ensures

pub shape_of-counts : goal.shape_of-counts
shape_of-counts c = c.loop-i.invariant.size ∙ sym c.requires.none.size

pub returns : goal.returns
returns c = counts_end (flat_of _) c.loop-i.i (omega (arith, rows_read _ c.get_counts-n.ensures, c.loop-i-test.false)) c.loop-i.invariant
