-- `engine_crossing::find_crossing` meets its contract. The invariant (`Progress`): rows before row i are done, and those of the table from there up to
-- row c do not cross.
use Rattle.engine_crossing.proofs.Progress.{progress_starts, out_length, key_room, progress_next, progress_ends}
use Rattle.engine_crossing.proofs.Window.{high_bounds, table_order, row_of_table, Looked, looked, passed_start, passed_end}
use Rattle.engine_crossing.proofs.Runs.{one_key}
use Rattle.engine_close.specs.Close.{RowOfTable}
use Rattle.engine_close.proofs.Memory.{tagged_length}
use Rattle.engine_close.proofs.RunBounds.{whole_run}
use Rattle.memory_layout.specs.Flat.{flat_of, Room}
use Rattle.memory_layout.proofs.Laws.{holds_room}
use Rattle.basics.proofs.Kit.{sym, ◌≤◌, length, arith}
use Rattle.engine_crossing.proofs.find_crossing.Goals as goal

pub first_row-s-requires : goal.first_row-s-requires
first_row-s-requires c = let p = c.requires in (holds_room _ p.0.has_store, omega (arith, p.0.table))

pub first_row-e-requires : goal.first_row-e-requires
first_row-e-requires c = let p = c.requires in (holds_room _ p.0.has_store, omega (arith, p.0.table))

pub last_up_to-high-requires : goal.last_up_to-high-requires
last_up_to-high-requires c = let room : Room c.args.m.now = holds_room _ c.requires.0.has_store in
    let m = c.args.m.now in
    let room = holds_room _ c.requires.0.has_store in
    record {
      room = room;
      order = table_order m c.first_row-s.ensures c.first_row-e.ensures;
      inside = omega (arith, c.first_row-e.ensures.most, tagged_length m room);
    }

pub first_from-low-requires : goal.first_from-low-requires
first_from-low-requires c = let room : Room c.args.m.now = holds_room _ c.requires.0.has_store in
    let m = c.args.m.now in let room = holds_room _ c.requires.0.has_store in
    let b = high_bounds m c.type_inv.m 0 0 _ _ _ _ (table_order m c.first_row-s.ensures c.first_row-e.ensures)
    (omega (arith, c.first_row-e.ensures.most, tagged_length m room)) c.last_up_to-high.ensures in
    record { room = room; order = b.0; inside = omega (arith, b.1, c.first_row-e.ensures.most, tagged_length m room) }

pub loop-c-init : goal.loop-c-init
loop-c-init c = let room : Room c.args.m.now = holds_room _ c.requires.0.has_store in
    let known : let a = c.args in Looked a.m.now a.table a.first a.end c.first_row-s.result c.first_row-e.result c.first_from-low.result c.last_up_to-high.result = let a = c.args in looked a.m.now (room) c.type_inv.m a.first a.end c.first_row-s.ensures c.first_row-e.ensures c.as_key.ensures c.last_up_to-high.ensures c.least_key.ensures c.first_from-low.ensures in
    let k = known in
    (omega (arith, k.start, c.next_crossing-c.ensures.low), progress_starts (room) _ _ _ _ _ _ (passed_start k _ c.next_crossing-c.ensures))

pub add_run-n-requires : goal.add_run-n-requires
add_run-n-requires c = let room : Room c.args.m.now = holds_room _ c.requires.0.has_store in
    let known : let a = c.args in Looked a.m.now a.table a.first a.end c.first_row-s.result c.first_row-e.result c.first_from-low.result c.last_up_to-high.result = let a = c.args in looked a.m.now (room) c.type_inv.m a.first a.end c.first_row-s.ensures c.first_row-e.ensures c.as_key.ensures c.last_up_to-high.ensures c.least_key.ensures c.first_from-low.ensures in
    let of_table : let st = (c.before.before.before.before.before.before.before.before) in RowOfTable st.args.m.now c.loop-c.c st.args.table = let k = known in row_of_table _ k.table k.next (room) c.requires.0.table _ c.loop-c.invariant.0 (omega (arith, k.inside, c.loop-c-test.true)) in
    let l = c.loop-c.invariant.1 in
    (one_key (room) 0 0 0 0 (whole_run c.run_start-a.ensures c.run_end-i.ensures), key_room (room) _ _ _ _ l c.requires.1 (of_table).inside)

pub loop-c-smaller : goal.loop-c-smaller
loop-c-smaller c = omega (arith, c.loop-c-test.true, c.run_end-i.ensures.low, c.next_crossing-c-in-loop-c.ensures.low)

pub loop-c-preserved : goal.loop-c-preserved
loop-c-preserved c = let room : Room c.args.m.now = holds_room _ c.requires.0.has_store in
    let known : let a = c.args in Looked a.m.now a.table a.first a.end c.first_row-s.result c.first_row-e.result c.first_from-low.result c.last_up_to-high.result = let a = c.args in looked a.m.now (room) c.type_inv.m a.first a.end c.first_row-s.ensures c.first_row-e.ensures c.as_key.ensures c.last_up_to-high.ensures c.least_key.ensures c.first_from-low.ensures in
    let of_table : let st = (c.before.before.before.before.before.before.before.before) in RowOfTable st.args.m.now c.loop-c.c st.args.table = let k = known in row_of_table _ k.table k.next (room) c.requires.0.table _ c.loop-c.invariant.0 (omega (arith, k.inside, c.loop-c-test.true)) in
    let l = c.loop-c.invariant in (
      omega (arith, l.0, c.run_end-i.ensures.low, c.next_crossing-c-in-loop-c.ensures.low),
      progress_next (room) _ _ _ _ l.1 c.requires.1 c.run_start-a.ensures c.run_end-i.ensures (sym (of_table).table) c.add_run-n.ensures c.next_crossing-c-in-loop-c.ensures,
    )

pub shape_of-out : goal.shape_of-out
shape_of-out c = let room : Room c.args.m.now = holds_room _ c.requires.0.has_store in
    out_length (room) _ _ _ _ c.loop-c.invariant.1 c.requires.1

pub returns : goal.returns
returns c = let room : Room c.args.m.now = holds_room _ c.requires.0.has_store in
    let known : let a = c.args in Looked a.m.now a.table a.first a.end c.first_row-s.result c.first_row-e.result c.first_from-low.result c.last_up_to-high.result = let a = c.args in looked a.m.now (room) c.type_inv.m a.first a.end c.first_row-s.ensures c.first_row-e.ensures c.as_key.ensures c.last_up_to-high.ensures c.least_key.ensures c.first_from-low.ensures in
    progress_ends (room) _ _ _ _ c.loop-c.invariant.1 c.requires.1 (passed_end (known) _ c.loop-c-test.false)

pub overflow_add-t : goal.overflow_add-t
overflow_add-t c = omega (arith, c.requires.0.table)

pub overflow_sub-end : goal.overflow_sub-end
overflow_sub-end c = omega (arith, c.requires.0.order)

pub next_crossing-c-requires : goal.next_crossing-c-requires
next_crossing-c-requires c = let room : Room c.args.m.now = holds_room _ c.requires.0.has_store in
    let known : let a = c.args in Looked a.m.now a.table a.first a.end c.first_row-s.result c.first_row-e.result c.first_from-low.result c.last_up_to-high.result = let a = c.args in looked a.m.now (room) c.type_inv.m a.first a.end c.first_row-s.ensures c.first_row-e.ensures c.as_key.ensures c.last_up_to-high.ensures c.least_key.ensures c.first_from-low.ensures in
    let high_inside : c.last_up_to-high.result ≤ length (flat_of c.args.m.now).rows = omega (arith, (known).inside, (known).next.most, tagged_length _ (room)) in
    (room, high_inside)

pub run_start-a-requires : goal.run_start-a-requires
run_start-a-requires c = let room : Room c.args.m.now = holds_room _ c.requires.0.has_store in
    let known : let a = c.args in Looked a.m.now a.table a.first a.end c.first_row-s.result c.first_row-e.result c.first_from-low.result c.last_up_to-high.result = let a = c.args in looked a.m.now (room) c.type_inv.m a.first a.end c.first_row-s.ensures c.first_row-e.ensures c.as_key.ensures c.last_up_to-high.ensures c.least_key.ensures c.first_from-low.ensures in
    let of_table : let st = (c.before.before.before.before.before.before.before.before) in RowOfTable st.args.m.now c.loop-c.c st.args.table = let k = known in row_of_table _ k.table k.next (room) c.requires.0.table _ c.loop-c.invariant.0 (omega (arith, k.inside, c.loop-c-test.true)) in
    (of_table, c.loop-c.invariant.1.low)

pub run_end-i-requires : goal.run_end-i-requires
run_end-i-requires c = let room : Room c.args.m.now = holds_room _ c.requires.0.has_store in
    let known : let a = c.args in Looked a.m.now a.table a.first a.end c.first_row-s.result c.first_row-e.result c.first_from-low.result c.last_up_to-high.result = let a = c.args in looked a.m.now (room) c.type_inv.m a.first a.end c.first_row-s.ensures c.first_row-e.ensures c.as_key.ensures c.last_up_to-high.ensures c.least_key.ensures c.first_from-low.ensures in
    let of_table : let st = (c.before.before.before.before.before.before.before.before) in RowOfTable st.args.m.now c.loop-c.c st.args.table = let k = known in row_of_table _ k.table k.next (room) c.requires.0.table _ c.loop-c.invariant.0 (omega (arith, k.inside, c.loop-c-test.true)) in
    of_table

pub next_crossing-c-requires-in-loop-c : goal.next_crossing-c-requires-in-loop-c
next_crossing-c-requires-in-loop-c c = let room : Room c.args.m.now = holds_room _ c.requires.0.has_store in
    let known : let a = c.args in Looked a.m.now a.table a.first a.end c.first_row-s.result c.first_row-e.result c.first_from-low.result c.last_up_to-high.result = let a = c.args in looked a.m.now (room) c.type_inv.m a.first a.end c.first_row-s.ensures c.first_row-e.ensures c.as_key.ensures c.last_up_to-high.ensures c.least_key.ensures c.first_from-low.ensures in
    let high_inside : c.last_up_to-high.result ≤ length (flat_of c.args.m.now).rows = omega (arith, (known).inside, (known).next.most, tagged_length _ (room)) in
    (room, high_inside)
