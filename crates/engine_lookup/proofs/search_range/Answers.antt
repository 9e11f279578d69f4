-- `engine_lookup::search_range` meets its contract: the rows before the first and behind the last one with the key note nothing (`range_noted`).
use Rattle.basics.proofs.Kit.{arith}
use Rattle.memory_layout.specs.Flat.{flat_of}
use Rattle.memory_bytes.specs.Columns.{equals}
use Rattle.memory_bytes.proofs.Spans.{first_in, found_covers}
use Rattle.memory_rows.specs.Rows.{key_in}
use Rattle.engine_lookup.proofs.Searches.{last_in}
use Rattle.engine_lookup.proofs.Iterations.{range_noted}
use Rattle.engine_lookup.proofs.search_range.Goals as goal

pub last_equal-last-requires : goal.last_equal-last-requires
last_equal-last-requires c = let a = c.args in
    let h = first_in (key_in (flat_of a.m.now)) a.key a.s a.e c.requires.order c.find_equal-first.ensures in
    record { room = c.requires.room; order = h; inside = c.requires.inside }

pub note_rows-requires : goal.note_rows-requires
note_rows-requires c = let a = c.args in
    let i = first_in (key_in (flat_of a.m.now)) a.key a.s a.e c.requires.order c.find_equal-first.ensures in
    let j = last_in (flat_of a.m.now) a.key c.find_equal-first.result a.e i (equals a.key) c.last_equal-last.ensures in
    (c.requires.room, omega (arith, j.1, c.requires.inside))

pub returns : goal.returns
returns c = let a = c.args in
    range_noted (flat_of a.m.now) a.transaction c.note_rows.ensures c.no_version-none.ensures
    (found_covers (key_in (flat_of a.m.now)) a.key a.s a.e _ _ c.requires.order (omega (arith, c.find_equal-first.ensures)) (omega (arith, c.last_equal-last.ensures)))
