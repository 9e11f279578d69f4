-- `engine_lookup::find_place` meets its contract: what is noted as in `find_versions` (`spot_shown`), and the place behind the last key that is not above (`spot_place`).
use Rattle.basics.proofs.Kit.{arith}
use Rattle.memory_bytes.specs.Columns.{up_to}
use Rattle.memory_layout.specs.Flat.{flat_of}
use Rattle.memory_layout.proofs.Laws.{holds_room}
use Rattle.engine_lookup.proofs.Searches.{last_in}
use Rattle.engine_lookup.proofs.Tables.{spot_shown, spot_place}
use Rattle.engine_lookup.proofs.find_place.Goals as goal

pub table_rows-t-requires : goal.table_rows-t-requires
table_rows-t-requires c = (holds_room c.args.m.now c.requires.0, c.requires.1)

pub last_up_to-at-requires : goal.last_up_to-at-requires
last_up_to-at-requires c = let g = c.table_rows-t.ensures in
    record { room = holds_room c.args.m.now c.requires.0; order = g.order; inside = g.inside }

pub search_range-requires : goal.search_range-requires
search_range-requires c = let g = c.table_rows-t in
    let j = last_in (flat_of c.args.m.now) c.args.key g.result.start g.result.end g.ensures.order (up_to c.args.key) c.last_up_to-at.ensures in
    record { room = holds_room c.args.m.now c.requires.0; order = j.0; inside = omega (arith, j.1, g.ensures.inside) }

pub returns : goal.returns
returns c = let a = c.args in let r = holds_room a.m.now c.requires.0 in
    let g = c.table_rows-t.ensures in let q = c.last_up_to-at.ensures in
    record {
      visibility = spot_shown r a.table a.transaction a.key c.requires.1 g q c.search_range.ensures;
      place = spot_place r a.table a.transaction a.key c.requires.1 g q;
    }
