-- `engine_lookup::find_versions` meets its contract: what is noted of the table's rows is what there is of the key (`table_shown`).
use Rattle.memory_layout.proofs.Laws.{holds_room}
use Rattle.engine_lookup.proofs.Tables.{table_shown}
use Rattle.engine_lookup.proofs.find_versions.Goals as goal

pub table_rows-t-requires : goal.table_rows-t-requires
table_rows-t-requires c = (holds_room c.args.m.now c.requires.0, c.requires.1)

pub search_span-requires : goal.search_span-requires
search_span-requires c = let g = c.table_rows-t.ensures in
    record { room = holds_room c.args.m.now c.requires.0; order = g.order; inside = g.inside }

pub returns : goal.returns
returns c = let a = c.args in
    table_shown (holds_room a.m.now c.requires.0) a.table a.transaction a.key c.requires.1 c.table_rows-t.ensures c.search_span.ensures
