-- `engine_lookup::search_span` meets its contract: the rows outside the span have other keys and note nothing (`range_noted`).
use Rattle.memory_layout.specs.Flat.{flat_of}
use Rattle.engine_lookup.proofs.Iterations.{range_noted}
use Rattle.engine_lookup.proofs.search_span.Goals as goal

pub returns : goal.returns
returns c = let a = c.args in
    range_noted (flat_of a.m.now) a.transaction c.note_rows.ensures c.no_version-none.ensures c.span_equal-span.ensures
