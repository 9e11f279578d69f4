-- `engine_lookup::seen_by` meets its contract: what is noted of the key tells what is seen (`visibility_sees`).
use Rattle.memory_layout.specs.Flat.{flat_of}
use Rattle.memory_layout.proofs.Laws.{holds_room}
use Rattle.engine_lookup.proofs.Picking.{visibility_sees}
use Rattle.engine_lookup.proofs.seen_by.Goals as goal

pub pick-requires : goal.pick-requires
pick-requires c = (holds_room c.args.m.now c.requires.0, c.find_versions-l.ensures.own_in)

pub returns : goal.returns
returns c = let a = c.args in
    visibility_sees (flat_of a.m.now) a.table a.transaction a.key c.find_versions-l.result c.pick.result c.find_versions-l.ensures c.pick.ensures
