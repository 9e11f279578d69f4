-- `memory_rows::shifts::lower_rows` meets its contract: nine or more by `lower_eights`, fewer by a move of each column (`lowered_rows`).
use Rattle.memory_rows.proofs.Moving.{lowered_rows}
use Rattle.memory_rows.proofs.shifts.lower_rows.Goals as goal

pub returns : goal.returns
returns c = lowered_rows c.keys_at-k.ensures c.refs_at-r.ensures c.states_at-s.ensures c.requires.order c.requires.space
    c.lower.ensures c.lower-2.ensures c.lower-3.ensures
