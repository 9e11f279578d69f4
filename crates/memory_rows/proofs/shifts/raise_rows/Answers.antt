-- `memory_rows::shifts::raise_rows` meets its contract: eight or more by `raise_eights`, fewer by a move of each column (`raised_rows`).
use Rattle.memory_rows.proofs.Moving.{raised_rows}
use Rattle.memory_rows.proofs.shifts.raise_rows.Goals as goal

pub returns : goal.returns
returns c = raised_rows c.keys_at-k.ensures c.refs_at-r.ensures c.states_at-s.ensures c.requires.order c.requires.space
    c.raise.ensures c.raise-2.ensures c.raise-3.ensures
