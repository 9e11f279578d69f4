-- `memory_rows::shifts::copy_eight` meets its contract: a copy in each column is a copy of the cells (`copied_eight`).
use Rattle.memory_rows.proofs.Eights.{copied_eight}
use Rattle.memory_rows.proofs.shifts.copy_eight.Goals as goal

pub returns : goal.returns
returns c = let h = c.requires in
    copied_eight c.keys_at-keys.ensures c.refs_at-refs.ensures c.states_at-states.ensures h.first h.second
    c.copy.ensures c.copy-2.ensures c.copy-3.ensures
