-- `memory_rows::commit_row` meets its contract: the one byte that is written is the row's state (`commits`).
use Rattle.memory_rows.proofs.Exchange.{commits}
use Rattle.memory_bytes.proofs.Moves.{wrote1}
use Rattle.basics.proofs.Kit.{refl}
use Rattle.memory_rows.proofs.commit_row.Goals as goal

pub returns : goal.returns
returns c = let a = c.state_place-a in
    commits c.requires.0 c.args.i c.requires.1 a.ensures.0 refl (wrote1 c.args.m.now a.result _ a.ensures.1)
