-- `engine_crossing::seen_in_run` meets its contract: what is noted of the run's rows tells what is seen of it (`run_shows`, `run_seen`).
use Rattle.engine_crossing.proofs.Seen.{run_shows, run_seen}
use Rattle.engine_crossing.proofs.seen_in_run.Goals as goal

pub pick-requires : goal.pick-requires
pick-requires c = (c.requires.room, (run_shows _ c.requires c.note_rows-l.ensures c.no_version-none.ensures c.key_at.ensures 0).own_in)

pub returns : goal.returns
returns c = run_seen _ _ c.args.a c.args.b (run_shows _ c.requires c.note_rows-l.ensures c.no_version-none.ensures c.key_at.ensures) c.pick.ensures
