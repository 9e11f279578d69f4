-- `call_checkpoint::fill_entry` meets its contract: without an entry that is 0 nothing is filled (`fills_none`), else the first such entry is (`fills_at`).
use Rattle.call_checkpoint.proofs.Leaving.{fills_none, fills_at}
use Rattle.call_checkpoint.proofs.fill_entry.Goals as goal

pub returns-in-Some : goal.returns-in-Some
returns-in-Some c = fills_at _ _ c.in-Some.ensures.0 c.in-Some.ensures.1 c.put_named.ensures

pub returns-in_default : goal.returns-in_default
returns-in_default c = fills_none _ c.requires.0 c.in_default.ensures
