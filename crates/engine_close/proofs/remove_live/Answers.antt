-- `engine_close::remove_live` meets its contract: a live row is removed (`live_removed`), one pending removal is passed over (`live_passed`).
use Rattle.engine_close.proofs.Closing.{live_removed, live_passed}
use Rattle.engine_close.proofs.Memory.{few_tagged}
use Rattle.memory_layout.proofs.Laws.{holds_room}
use Rattle.basics.proofs.Kit.{sym, ◌∙◌, arith}
use Rattle.engine_close.proofs.remove_live.Goals as goal

pub is_live-requires : goal.is_live-requires
is_live-requires c = let p = c.requires in (holds_room _ p.0, p.1)

pub returns-then-is_live : goal.returns-then-is_live
returns-then-is_live c = live_removed c.requires.1 c.remove_row.ensures (sym c.is_live.ensures ∙ c.if-is_live.true)

pub overflow_add-result : goal.overflow_add-result
overflow_add-result c = omega (arith, c.requires.1, few_tagged _ (holds_room _ c.requires.0))

pub returns-else-is_live : goal.returns-else-is_live
returns-else-is_live c = live_passed c.requires.0 c.requires.1 (sym c.is_live.ensures ∙ c.if-is_live.false)
