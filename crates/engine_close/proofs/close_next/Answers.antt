-- `engine_close::close_next` meets its contract: without an own row by `none_left`; else an abort by `one_aborted` from `remove_row`, a commit by `one_closed` from the run's bounds and `close_run`.
use Rattle.engine_close.proofs.Memory.{table_there}
use Rattle.engine_close.proofs.Next.{none_left, one_aborted, one_closed}
use Rattle.memory_layout.proofs.Laws.{holds_room}
use Rattle.basics.proofs.Kit.{arith}
use Rattle.engine_close.proofs.close_next.Goals as goal

pub next_own-requires : goal.next_own-requires
next_own-requires c = let p = c.requires in (holds_room _ p.0, omega (arith, p.1))

pub row_count-requires : goal.row_count-requires
row_count-requires c = holds_room _ c.requires.0

pub returns-in_default : goal.returns-in_default
returns-in_default c = none_left c.args.keep c.requires.0 c.requires.1 c.in_default.ensures c.row_count.ensures

pub page_of-p-requires : goal.page_of-p-requires
page_of-p-requires c = (holds_room _ c.requires.0, c.in-Some.ensures.1)

pub remove_row-requires : goal.remove_row-requires
remove_row-requires c = (c.requires.0, c.in-Some.ensures.1)

pub returns-then-not-keep : goal.returns-then-not-keep
returns-then-not-keep c = one_aborted c.args.keep (c.if-not-keep.true) c.in-Some.ensures.0 c.in-Some.ensures.1 c.remove_row.ensures

pub table_of-t-requires : goal.table_of-t-requires
table_of-t-requires c = (holds_room _ c.requires.0, c.page_of-p.ensures.high)

pub run_start-a-requires : goal.run_start-a-requires
run_start-a-requires c = (table_there (holds_room _ c.requires.0) c.in-Some.ensures.1 c.page_of-p.ensures c.table_of-t.ensures, c.in-Some.ensures.0.low)

pub run_end-e-requires : goal.run_end-e-requires
run_end-e-requires c = table_there (holds_room _ c.requires.0) c.in-Some.ensures.1 c.page_of-p.ensures c.table_of-t.ensures

pub newest_own-k-requires : goal.newest_own-k-requires
newest_own-k-requires c = let t = c.run_end-e.ensures in
    (holds_room _ c.requires.0, record { order = t.low; inside = t.most; own = c.in-Some.ensures.0.found c.in-Some.ensures.1 })

pub returns : goal.returns
returns c = one_closed c.in-Some.ensures.0 c.run_start-a.ensures c.run_end-e.ensures c.newest_own-k.ensures c.close_run.ensures
    c.args.keep (c.if-not-keep.false)
