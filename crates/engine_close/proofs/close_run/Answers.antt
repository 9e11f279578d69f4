-- `engine_close::close_run` meets its contract: a delete mark by `run_marked`; otherwise row k is committed and the others are removed (`run_kept`).
use Rattle.engine_pages.proofs.Places.{now_held}
use Rattle.engine_close.proofs.Closing.{live_held, run_marked, kept_length, kept_there, run_kept}
use Rattle.engine_close.proofs.Memory.{row_is, tagged_length}
use Rattle.model.specs.State.{Held}
use Rattle.memory_layout.proofs.Laws.{holds_room}
use Rattle.basics.proofs.Kit.{sym, ap, ◌∙◌, arith}
use Rattle.engine_close.proofs.close_run.Goals as goal

pub mark_at-requires : goal.mark_at-requires
mark_at-requires c = let r = holds_room _ c.requires.has_store in (r, omega (arith, c.requires.high, c.requires.most, tagged_length _ r))

pub returns-then-mark_at : goal.returns-then-mark_at
returns-then-mark_at c = let m = c.args.m.now in
    let k = ap (λ (h : Held). h.tuple.mark) (row_is m (holds_room _ c.requires.has_store) _) ∙ sym c.mark_at.ensures in
    run_marked c.requires (k ∙ c.if-mark_at.true) c.remove_rows.ensures

pub remove_rows-r-requires : goal.remove_rows-r-requires
remove_rows-r-requires c = let w = c.requires in (now_held c.commit_row.ensures, omega (arith, kept_length w c.commit_row.ensures, w.low, w.high, w.most))

pub remove_rows-requires-2 : goal.remove_rows-requires-2
remove_rows-requires-2 c = let u = c.remove_rows-r.ensures in (live_held u, kept_there c.requires c.commit_row.ensures u)

pub returns : goal.returns
returns c = let m = c.args.m.now in
    let k = ap (λ (h : Held). h.tuple.mark) (row_is m (holds_room _ c.requires.has_store) _) ∙ sym c.mark_at.ensures in
    run_kept c.requires c.commit_row.ensures c.remove_rows-r.ensures (k ∙ c.if-mark_at.false) c.remove_rows-2.ensures
