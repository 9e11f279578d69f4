-- `engine_crossing::add_run` meets its contract: nothing is seen (`added_unseen`), what is seen does not cross (`added_not`), or its key is put out
-- (`added_key`).
use Rattle.engine_crossing.proofs.Adding.{run_inside, added_unseen, added_not, added_key}
use Rattle.basics.proofs.Kit.{sym, ◌∙◌}
use Rattle.engine_crossing.proofs.add_run.Goals as goal

pub returns-in_default : goal.returns-in_default
returns-in_default c = added_unseen _ _ _ _ _ c.seen_in_run.ensures _ _ c.in_default.is

pub crosses_at-requires : goal.crosses_at-requires
crosses_at-requires c = let a = c.args in
    (c.requires.0.room, run_inside _ 0 0 a.a a.b c.seen_in_run.ensures _ c.in-Some.is)

pub returns-then-not-crosses_at : goal.returns-then-not-crosses_at
returns-then-not-crosses_at c = added_not _ _ _ _ _ c.seen_in_run.ensures _ _ _ c.in-Some.is (sym c.crosses_at.ensures ∙ c.if-not-crosses_at.true)

pub key_at-requires : goal.key_at-requires
key_at-requires c = let a = c.args in
    (c.requires.0.room, run_inside _ 0 0 a.a a.b c.seen_in_run.ensures _ c.in-Some.is)

pub returns : goal.returns
returns c = added_key _ _ _ _ _ c.seen_in_run.ensures _ _ _ c.in-Some.is (sym c.crosses_at.ensures ∙ c.if-not-crosses_at.false) c.key_at.ensures
    c.put_key.ensures
