-- `call_transactions::tests::check_key` meets its contract: one case for each test (`key_12` to `key_14`), and those that go on to `check_full`.
use Rattle.basics.proofs.Kit.{◌∙◌, ap, not, sym}
use Rattle.memory_layout.specs.Flat.{flat_of}
use Rattle.memory_layout.proofs.Laws.{holds_room}
use Rattle.std.specs.Prelude.{is_some}
use Rattle.call_transactions.proofs.Testing.{key_12, key_13, key_14, key_passed}
use Rattle.call_transactions.proofs.checks.check_key.Goals as goal
use Rattle.call_transactions.proofs.checks.check_key.Goals.{in-Some+else-new, in-None+else-not-new}

pub returns-then-visibility : goal.returns-then-visibility
returns-then-visibility c = key_12 (flat_of _) _ _ c.if-visibility.true

pub pick-requires : goal.pick-requires
pick-requires c = (holds_room _ c.requires.0, c.requires.1)

pub returns-then-new : goal.returns-then-new
returns-then-new c = let a = c.args in
    key_13 (flat_of _) a.visibility c.if-visibility.false c.pick.ensures c.in-Some.is a.new c.if-new.true

pub returns-then-not-new : goal.returns-then-not-new
returns-then-not-new c = let a = c.args in
    key_14 (flat_of _) a.visibility c.if-visibility.false c.pick.ensures c.in-None.is a.new (ap not c.if-not-new.true)

pub returns : goal.returns
returns c = let a = c.args in
    c.check_full.ensures ∙ key_passed (flat_of _) a.visibility c.if-visibility.false c.pick.ensures a.new
    (elim c.match-pick.branch [
      | in-Some+else-new w ↦ ap is_some w.in-Some.is ∙ sym (ap not w.if-new.false)
      | in-None+else-not-new w ↦ ap is_some w.in-None.is ∙ sym (ap not w.if-not-new.false)
    ])
