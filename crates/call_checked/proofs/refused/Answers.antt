-- `call_checked::refused` meets its contract.
use Rattle.basics.proofs.Kit.{◌∙◌, sym}
use Rattle.basics.specs.Basics.{if'◌then◌else◌}
use Rattle.call_checked.proofs.refused.Goals as goal

pub returns-then-not-holds_store : goal.returns-then-not-holds_store
unfolding if'◌then◌else◌
returns-then-not-holds_store c = rw (sym c.holds_store.ensures ∙ c.if-not-holds_store.true)

pub returns : goal.returns
unfolding if'◌then◌else◌
returns c = rw (sym c.holds_store.ensures ∙ c.if-not-holds_store.false)
