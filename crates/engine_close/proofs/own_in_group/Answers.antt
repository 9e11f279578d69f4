-- `engine_close::own_in_group` meets its contract: a group without a tentative row has no own row (`group_not_own`).
use Rattle.engine_close.proofs.Own.{group_not_own}
use Rattle.engine_close.proofs.Memory.{tagged_length, few_tagged}
use Rattle.basics.proofs.Kit.{sym, ◌∙◌, arith}
use Rattle.engine_close.proofs.own_in_group.Goals as goal

pub any_tentative-requires : goal.any_tentative-requires
any_tentative-requires c = (c.requires.0, omega (arith, c.requires.1, tagged_length _ c.requires.0))

pub overflow_add-g : goal.overflow_add-g
overflow_add-g c = omega (arith, c.requires.1, few_tagged _ c.requires.0)

pub returns-else-any_tentative : goal.returns-else-any_tentative
returns-else-any_tentative c = let g = group_not_own _ c.requires.0 c.args.transaction _ c.requires.1 (sym c.any_tentative.ensures ∙ c.if-any_tentative.false) in
    record { low = omega arith; most = omega arith; passed = g; found = λ x. absurd (omega arith) }
