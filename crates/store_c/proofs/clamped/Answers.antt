-- `store_c::clamped` meets its contract: a number above the largest `i64` is that one, any other is itself.
use Rattle.store_c.proofs.Signed.{clamped_low, clamped_high}
use Rattle.basics.proofs.Kit.{rules}
use Rattle.store_c.proofs.clamped.Goals as goal

pub returns-then-n-lt9223372036854775808 : goal.returns-then-n-lt9223372036854775808
returns-then-n-lt9223372036854775808 c = clamped_low c.args.n c.if-n-lt9223372036854775808.true

pub returns : goal.returns
returns c = clamped_high c.args.n c.if-n-lt9223372036854775808.false
