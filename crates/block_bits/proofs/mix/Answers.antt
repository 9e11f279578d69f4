-- `block_bits::mix` meets its contract: no shift loses a bit, and both sums fit 64 bits (`window_words`).
use Rattle.basics.proofs.Kit.{arith}
use Rattle.block_bits.proofs.Window.{window_words}
use Rattle.block_bits.proofs.mix.Goals as goal

pub overflow_add-high-2 : goal.overflow_add-high-2
overflow_add-high-2 c = let w = window_words c.args.x c.requires in omega (arith, w.upper, w.upper_fits)

pub overflow_add-result : goal.overflow_add-result
overflow_add-result c = let w = window_words c.args.x c.requires in omega (arith, w.whole, w.whole_fits)

pub returns : goal.returns
returns c = (window_words c.args.x c.requires).whole
