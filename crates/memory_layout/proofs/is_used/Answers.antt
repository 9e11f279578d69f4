-- `memory_layout::is_used` meets its contract: the block is below 4,096, so that its bit alone decides.
use Rattle.block_forms.specs.Limits.{block_limit}
use Rattle.basics.proofs.Kit.{lt-ltb}
use Rattle.memory_layout.specs.Views.{is_used}
use Rattle.memory_layout.proofs.is_used.Goals as goal

pub returns : goal.returns
unfolding is_used
returns c = rw (lt-ltb c.args.b block_limit c.requires.0)
