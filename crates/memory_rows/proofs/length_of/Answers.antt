-- `memory_rows::length_of` meets its contract: it answers the smaller of the low six bits and the limit.
use Rattle.memory_layout.specs.Views.{length_of}
use Rattle.block_forms.specs.Limits.{payload_limit}
use Rattle.basics.proofs.Kit.{ap, ◌∙◌, ℕ, min, arith}
use Rattle.memory_rows.proofs.length_of.Goals as goal

pub returns : goal.returns
unfolding length_of
returns c = (c.min.ensures ∙ ap (λ (z : ℕ). min z payload_limit) c.from.ensures, omega arith)
