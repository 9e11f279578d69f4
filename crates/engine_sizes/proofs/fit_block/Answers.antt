-- `engine_sizes::fit_block` meets its contract: few rows are small enough together (`rows_most`), and others are summed.
use Rattle.basics.proofs.Kit.{sym, ◌∙◌, ◌-◌, le-leb, arith}
use Rattle.basics.specs.Basics.{sum}
use Rattle.block_forms.specs.Limits.{record_space}
use Rattle.model.specs.Rules.{held_size}
use Rattle.memory_layout.specs.Elements.{rows_from}
use Rattle.engine_sizes.proofs.Sizes.{rows_most}
use Rattle.engine_sizes.proofs.fit_block.Goals as goal

pub returns-then-e-s-le-SURELY_FIT : goal.returns-then-e-s-le-SURELY_FIT
returns-then-e-s-le-SURELY_FIT c = let a = c.args in
    le-leb (a.e - a.s) _ c.if-e-s-le-SURELY_FIT.true
    ∙ sym (le-leb (sum held_size (rows_from a.m.now a.s a.e)) record_space (omega (arith, rows_most c.requires, c.if-e-s-le-SURELY_FIT.true)))
