use Rattle.basics.proofs.Kit.{length}
use Rattle.block_forms.specs.Tuple.{sizes}
use Rattle.model.specs.Rules.{shown}
use Rattle.memory_layout.specs.Flat.{flat_of}
use Rattle.engine_writer.proofs.Showing.{run}
use Rattle.engine_writer.proofs.Writing.{Filling}
use Rattle.engine_writer.proofs.fill_page.Given as goal

abbrev pub invariant-loop-i : goal.invariant-loop-i
invariant-loop-i l = let all = shown (run (flat_of l.m).rows l.s l.e) in
    Filling l.block l.table l.level (length all) (sizes all) (shown (run (flat_of l.m).rows l.s l.i)) l.at
