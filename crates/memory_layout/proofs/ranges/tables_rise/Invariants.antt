use Rattle.basics.proofs.Kit.{◌≡◌, ◌&&◌, ◌-◌}
use Rattle.basics.specs.Basics.{all, from}
use Rattle.memory_layout.specs.Store.{tables_rise}
use Rattle.memory_layout.proofs.Refusal.{end_rises}
use Rattle.memory_layout.proofs.ranges.tables_rise.Given as goal

abbrev pub invariant-loop-t : goal.invariant-loop-t
invariant-loop-t l = tables_rise l.m ≡ (l.rise && all (end_rises l.m) (from l.t (7 - l.t)))
