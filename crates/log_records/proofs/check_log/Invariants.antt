use Rattle.basics.proofs.Kit.{◌≡◌, ◌≤◌, ◌-◌, length, drop}
use Rattle.log_records.specs.Records.{read_log}
use Rattle.log_records.specs.Entries.{log_end}
use Rattle.log_records.proofs.Walks.{end_from}
use Rattle.log_records.proofs.check_log.Given as goal

abbrev pub invariant-loop-at : goal.invariant-loop-at
invariant-loop-at l = (l.at ≤ length l.log) × (log_end (read_log l.log) ≡ end_from l.at (read_log (drop l.at l.log)))

abbrev pub decreases-loop-at : goal.decreases-loop-at
decreases-loop-at l = length l.log - l.at
