use Rattle.basics.proofs.Kit.{◌≡◌, ◌≤◌, ◌-◌, length, drop}
use Rattle.log_records.specs.Records.{read_log}
use Rattle.log_records.specs.Entries.{last_mark}
use Rattle.log_records.proofs.Walks.{mark_from}
use Rattle.log_records.proofs.last_mark.Given as goal

abbrev pub invariant-loop-place : goal.invariant-loop-place
invariant-loop-place l = (l.at ≤ length l.log) × (last_mark l.level (read_log l.log) ≡ mark_from l.level l.at l.place (read_log (drop l.at l.log)))

abbrev pub decreases-loop-place : goal.decreases-loop-place
decreases-loop-place l = length l.log - l.at
