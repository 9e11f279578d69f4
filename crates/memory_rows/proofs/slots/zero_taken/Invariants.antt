use Rattle.memory_rows.specs.Cells.{slot_in}
use Rattle.memory_bytes.proofs.Scans.{AnyFrom}
use Rattle.memory_bytes.specs.Columns.{equals}
use Rattle.memory_rows.proofs.slots.zero_taken.Given as goal

abbrev pub invariant-loop-i : goal.invariant-loop-i
invariant-loop-i l = AnyFrom (equals 0) (slot_in l.m l.c) 0 l.n l.hit l.i
