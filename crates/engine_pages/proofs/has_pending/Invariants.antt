use Rattle.memory_bytes.proofs.Scans.{AnyFrom}
use Rattle.memory_layout.specs.Flat.{flat_of, row_in}
use Rattle.engine_pages.specs.Pending.{has_pending}
use Rattle.engine_pages.proofs.has_pending.Given as goal

abbrev pub invariant-loop-i : goal.invariant-loop-i
invariant-loop-i l = AnyFrom has_pending (row_in (flat_of l.m)) l.initial.i l.e l.hit l.i
