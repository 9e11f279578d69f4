use Rattle.memory_pages.specs.Pages.{frozen_word}
use Rattle.memory_bytes.specs.Bytes.{column2}
use Rattle.memory_bytes.proofs.Scans.{AnyFrom}
use Rattle.memory_pages.proofs.any_frozen.Given as goal

abbrev pub invariant-loop-j : goal.invariant-loop-j
invariant-loop-j l = AnyFrom frozen_word (column2 l.m l.at) 0 16 l.hit l.j
