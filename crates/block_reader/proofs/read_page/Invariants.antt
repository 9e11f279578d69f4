use Rattle.block_reader.proofs.Again.{Again}
use Rattle.block_reader.proofs.read_page.Given as goal

abbrev pub invariant-loop : goal.invariant-loop
invariant-loop l = Again l.block l.copy l.table l.level l.count l.bytes l.at l.counter
