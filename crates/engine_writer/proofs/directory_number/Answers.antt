-- `engine_writer::directory_number` meets its contract: the entry that is there, or 0.
use Rattle.memory_layout.specs.Flat.{flat_of}
use Rattle.memory_layout.proofs.Laws.{directories_read}
use Rattle.basics.proofs.Kit.{sym, List·getD-eq-default, arith}
use Rattle.engine_writer.proofs.directory_number.Goals as goal

pub get_directory-requires : goal.get_directory-requires
get_directory-requires c = (c.requires, omega (arith, directories_read c.args.m.now c.get_counts-n.ensures))

pub returns-else-i-n : goal.returns-else-i-n
returns-else-i-n c = sym (List·getD-eq-default (flat_of c.args.m.now).directories 0 {n = c.args.i} (omega (arith, directories_read c.args.m.now c.get_counts-n.ensures)))
