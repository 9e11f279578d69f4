-- `engine_writer::named_from` meets its contract. The invariant: the first i numbers are those from entry `first` on.
use Rattle.memory_layout.proofs.Laws.{sizes}
use Rattle.basics.proofs.Parts.{entries_iteration}
use Rattle.memory_layout.specs.Flat.{flat_of}
use Rattle.basics.proofs.Kit.{◌≡◌, length-set, arith}
use Rattle.engine_writer.proofs.named_from.Goals as goal

pub overflow_add-first : goal.overflow_add-first
overflow_add-first c = omega (arith, c.requires.1.inside, (sizes c.requires.0).named)

pub get_named-requires : goal.get_named-requires
get_named-requires c = (c.requires.0, omega (arith, c.requires.1.inside))

pub loop-i-preserved : goal.loop-i-preserved
loop-i-preserved c = let p = c.loop-i in let ns = (flat_of c.args.m.now).named in
    (simp length-set p.invariant.0, entries_iteration ns p.entries c.args.first p.i c.get_named.result (omega arith) (omega arith) c.get_named.ensures p.invariant.1)

pub returns : goal.returns
returns c = let e : c.loop-i.i ≡ c.args.count = omega arith in
    rw e at c.loop-i.invariant.1
