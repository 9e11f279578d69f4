-- `block_reader::read_entries` meets its contract. The invariant: the first i entries are read.
use Rattle.basics.proofs.Kit.{◌≡◌, refl, length-set, arith}
use Rattle.block_forms.specs.Decode.{read_entries}
use Rattle.block_reader.proofs.Entries.{entries_iteration}
use Rattle.block_reader.proofs.read_entries.Goals as goal

pub loop-i-init : goal.loop-i-init
unfolding read_entries
loop-i-init c = record { whole = refl; read = refl }

pub loop-i-preserved : goal.loop-i-preserved
loop-i-preserved c = let p = c.loop-i in
    record {
      whole = simp length-set (omega arith);
      read = entries_iteration c.args.block.now p.out p.i c.get_bits.result (omega arith) p.invariant.read c.get_bits.ensures.0;
    }

pub returns : goal.returns
returns c = let p = c.loop-i in
    let e : p.i ≡ c.args.count = omega arith in
    rw e at p.invariant.read
