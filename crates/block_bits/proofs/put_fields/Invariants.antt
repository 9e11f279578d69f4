use Rattle.basics.proofs.Kit.{◌≡◌}
use Rattle.std.specs.Slice.Iter.{iter_rest}
use Rattle.std.specs.Iterator.Adapters.{zip_first, zip_second}
use Rattle.block_bits.specs.Bits.{bits_in}
use Rattle.block_bits.specs.Fields.{put_all, fields_of, AllInside}
use Rattle.block_bits.proofs.put_fields.Given as goal

abbrev pub invariant-loop-width : goal.invariant-loop-width
invariant-loop-width l =
    let ws = iter_rest (zip_first l.width-iterator) in
    let vs = iter_rest (zip_second l.width-iterator) in
    AllInside l.block l.at ws
    × (put_all (bits_in l.block) l.at (fields_of ws vs) ≡ put_all (bits_in l.initial.block) l.initial.at (fields_of l.widths l.values))
