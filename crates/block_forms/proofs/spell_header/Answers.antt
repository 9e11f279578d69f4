-- `block_forms::spell_header` meets its contract: the fields put into a block of zeros are the block that they spell (`whole_block`).
use Rattle.basics.proofs.Kit.{refl, arith}
use Rattle.block_forms.specs.Block.{header_fields, encode_block}
use Rattle.block_forms.proofs.Spelled.{whole_block}
use Rattle.block_forms.proofs.spell_header.Goals as goal

pub put_fields-requires : goal.put_fields-requires
put_fields-requires c = record {
  all_inside = record {
    words = (omega arith, (omega arith, (omega arith, (omega arith, (omega arith, (omega arith, (omega arith, (omega arith, (omega arith, (omega arith, (omega arith, tt)))))))))));
    within = omega (arith, c.requires.0);
    small = omega arith;
  };
  values_len = refl;
}

pub returns : goal.returns
unfolding encode_block
returns c = let p = c.put_fields in
    let a = c.args in
    whole_block (header_fields a.h) a.block.now p.new.block c.requires.1 (omega arith) (omega (arith, p.auto, c.requires.0)) (λ j. omega (arith, c.type_inv.block j)) p.ensures
