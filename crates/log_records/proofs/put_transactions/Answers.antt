-- `log_records::put_transactions` meets its contract. The invariant: the bits of the first i transactions are over the first bits.
use Rattle.basics.proofs.Kit.{◌≡◌, refl, sym, ap, ◌∙◌, take, take_all, arith}
use Rattle.basics.specs.Lists.{over}
use Rattle.basics.proofs.Overs.{over_nil}
use Rattle.block_bits.specs.Bits.{bits_in}
use Rattle.block_bits.proofs.Blocks.{length_bits_in}
use Rattle.block_forms.specs.Spell.{spell}
use Rattle.block_forms.specs.Block.{entry_fields}
use Rattle.block_forms.proofs.Spelled.{all_bytes}
use Rattle.log_records.proofs.Marks.{entry_put, entries_put}
use Rattle.log_records.proofs.put_transactions.Goals as goal

pub loop-i-init : goal.loop-i-init
unfolding spell entry_fields
loop-i-init c = (refl, sym (over_nil (bits_in c.args.part.now) 0))

pub loop-i-preserved : goal.loop-i-preserved
loop-i-preserved c = let p = c.loop-i in
    let P = c.args.part.now in
    let room = length_bits_in P in
    let more = entry_put (bits_in P) c.args.transactions.now p.i (omega (arith, c.loop-i-test.true)) (omega (arith, c.requires.size)) p.invariant.1 c.from-transaction.ensures
    c.put_bits.ensures in
    (omega (arith, c.put_bits.auto.block, p.invariant.0), more)

pub returns : goal.returns
returns c = let p = c.loop-i in
    let P = c.args.part.now in
    let txs = c.args.transactions.now in
    let all : take p.i txs ≡ txs = take_all p.i txs (omega (arith, c.loop-i-test.false)) in
    let b = all_bytes c.put_bits-2.new.block (λ j. omega (arith, c.type_inv.part j)) in
    entries_put P c.put_bits-2.new.block txs c.requires b (p.invariant.1 ∙ ap (λ z. over (bits_in P) 0 (spell (entry_fields z))) all) c.put_bits-2.ensures
