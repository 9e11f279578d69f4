-- `block_forms::spell_directory` meets its contract. The invariant: the block's bits are those of the head and the first i entries, then zeros (`dir_bits`).
use Rattle.basics.proofs.Kit.{◌≡◌, ◌∙◌, ap, ℕ, ◌<◌, length-take, get_or, get_or-take, arith}
use Rattle.block_bits.specs.Bits.{bits_in}
use Rattle.block_forms.proofs.Entries.{head_filled, entry_filled, dir_done}
use Rattle.block_forms.proofs.spell_directory.Goals as goal

pub loop-i-init : goal.loop-i-init
loop-i-init c = let head = head_filled c.args.level c.args.count (ap bits_in c.requires.zero) c.put_bits.ensures c.put_bits-2.ensures c.put_bits-3.ensures
    c.put_bits-4.ensures in (
      omega (arith, c.put_bits-4.auto, c.put_bits-3.auto, c.put_bits-2.auto, c.put_bits.auto, c.requires.size),
      ((λ j. omega (arith, c.type_inv.block j)), head),
    )

pub loop-i-preserved : goal.loop-i-preserved
loop-i-preserved c = let p = c.loop-i in
    let a = c.args in
    let i : p.i < a.count = omega (arith, c.loop-i-test.true, length-take {A = ℕ}) in
    let entry : c.from.result ≡ get_or a.entries.now p.i 0 = c.from.ensures ∙ get_or-take a.count a.entries.now p.i 0 i in
    let more = entry_filled a.level a.count a.entries.now p.i (omega (arith, c.requires.there)) (omega (arith, c.requires.few)) p.invariant.1.1 entry c.put_bits-in-loop-i.ensures in
    (omega (arith, c.put_bits-in-loop-i.auto, p.invariant.0), ((λ j. omega (arith, c.type_inv.block j)), more))

pub returns : goal.returns
returns c = let p = c.loop-i in let a = c.args in
    let e : p.i ≡ a.count = omega (arith, c.requires.there, length-take {A = ℕ}) in
    dir_done a.level a.count a.entries.now p.block c.requires.there p.invariant.0 p.invariant.1.0 (rw e at p.invariant.1.1)
