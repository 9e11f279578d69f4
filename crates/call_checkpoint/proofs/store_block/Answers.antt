-- `call_checkpoint::store_block` meets its contract: what `write_block` answers and leaves, and one block less is left (`block_less`).
use Rattle.basics.proofs.Kit.{◌≡◌, ap, ◌-◌, arith}
use Rattle.engine_allocator.specs.declared.Allocator.{Allocator}
use Rattle.engine_allocator.specs.Blocks.{allocator_in}
use Rattle.call_checkpoint.proofs.Allotting.{block_less}
use Rattle.call_checkpoint.proofs.store_block.Goals as goal

pub returns : goal.returns
returns c =
    let w = c.write_block-a.ensures in
    let less = block_less c.requires.0.ready.runs c.requires.0.some_left w.0 in
    let e : c.args.a.now.left - 1 ≡ (allocator_in c.write_block-a.new.m).left = omega (arith, ap (λ (a : Allocator). a.left) c.requires.1, less) in
    (w.0, λ i. record { taken = w.1 i; left = e i })
