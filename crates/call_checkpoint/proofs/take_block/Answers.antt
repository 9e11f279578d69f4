-- `call_checkpoint::take_block` meets its contract: the head has the block as the one last taken, and its bit is set (`took`).
use Rattle.basics.proofs.Kit.{refl, ap, arith}
use Rattle.memory_layout.specs.declared.Head.{Head}
use Rattle.call_checkpoint.proofs.Leaving.{took}
use Rattle.call_checkpoint.proofs.Beginning.{head_replaces}
use Rattle.call_checkpoint.proofs.take_block.Goals as goal

pub put_head-requires : goal.put_head-requires
put_head-requires c = let g = c.get_head-h in
    let p = c.requires in
    (p.0, head_replaces _ _ _ p.0 g.ensures refl refl (omega (arith, p.1, ap (λ (h : Head). h.blocks) g.ensures)))

pub returns : goal.returns
returns c = took _ _ c.get_head-h.ensures c.put_head.ensures c.mark_used.ensures
