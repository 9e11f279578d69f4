-- `call_checkpoint::keep_header` meets its contract: the blocks named are those in use, and the head is that of an idle store at the next level.
use Rattle.basics.proofs.Kit.{refl, ap, arith}
use Rattle.memory_layout.specs.declared.Head.{Head}
use Rattle.memory_layout.proofs.Laws.{holds_room}
use Rattle.call_checkpoint.proofs.Leaving.{header_low, header_holds}
use Rattle.call_checkpoint.proofs.Beginning.{head_replaces, taken_low}
use Rattle.call_checkpoint.proofs.keep_header.Goals as goal

pub clear_used-requires : goal.clear_used-requires
clear_used-requires c = holds_room _ c.requires.has_store

pub overflow_add-h : goal.overflow_add-h
overflow_add-h c = record { fits = omega (arith, header_low c.requires c.clear_used.ensures c.mark_named.ensures, ap (λ (h : Head). h.level) c.get_head-h.ensures) }

pub put_head-requires : goal.put_head-requires
put_head-requires c = let g = c.get_head-h in
    let r = c.mark_named.ensures.becomes.room in
    (r, head_replaces _ _ _ r g.ensures refl refl (taken_low _ _ r g.ensures))

pub returns : goal.returns
returns c = let g = c.get_head-h in
    header_holds c.requires c.clear_used.ensures c.mark_named.ensures _ g.ensures _ c.put_head.ensures
