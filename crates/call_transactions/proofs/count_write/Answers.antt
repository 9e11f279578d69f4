-- `call_transactions::count_write` meets its contract: the head's next number and the entry, one after the other (`counted`).
use Rattle.basics.proofs.Kit.{◌≡◌, sym, ap, ◌∙◌, arith}
use Rattle.memory_layout.specs.declared.Head.{Head}
use Rattle.model.specs.Transactions.{one_more}
use Rattle.call_transactions.proofs.Writing.{next_replaces, same_opens, counted}
use Rattle.call_transactions.proofs.count_write.Goals as goal

pub overflow_add-h : goal.overflow_add-h
overflow_add-h c = let e = ap (λ (x : Head). x.next) c.get_head-h.ensures in
    let ne : c.get_head-h.result.next ≡ 4294967295 → ⊥ = λ q. c.requires.next (sym e ∙ q) in
    omega (arith, ne)

pub one_more-o-requires : goal.one_more-o-requires
one_more-o-requires c = c.get_open.ensures.1

pub put_head-requires : goal.put_head-requires
put_head-requires c = (c.requires.room, next_replaces c.requires.room c.get_head-h.ensures)

pub put_open-requires : goal.put_open-requires
put_open-requires c = (c.put_head.ensures.room, record { inside = omega (arith, c.requires.inside, same_opens c.put_head.ensures); fits = c.one_more-o.ensures.1 })

pub returns : goal.returns
returns c = let more = c.one_more-o.ensures.0 ∙ ap one_more c.get_open.ensures.0 in
    counted _ c.get_head-h.ensures more c.put_head.ensures c.put_open.ensures
