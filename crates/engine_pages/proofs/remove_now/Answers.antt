-- `engine_pages::remove_now` meets its contract: an empty page is dropped (`now_none`), another is joined as it may be (`now_joined`).
use Rattle.basics.proofs.Kit.{sym, ◌∙◌, ◌<◌, arith}
use Rattle.basics.proofs.Numbers.{less_than}
use Rattle.engine_pages.specs.Pages.{entry_of}
use Rattle.engine_pages.proofs.Places.{has_row}
use Rattle.engine_pages.proofs.Removing.{may_lose, less_there, less_empty, now_none, now_there, now_joined}
use Rattle.engine_pages.proofs.remove_now.Goals as goal

pub remove_row-requires : goal.remove_row-requires
remove_row-requires c = may_lose c.requires

pub remove_page-requires : goal.remove_page-requires
remove_page-requires c = let g = c.requires in let u = c.remove_row.ensures in
    (u.room, record { place = less_there g u; empty = less_empty g u (sym c.count_at-n.ensures ∙ c.if-n-eq1.true) })

pub returns-then-n-eq1 : goal.returns-then-n-eq1
returns-then-n-eq1 c = now_none c.requires c.remove_row.ensures (sym c.count_at-n.ensures ∙ c.if-n-eq1.true) c.remove_page.ensures

pub set_page-requires : goal.set_page-requires
set_page-requires c = let u = c.remove_row.ensures in (u.room, record { place = less_there c.requires u; block = omega arith })

pub join-requires : goal.join-requires
join-requires c = let two : 1 < (entry_of c.args.m.now c.args.p).count = less_than (has_row c.requires.there) (λ z. c.if-n-eq1.false (c.count_at-n.ensures ∙ sym z)) in
    now_there c.requires c.remove_row.ensures (two) c.set_page.ensures

pub returns : goal.returns
returns c = let two : 1 < (entry_of c.args.m.now c.args.p).count = less_than (has_row c.requires.there) (λ z. c.if-n-eq1.false (c.count_at-n.ensures ∙ sym z)) in
    now_joined c.requires c.remove_row.ensures (two) c.set_page.ensures c.join.result c.join.ensures
