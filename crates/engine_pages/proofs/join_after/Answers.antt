-- `engine_pages::join_after` meets its contract: nothing changes without a successor or if the two may not join; else they are joined (`next_joins`).
use Rattle.basics.proofs.Kit.{sym, ◌∙◌, ◌+◌, ◌<◌, length, arith}
use Rattle.memory_layout.specs.Flat.{flat_of}
use Rattle.memory_layout.proofs.Laws.{pages_read, sizes}
use Rattle.engine_pages.proofs.Places.{now_to, room}
use Rattle.engine_pages.proofs.Around.{next_none, next_joins, next_apart}
use Rattle.engine_pages.proofs.Joining.{tried, not_tried, next_at, may_join, joined_now}
use Rattle.engine_pages.proofs.join_after.Goals as goal

pub overflow_add-p : goal.overflow_add-p
overflow_add-p c = let a = c.requires in omega (arith, a.inside, (sizes (room a)).pages)

pub returns-then-n-p : goal.returns-then-n-p
returns-then-n-p c = not_tried (next_none c.requires (omega (arith, pages_read c.args.m.now c.get_counts-n.ensures, c.if-n-p.true)))

pub joinable-requires : goal.joinable-requires
joinable-requires c = let inside : c.args.p + 1 < length (flat_of c.args.m.now).entries = omega (arith, pages_read c.args.m.now c.get_counts-n.ensures, c.if-n-p.false) in
    (c.requires, inside)

pub returns-then-not-joinable : goal.returns-then-not-joinable
returns-then-not-joinable c = let inside : c.args.p + 1 < length (flat_of c.args.m.now).entries = omega (arith, pages_read c.args.m.now c.get_counts-n.ensures, c.if-n-p.false) in
    let a = c.requires in
    not_tried (next_apart a (next_at a (inside)) (sym c.joinable.ensures ∙ c.if-not-joinable.true))

pub join_pages-requires : goal.join_pages-requires
join_pages-requires c = let inside : c.args.p + 1 < length (flat_of c.args.m.now).entries = omega (arith, pages_read c.args.m.now c.get_counts-n.ensures, c.if-n-p.false) in
    may_join c.requires (inside) (sym c.joinable.ensures ∙ c.if-not-joinable.false)

pub returns : goal.returns
returns c = let inside : c.args.p + 1 < length (flat_of c.args.m.now).entries = omega (arith, pages_read c.args.m.now c.get_counts-n.ensures, c.if-n-p.false) in
    let a = c.requires in let lt = inside in
    let j = sym c.joinable.ensures ∙ c.if-not-joinable.false in
    tried (λ rest. now_to (joined_now a lt j c.join_pages.ensures) (sym (next_joins a (next_at a lt) j rest)))

pub get_counts-n-requires : goal.get_counts-n-requires
get_counts-n-requires c = (sizes (room c.requires)).long
