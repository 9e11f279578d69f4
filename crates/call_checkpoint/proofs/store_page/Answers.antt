-- `call_checkpoint::store_page` meets its contract: the part of the image that is lent is the free block's (`back_is`), and image and store are the model's (`page_does`).
use Rattle.basics.proofs.Kit.{ap, ◌+◌, length-take, length-drop, arith}
use Rattle.model.specs.Checkpoint.{with_progress}
use Rattle.memory_layout.specs.declared.Head.{Head}
use Rattle.memory_layout.proofs.Laws.{holds_room, sizes}
use Rattle.engine_pages.proofs.Places.{page_in_lem, start_there, next_there, page_span}
use Rattle.call_checkpoint.proofs.Running.{running_is}
use Rattle.call_checkpoint.proofs.Stepping.{back_is, page_does}
use Rattle.call_checkpoint.proofs.Allotting.{taken_now}
use Rattle.call_checkpoint.proofs.store_page.Goals as goal

pub get_head-h-requires : goal.get_head-h-requires
get_head-h-requires c = (sizes (holds_room _ c.requires.0.ready.runs.has_store)).long

pub table_of-t-requires : goal.table_of-t-requires
table_of-t-requires c = page_in_lem c.requires.0.first_frozen.there

pub start_of-s-requires : goal.start_of-s-requires
start_of-s-requires c = start_there c.requires.0.first_frozen.there

pub overflow_add-p : goal.overflow_add-p
overflow_add-p c = let o = c.requires.0.first_frozen.there in omega (arith, o.inside, sizes (holds_room _ o.has_store))

pub start_of-e-requires : goal.start_of-e-requires
start_of-e-requires c = next_there c.requires.0.first_frozen.there

pub allocate-b-requires : goal.allocate-b-requires
allocate-b-requires c = let p = c.requires in (holds_room _ p.0.ready.runs.has_store, p.1)

pub overflow_add-h : goal.overflow_add-h
overflow_add-h c = record { fits = omega (arith, (running_is _ c.requires.0.ready.runs.on).1, ap (λ (h : Head). h.level) c.get_head-h.ensures) }

pub write_page-requires : goal.write_page-requires
write_page-requires c = let p = c.requires in
    let w = page_span p.0.first_frozen.there c.start_of-s.ensures.0 c.start_of-e.ensures.0 in
    record {
      rows = w;
      table = c.table_of-t.ensures.1;
      size = simp (length-take, length-drop) (omega (arith, p.0.ready.long, c.allocate-b.ensures.1));
    }

pub overflow_cast-block : goal.overflow_cast-block
overflow_cast-block c = let p = c.requires in
    record { fits = omega (arith, c.allocate-b.ensures.1, sizes (holds_room _ p.0.ready.runs.has_store)) }

pub keep_page-requires : goal.keep_page-requires
keep_page-requires c = let p = c.requires in
    (record { runs = p.0.ready.runs; inside = omega (arith, c.allocate-b.ensures.1) }, p.0.first_frozen)

pub returns : goal.returns
unfolding with_progress
returns c = let k = c.keep_page.ensures in (
  page_does c.requires.0.ready.runs _ _ _ _ _ _ c.requires.0.first_frozen c.allocate-b.ensures.0 c.table_of-t.ensures.0 c.start_of-s.ensures.0
      c.start_of-e.ensures.0 (ap (λ (x : Head). x.level + 1) c.get_head-h.ensures)
      c.write_page.ensures (back_is _ _ _) k,
  taken_now k,
)
