-- `call_checkpoint::store_directory` meets its contract: the part of the image that is lent is the free block's (`back_is`), and image and store are the model's (`directory_does`).
use Rattle.basics.proofs.Kit.{ap, ◌+◌, length-take, length-drop, arith}
use Rattle.model.specs.Checkpoint.{with_progress}
use Rattle.memory_layout.specs.declared.Head.{Head}
use Rattle.memory_layout.proofs.Laws.{directories_read, holds_room, sizes}
use Rattle.image.specs.Stages.{directories_for}
use Rattle.call_checkpoint.proofs.Allotting.{taken_now}
use Rattle.call_checkpoint.proofs.Stepping.{back_is, directory_does}
use Rattle.call_checkpoint.proofs.Running.{running_is}
use Rattle.call_checkpoint.proofs.store_directory.Goals as goal

pub get_head-h-requires : goal.get_head-h-requires
get_head-h-requires c = (sizes (holds_room _ c.requires.0.ready.runs.has_store)).long

pub get_counts-c-requires : goal.get_counts-c-requires
get_counts-c-requires c = (sizes (holds_room _ c.requires.0.ready.runs.has_store)).long

pub allocate-b-requires : goal.allocate-b-requires
allocate-b-requires c = let p = c.requires in (holds_room _ p.0.ready.runs.has_store, p.1)

pub overflow_add-h : goal.overflow_add-h
overflow_add-h c = record { fits = omega (arith, (running_is _ c.requires.0.ready.runs.on).1, ap (λ (h : Head). h.level) c.get_head-h.ensures) }

pub write_directory-requires : goal.write_directory-requires
unfolding directories_for
write_directory-requires c = let p = c.requires in (
  holds_room _ p.0.ready.runs.has_store,
  record {
    start = omega (arith, p.0.short, directories_read _ c.get_counts-c.ensures);
    size = simp (length-take, length-drop) (omega (arith, p.0.ready.long, c.allocate-b.ensures.1));
  },
)

pub overflow_cast-block : goal.overflow_cast-block
overflow_cast-block c = record { fits = omega (arith, c.allocate-b.ensures.1, sizes (holds_room _ c.requires.0.ready.runs.has_store)) }

pub keep_directory-requires : goal.keep_directory-requires
unfolding directories_for
keep_directory-requires c = let p = c.requires in
    (record { runs = p.0.ready.runs; inside = omega (arith, c.allocate-b.ensures.1) }, omega (arith, p.0.short, sizes (holds_room _ p.0.ready.runs.has_store)))

pub returns : goal.returns
unfolding with_progress
returns c = let k = c.keep_directory.ensures in (
  directory_does c.requires.0.ready.runs c.requires.0.none_frozen _ _ _ c.requires.0.short c.allocate-b.ensures.0 (directories_read _ c.get_counts-c.ensures)
      (ap (λ (x : Head). x.level + 1) c.get_head-h.ensures) c.write_directory.ensures
      (back_is _ _ _) k,
  taken_now k,
)
