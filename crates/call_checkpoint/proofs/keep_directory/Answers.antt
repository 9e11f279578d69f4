-- `call_checkpoint::keep_directory` meets its contract: the block is in use and the list of directory blocks has it last, which is the model's store.
use Rattle.basics.proofs.Kit.{ap, length, arith}
use Rattle.memory_layout.specs.Flat.{Flat}
use Rattle.memory_layout.proofs.Laws.{holds_room}
use Rattle.call_checkpoint.proofs.Leaving.{directory_holds}
use Rattle.call_checkpoint.proofs.keep_directory.Goals as goal

pub take_block-requires : goal.take_block-requires
take_block-requires c = (holds_room _ c.requires.0.runs.has_store, c.requires.0.inside)

pub push_directory-requires : goal.push_directory-requires
push_directory-requires c = let b = c.take_block.ensures in
    let p = c.requires in (
      b.room,
      record {
        few = omega (arith, p.1, ap (λ (f : Flat). length f.directories) b.flat);
        fits = omega (arith, p.0.inside, (holds_room _ p.0.runs.has_store).range.many);
      },
    )

pub returns : goal.returns
returns c = directory_holds _ c.requires.0.runs c.take_block.ensures c.push_directory.ensures
