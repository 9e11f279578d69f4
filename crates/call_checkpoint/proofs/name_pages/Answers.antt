-- `call_checkpoint::name_pages` meets its contract. The invariant: the list has the blocks of the first p pages (`Naming`).
use Rattle.basics.proofs.Kit.{arith}
use Rattle.memory_layout.proofs.Laws.{pages_read, holds_room, sizes}
use Rattle.call_checkpoint.proofs.Beginning.{naming_start, naming_in, naming_room, naming_low, naming_iteration, naming_end}
use Rattle.call_checkpoint.proofs.name_pages.Goals as goal

pub get_counts-c-requires : goal.get_counts-c-requires
get_counts-c-requires c = (sizes (holds_room _ c.requires.0)).long

pub loop-p-init : goal.loop-p-init
loop-p-init c = let m = c.args.m.now in
    naming_start m (holds_room _ c.requires.0) c.requires.1

pub block_at-b-requires : goal.block_at-b-requires
block_at-b-requires c = let l = c.loop-p in (l.invariant.becomes.room, naming_in l.invariant (omega (arith, c.loop-p-test.true, pages_read _ c.get_counts-c.ensures)))

pub push_named-requires : goal.push_named-requires
push_named-requires c = let l = c.loop-p in (
  l.invariant.becomes.room,
  record {
    few = naming_room l.invariant (omega (arith, c.loop-p-test.true, pages_read _ c.get_counts-c.ensures)) c.requires.0;
    fits = naming_low l.invariant (omega (arith, c.loop-p-test.true, pages_read _ c.get_counts-c.ensures)) c.block_at-b.ensures;
  },
)

pub loop-p-preserved : goal.loop-p-preserved
loop-p-preserved c = naming_iteration c.loop-p.invariant (omega (arith, c.loop-p-test.true, pages_read _ c.get_counts-c.ensures)) c.block_at-b.ensures c.push_named.ensures

pub returns : goal.returns
returns c = naming_end c.loop-p.invariant (omega (arith, c.loop-p-test.false, pages_read _ c.get_counts-c.ensures))
