use Rattle.basics.proofs.Kit.{map, take}
use Rattle.block_forms.specs.Block.{as_page}
use Rattle.block_forms.specs.Decode.{decode_block}
use Rattle.block_reader.proofs.Walk.{Walk}
use Rattle.model.specs.Rules.{without_pending}
use Rattle.call_recovery.specs.Loading.{tuples_in, Fills}
use Rattle.call_recovery.proofs.load_rows.Given as goal

abbrev pub invariant-loop-i : goal.invariant-loop-i
invariant-loop-i l = let ts = tuples_in (as_page (decode_block l.block)) in Walk l.block ts l.cursor.at l.i × Fills (map without_pending (take l.i ts)) l.initial.m l.m
