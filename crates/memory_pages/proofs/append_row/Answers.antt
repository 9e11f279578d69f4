-- `memory_pages::append_row` meets its contract: `row_inserted` for the last page, behind which there is no page to start later.
use Rattle.basics.proofs.Kit.{refl, [], ◌∷◌, length-append, arith}
use Rattle.memory_layout.proofs.Laws.{entries_length, rows_length}
use Rattle.memory_rows.specs.Rows.{held_by}
use Rattle.memory_layout.specs.Flat.{flat_of}
use Rattle.memory_pages.proofs.Moves.{row_inserted}
use Rattle.memory_bytes.proofs.Moves.{add_start}
use Rattle.memory_pages.proofs.Ranges.{head_capacity}
use Rattle.memory_pages.proofs.append_row.Goals as goal

pub returns : goal.returns
returns c = let m = c.args.m.now in let h = held_by c.args.row c.args.payload.now in (
  row_inserted c.requires.new.room (omega (arith, entries_length m, c.requires.page)) c.append_row.ensures.0 refl refl (add_start _ _ _ 1)
      (omega (arith, entries_length m, c.requires.page)) (omega (arith, length-append (flat_of m).rows (h ∷ []), rows_length m))
      (omega (arith, c.requires.new.more, rows_length m, head_capacity m)),
  c.append_row.ensures.1,
)
