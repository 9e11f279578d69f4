-- `memory_rows::insert_row` meets its contract: the slot is filled, the rows from row i on go one up, the cells and the count are written (`inserted`).
use Rattle.memory_bytes.specs.Columns.{slot_limit}
use Rattle.memory_rows.proofs.Inserting.{inserted}
use Rattle.memory_layout.specs.Views.{head_of}
use Rattle.basics.proofs.Kit.{ap, ℕ, ◌+◌, ◌*◌, arith}
use Rattle.memory_rows.proofs.insert_row.Goals as goal

pub free_slot-s-requires : goal.free_slot-s-requires
unfolding head_of
free_slot-s-requires c = (c.requires.room, c.requires.more)

pub raise_rows-requires : goal.raise_rows-requires
unfolding head_of
raise_rows-requires c = let cap = c.capacity-c.ensures in
    let n = c.row_count-n.ensures in
    record {
      fit = record { most = cap.most; long = omega (arith, cap.long, c.fill_slot.ensures.apart.size) };
      order = omega (arith, n, c.requires.at);
      space = omega (arith, n, cap.is, c.requires.more);
    }

pub put_cells-requires : goal.put_cells-requires
unfolding head_of
put_cells-requires c = let cap = c.capacity-c.ensures in (
  record { most = cap.most; long = omega (arith, cap.long, c.fill_slot.ensures.apart.size, c.raise_rows.ensures.only.size) },
  omega (arith, cap.is, c.requires.at, c.requires.more),
)

pub returns : goal.returns
unfolding head_of
returns c = let cap = c.capacity-c.ensures in
    let n = c.row_count-n.ensures in let s = c.free_slot-s in
    inserted c.args.row cap n (omega (arith, n, c.requires.at)) (omega (arith, n, cap.is, c.requires.more)) c.requires.owner c.requires.payload
    (omega (arith, cap.is, s.ensures.0)) s.ensures.1
    c.word_of.ensures (ap (λ (z : ℕ). s.result + z * slot_limit) c.from.ensures) c.flags_of-state.ensures
    c.fill_slot.ensures c.raise_rows.ensures c.put_cells.ensures c.put4.ensures
