-- `memory_rows::append_row` meets its contract: the row is inserted behind all others (`appended`), and each is in the slot of its own index (`in_order`).
use Rattle.memory_bytes.specs.Columns.{slot_limit}
use Rattle.memory_rows.proofs.Appending.{appended, in_order}
use Rattle.memory_layout.specs.Views.{head_of}
use Rattle.basics.proofs.Kit.{ap, ℕ, ◌+◌, ◌*◌, ◌<◌, arith}
use Rattle.memory_rows.proofs.append_row.Goals as goal

pub put_cells-requires : goal.put_cells-requires
unfolding head_of
put_cells-requires c = let cap = c.capacity-c.ensures in
    (record { most = cap.most; long = omega (arith, cap.long, c.fill_slot.ensures.apart.size) }, omega (arith, cap.is, c.row_count-n.ensures, c.requires.0.more))

pub returns : goal.returns
unfolding head_of
returns c = let cap = c.capacity-c.ensures in let n = c.row_count-n in let pre = c.requires.0 in
    let full : n.result < c.capacity-c.result = omega (arith, n.ensures, cap.is, pre.more) in
    let word = c.word_of.ensures in
    let ref = ap (λ (z : ℕ). n.result + z * slot_limit) c.from.ensures in
    let state = c.flags_of-state.ensures in (
      appended c.args.row cap n.ensures full pre.owner pre.payload c.requires.1 word ref state
          c.fill_slot.ensures c.put_cells.ensures c.put4.ensures,
      in_order c.args.row cap n.ensures full pre.owner pre.payload c.requires.1 word ref state
          c.fill_slot.ensures c.put_cells.ensures c.put4.ensures,
    )
