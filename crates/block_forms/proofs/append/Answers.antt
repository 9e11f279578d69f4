-- `block_forms::append` meets its contract: the head's bytes, the owner's word if there is one and the payload stand behind each other (`appends`).
use Rattle.basics.proofs.Kit.{◌≡◌, refl, ◌∙◌, ◌+◌, length, arith}
use Rattle.block_forms.specs.Bytes.{payload_in}
use Rattle.block_forms.proofs.Stores.{appended_tentative, appended_committed, size_tentative, size_committed, size_nine}
use Rattle.basics.proofs.Overs.{length_part, set_over, part_over}
use Rattle.block_forms.proofs.Built.{appends}
use Rattle.block_forms.proofs.append.Goals as goal
use Rattle.block_forms.proofs.append.Goals.{in-Committed, in-Tentative}

pub put4-requires : goal.put4-requires
put4-requires c = omega (arith, size_nine c.args.r, c.requires.room)

pub put4-requires-2 : goal.put4-requires-2
put4-requires-2 c = omega (arith, size_nine c.args.r, c.requires.room)

pub bounds-block-at : goal.bounds-block-at
bounds-block-at c = omega (arith, size_nine c.args.r, c.requires.room)

pub put4-requires-in-Tentative : goal.put4-requires-in-Tentative
put4-requires-in-Tentative c = omega (arith, size_tentative c.args.r c.in-Tentative.is, c.requires.room)

pub slice_bounds-copy_from_slice-end : goal.slice_bounds-copy_from_slice-end
slice_bounds-copy_from_slice-end c = elim c.match-r.branch [
  | in-Committed w ↦ omega (arith, size_committed c.args.r w.in-Committed.is, c.requires.room, w.payload-is)
  | in-Tentative w ↦ omega (arith, size_tentative c.args.r w.in-Tentative.is, c.requires.room, w.payload-is)
]

pub returns : goal.returns
returns c = let r = c.args.r in
    let room = c.requires.room in
    let l : length (payload_in c.args.from.now r) ≡ r.len = length_part r.len r.start c.args.from.now c.requires.inside in
    let put = part_over c.match-r.block c.args.from.now c.match-r.payload (c.match-r.payload + r.len) r.start r.len c.copy_from_slice.ensures.after c.requires.inside refl in
    let flags = set_over c.put4-2.new.block (c.args.at + 8) c.flags_of.result (omega (arith, size_nine r, room)) in elim c.match-r.branch [
      | in-Committed w ↦
          let o = w.in-Committed.is in
          appends c.requires (omega (arith, size_committed r o, w.payload-is))
          (appended_committed c.args.block.now _ c.args.at r l c.put4.ensures c.put4-2.ensures c.flags_of.ensures (w.block-is ∙ flags) o w.payload-is put (omega (arith, size_committed r o, room)))
      | in-Tentative w ↦
          let o = w.in-Tentative.is in
          appends c.requires (omega (arith, size_tentative r o, w.payload-is))
          (appended_tentative c.args.block.now _ c.args.at r l c.put4.ensures c.put4-2.ensures c.flags_of.ensures flags
          o w.word_of.ensures (w.block-is ∙ w.put4-in-Tentative.ensures) w.payload-is put (omega (arith, size_tentative r o, room)))
    ]
