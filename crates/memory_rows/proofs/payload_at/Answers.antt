-- `memory_rows::payload_at` meets its contract: the payload stands in the row's slot from byte 8 on, as long as the state says (`payload_is`).
use Rattle.memory_rows.proofs.Access.{payload_is}
use Rattle.memory_layout.specs.Views.{length_of}
use Rattle.memory_bytes.proofs.Bytes.{length_bytes}
use Rattle.memory_bytes.specs.Bytes.{bytes}
use Rattle.basics.proofs.Kit.{sym, ap, ◌∙◌, ◌+◌, length, arith}
use Rattle.memory_rows.proofs.payload_at.Goals as goal

pub returns : goal.returns
returns c = let m = c.args.m.now in let a = c.slot_place-a in let n = c.length_of in
    let e = (λ j. bytes m (a.ensures.0 j + 8) ((n.ensures.0 ∙ ap length_of c.state_at.ensures) j)) ∙ sym (payload_is m c.args.i c.requires.1) in
    record { inside = omega arith; count = sym (length_bytes m (a.result + 8) n.result) ∙ ap length e; here = e }
