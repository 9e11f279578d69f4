-- `memory_rows::slots::fill_slot` meets its contract: number, owner and payload are written one after the other (`slot_filled`).
use Rattle.memory_rows.proofs.Moving.{slot_filled}
use Rattle.basics.proofs.Kit.{arith}
use Rattle.memory_rows.proofs.slots.fill_slot.Goals as goal

pub returns : goal.returns
returns c = slot_filled c.slot_at-a.ensures (omega arith) (omega arith) c.requires.payload c.put4.ensures c.put4-2.ensures c.write.ensures
