-- `memory_layout::put_head` meets its contract: seven numbers are written one after the other, and no other byte (`head_put`).
use Rattle.memory_layout.proofs.HeadLists.{head_put}
use Rattle.memory_bytes.proofs.Scans.{as_number}
use Rattle.basics.proofs.Kit.{arith}
use Rattle.memory_layout.proofs.put_head.Goals as goal

pub returns : goal.returns
returns c = head_put c.args.h c.requires.0 c.requires.1 (omega (arith, c.well_formed.1.0)) (omega (arith, c.well_formed.1.0)) (omega (arith, c.well_formed.1.0)) (as_number c.args.h.running c.from.ensures)
    c.put4.ensures c.put4-2.ensures c.put4-3.ensures c.put4-4.ensures c.put4-5.ensures c.put4-6.ensures c.put4-7.ensures
