-- `memory_rows::set_pending` meets its contract: the two bytes that are written are the row's slot and pending operation (`pends`).
use Rattle.memory_bytes.specs.Columns.{slot_limit}
use Rattle.memory_rows.proofs.Exchange.{pends}
use Rattle.memory_rows.specs.Cells.{code_of}
use Rattle.memory_rows.specs.declared.Pending.{Pending}
use Rattle.memory_rows.specs.declared.Pending.TheVariants.{Nothing, Adding, Committing, Removing}
use Rattle.basics.proofs.Kit.{◌<◌, ◌+◌, ◌*◌, ◌%◌, arith}
use Rattle.memory_rows.proofs.set_pending.Goals as goal

-- the number of an operation has two bits
code_small : (p : Pending) → code_of p < 4
code_small Nothing = omega arith
code_small Adding = omega arith
code_small Committing = omega arith
code_small Removing = omega arith

pub returns : goal.returns
returns c = let a = c.ref_place-a in let code = c.from.ensures in
    pends c.requires.0 c.args.i c.requires.1 c.args.p a.ensures.0 (code_small c.args.p)
    (λ y. c.get2-s.ensures y % slot_limit + code y * slot_limit) c.put2.ensures
