-- `log_records::put_delete` meets its contract: the place fills what is lent (`over_whole`).
use Rattle.basics.proofs.Kit.{arith}
use Rattle.block_forms.specs.Numbers.{be4}
use Rattle.log_records.specs.Bytes.{place_rest}
use Rattle.log_records.proofs.Stores.{over_whole}
use Rattle.log_records.proofs.put_delete.Goals as goal

pub returns : goal.returns
unfolding be4
returns c = let a = c.args in
    rw (c.first_byte.ensures, c.put_place.ensures)
    (rw (over_whole a.part.now (place_rest a.transaction a.table 0 a.key) (omega (arith, c.requires.size))))
