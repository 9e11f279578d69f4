-- `log_records::put_tuple` meets its contract: the place, then the payload (`tuple_put`).
use Rattle.log_records.proofs.Stores.{tuple_put}
use Rattle.log_records.proofs.put_tuple.Goals as goal

pub returns : goal.returns
returns c = let a = c.args in
    rw (c.first_byte.ensures, tuple_put a.part.now a.payload.now a.transaction a.table a.key c.put_place.ensures c.copy.ensures c.requires.size)
