-- `log_records::put_place` meets its contract: three bytes, then the key's four (`place_put`).
use Rattle.basics.proofs.Kit.{◌∙◌, ◌+◌, ◌*◌, ◌%◌, ◌/◌}
use Rattle.log_records.proofs.Stores.{place_put}
use Rattle.log_records.proofs.put_place.Goals as goal

pub returns : goal.returns
returns c = let a = c.args in
    c.put4.ensures ∙ place_put a.part.now (a.transaction % 256) (a.table * 32 + a.len / 2) (a.len % 2 * 128) a.key c.requires.size
