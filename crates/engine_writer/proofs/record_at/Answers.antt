-- `engine_writer::record_at` meets its contract: field by field (`row_spells`).
use Rattle.engine_writer.proofs.Recorded.{row_spells}
use Rattle.engine_writer.proofs.record_at.Goals as goal

pub returns : goal.returns
returns c = row_spells c.payload_at-p.ensures c.key_at.ensures c.number_at.ensures c.owner_at-owner.ensures c.mark_at.ensures
