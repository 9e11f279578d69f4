-- `log_records::mark_transaction` meets its contract: a field of what is left.
use Rattle.basics.proofs.Kit.{◌∙◌, ap, ◌+◌, ◌*◌}
use Rattle.block_bits.specs.Bits.{bits_in, field}
use Rattle.log_records.proofs.Stores.{rest_part}
use Rattle.log_records.proofs.mark_transaction.Goals as goal

pub returns : goal.returns
returns c = let a = c.args in c.get_bits.ensures.0 ∙ ap (λ z. field (bits_in z) (48 + 12 * a.i) 12) (rest_part a.log.now a.at)
