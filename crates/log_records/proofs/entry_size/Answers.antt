-- `log_records::entry_size` meets its contract, by what stands there.
use Rattle.basics.proofs.Kit.{sym, ap, ◌∙◌, ⊎_elim}
use Rattle.log_records.specs.Entries.{entry_size}
use Rattle.log_records.proofs.entry_size.Goals as goal

pub returns-in-End : goal.returns-in-End
unfolding entry_size
returns-in-End c = ⊎_elim (λ h. sym (ap entry_size h)) (λ h. sym (ap entry_size h)) c.in-End.is

pub returns-in-Call : goal.returns-in-Call
unfolding entry_size
returns-in-Call c = c.change_size.ensures ∙ sym (ap entry_size c.in-Call.is)

pub returns-in-Mark : goal.returns-in-Mark
unfolding entry_size
returns-in-Mark c = c.mark_size.ensures ∙ sym (ap entry_size c.in-Mark.is)
