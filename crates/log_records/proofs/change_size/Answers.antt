-- `log_records::change_size` meets its contract, kind by kind.
use Rattle.basics.proofs.Kit.{sym, ap, ⊎_elim}
use Rattle.log_records.specs.Entries.{change_size}
use Rattle.log_records.proofs.change_size.Goals as goal

pub returns-in-Insert : goal.returns-in-Insert
unfolding change_size
returns-in-Insert c = ⊎_elim (λ h. sym (ap change_size h.3)) (λ h. sym (ap change_size h.3)) c.in-Insert.is

pub returns-in-Delete : goal.returns-in-Delete
unfolding change_size
returns-in-Delete c = sym (ap change_size c.in-Delete.is)

pub returns-in-Open : goal.returns-in-Open
unfolding change_size
returns-in-Open c = ⊎_elim (λ h. sym (ap change_size h.1)) (⊎_elim (λ h. sym (ap change_size h.1)) (λ h. sym (ap change_size h.1))) c.in-Open.is
