-- `log_records::put_behind` meets its contract, change by change.
use Rattle.basics.proofs.Kit.{◌≡◌, sym, ap, ◌∙◌, subst, List, ℕ}
use Rattle.log_records.specs.Records.{encode_record}
use Rattle.log_records.specs.Entries.{change_is, ChangePart}
use Rattle.log_records.specs.declared.Change.{Change}
use Rattle.log_records.proofs.Changes.{Written, open_part, insert_part, replace_part, delete_part, commit_part, abort_part}
use Rattle.log_records.proofs.put_behind.Goals as goal

-- what is asked, of the change that it is
given : {part bs : List ℕ} {c d : Change} → c ≡ d → ChangePart part c bs → ChangePart part d bs
given {part} {bs} e p = subst (λ z. ChangePart part z bs) e p

-- the bytes of its record
wrote : {bs xs : List ℕ} {c d : Change} {A : Type 0} → c ≡ d → Written d bs xs A → xs ≡ encode_record (change_is c bs)
wrote {bs} e w = sym w.bytes ∙ sym (ap (λ z. encode_record (change_is z bs)) e)

pub put_short-requires : goal.put_short-requires
put_short-requires c = (open_part (given c.in-Open.is c.requires)).asked

pub put_tuple-requires : goal.put_tuple-requires
put_tuple-requires c = (insert_part (given c.in-Insert.is c.requires)).asked

pub put_tuple-requires-in-Replace : goal.put_tuple-requires-in-Replace
put_tuple-requires-in-Replace c = (replace_part (given c.in-Replace.is c.requires)).asked

pub put_delete-requires : goal.put_delete-requires
put_delete-requires c = (delete_part (given c.in-Delete.is c.requires)).asked

pub put_short-requires-in-Commit : goal.put_short-requires-in-Commit
put_short-requires-in-Commit c = (commit_part (given c.in-Commit.is c.requires)).asked

pub put_short-requires-in-Abort : goal.put_short-requires-in-Abort
put_short-requires-in-Abort c = (abort_part (given c.in-Abort.is c.requires)).asked

pub returns-in-Open : goal.returns-in-Open
returns-in-Open c = let e = c.in-Open.is in c.put_short.ensures ∙ wrote e (open_part (given e c.requires))

pub returns-in-Insert : goal.returns-in-Insert
returns-in-Insert c = let e = c.in-Insert.is in c.put_tuple.ensures ∙ wrote e (insert_part (given e c.requires))

pub returns-in-Replace : goal.returns-in-Replace
returns-in-Replace c = let e = c.in-Replace.is in c.put_tuple-in-Replace.ensures ∙ wrote e (replace_part (given e c.requires))

pub returns-in-Delete : goal.returns-in-Delete
returns-in-Delete c = let e = c.in-Delete.is in c.put_delete.ensures ∙ wrote e (delete_part (given e c.requires))

pub returns-in-Commit : goal.returns-in-Commit
returns-in-Commit c = let e = c.in-Commit.is in c.put_short-in-Commit.ensures ∙ wrote e (commit_part (given e c.requires))

pub returns-in-Abort : goal.returns-in-Abort
returns-in-Abort c = let e = c.in-Abort.is in c.put_short-in-Abort.ensures ∙ wrote e (abort_part (given e c.requires))
