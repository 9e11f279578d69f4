-- `call_forward::repeat_entry` meets its contract: a call is repeated, all else is passed over.
use Rattle.basics.proofs.Kit.{◌≡◌, sym, subst, ⊎_elim, true, Bool, List, ℕ, []}
use Rattle.log_records.specs.declared.Entry.{Entry}
use Rattle.log_records.specs.declared.Entry.TheVariants.{End, Malformed, Call, Mark}
use Rattle.log_records.specs.declared.Change.{Change}
use Rattle.log_records.specs.Entries.{change_is}
use Rattle.memory_layout.specs.Store.{holds_store}
use Rattle.call_forward.specs.Rolling.{entry_is, OneRepeated}
use Rattle.call_forward.proofs.Repeated.{mark_repeated}
use Rattle.call_forward.proofs.repeat_entry.Goals as goal

module _ (m bs : List ℕ) (h : holds_store m ≡ true) {e : Entry} where
  ended : e ≡ End → OneRepeated (entry_is e bs) m true m
  unfolding entry_is
  ended q = subst (λ z. OneRepeated (entry_is z bs) m true m) (sym q) (mark_repeated 0 [] m h)

  malformed : e ≡ Malformed → OneRepeated (entry_is e bs) m true m
  unfolding entry_is
  malformed q = subst (λ z. OneRepeated (entry_is z bs) m true m) (sym q) (mark_repeated 0 [] m h)

  marked : {l n : ℕ} → e ≡ Mark l n → OneRepeated (entry_is e bs) m true m
  unfolding entry_is
  marked {l} q = subst (λ z. OneRepeated (entry_is z bs) m true m) (sym q) (mark_repeated l [] m h)

  called : {c : Change} {ok : Bool} {m' : List ℕ} → e ≡ Call c → OneRepeated (change_is c bs) m ok m' → OneRepeated (entry_is e bs) m ok m'
  unfolding entry_is
  called {c} {ok} {m'} q o = subst (λ z. OneRepeated (entry_is z bs) m ok m') (sym q) o

pub returns-in-End : goal.returns-in-End
returns-in-End c = ⊎_elim (ended _ _ c.requires) (⊎_elim (malformed _ _ c.requires) (λ h. marked _ _ c.requires h.2)) c.in-End.is

pub returns-in-Call : goal.returns-in-Call
returns-in-Call c = called _ _ c.requires c.in-Call.is c.repeat.ensures
