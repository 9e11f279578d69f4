-- `call_forward::repeat` meets its contract, change by change.
use Rattle.basics.proofs.Kit.{◌≡◌, refl, sym, subst, Bool, true, List, ℕ}
use Rattle.model.specs.Transactions.{open_call, insert_call, replace_call, delete_call, commit_call, abort_call}
use Rattle.model.specs.Calls.{transact, opens, inserts, replaces, deletes, commits, aborts}
use Rattle.log_records.specs.Records.{opened_by, committed_by, aborted_by, inserted_by, replaced_by, deleted_by}
use Rattle.log_records.specs.Entries.{change_is}
use Rattle.log_records.specs.declared.Change.{Change}
use Rattle.log_records.specs.declared.Change.TheVariants.{Open, Insert, Replace, Delete, Commit, Abort}
use Rattle.log_model.specs.Repeats.{call_of}
use Rattle.memory_layout.specs.Store.{holds_store}
use Rattle.std.specs.Result.{is_ok}
use Rattle.call_contracts.specs.Shape.{Answer, Answers}
use Rattle.call_forward.specs.Rolling.{OneRepeated}
use Rattle.call_forward.proofs.Repeated.{one_repeated}
use Rattle.call_forward.proofs.repeat.Goals as goal

-- the change that it is
of : {m m' : List ℕ} (bs : List ℕ) {ok : Bool} {c d : Change} → c ≡ d → OneRepeated (change_is d bs) m ok m' → OneRepeated (change_is c bs) m ok m'
of {m} {m'} bs {ok} e o = subst (λ z. OneRepeated (change_is z bs) m ok m') (sym e) o

module _ (m : List ℕ) (h : holds_store m ≡ true) (r : Answer) {m' : List ℕ} (bs : List ℕ) where
  open_is : (tx u : ℕ) → u ≡ tx → Answers (open_call u) m r m' → OneRepeated (change_is (Open tx) bs) m (is_ok r) m'
  unfolding change_is call_of transact
  open_is tx u e a = one_repeated (opened_by tx) (opens tx) refl (open_call tx) (λ z. refl) m h r (subst (λ n. Answers (open_call n) m r m') e a)

  insert_is : (tx t key n u v : ℕ) → u ≡ tx → v ≡ t → Answers (insert_call u v key bs) m r m' → OneRepeated (change_is (Insert tx t key n) bs) m (is_ok r) m'
  unfolding change_is call_of transact
  insert_is tx t key n u v e f a =
      one_repeated (inserted_by tx t key bs) (inserts tx t key bs) refl (insert_call tx t key bs) (λ z. refl) m h r
      (subst (λ x. Answers (insert_call tx x key bs) m r m') f (subst (λ x. Answers (insert_call x v key bs) m r m') e a))

  replace_is : (tx t key n u v : ℕ) → u ≡ tx → v ≡ t → Answers (replace_call u v key bs) m r m' → OneRepeated (change_is (Replace tx t key n) bs) m (is_ok r) m'
  unfolding change_is call_of transact
  replace_is tx t key n u v e f a =
      one_repeated (replaced_by tx t key bs) (replaces tx t key bs) refl (replace_call tx t key bs) (λ z. refl) m h r
      (subst (λ x. Answers (replace_call tx x key bs) m r m') f (subst (λ x. Answers (replace_call x v key bs) m r m') e a))

  delete_is : (tx t key u v : ℕ) → u ≡ tx → v ≡ t → Answers (delete_call u v key) m r m' → OneRepeated (change_is (Delete tx t key) bs) m (is_ok r) m'
  unfolding change_is call_of transact
  delete_is tx t key u v e f a =
      one_repeated (deleted_by tx t key) (deletes tx t key) refl (delete_call tx t key) (λ z. refl) m h r
      (subst (λ x. Answers (delete_call tx x key) m r m') f (subst (λ x. Answers (delete_call x v key) m r m') e a))

  commit_is : (tx u : ℕ) → u ≡ tx → Answers (commit_call u) m r m' → OneRepeated (change_is (Commit tx) bs) m (is_ok r) m'
  unfolding change_is call_of transact
  commit_is tx u e a = one_repeated (committed_by tx) (commits tx) refl (commit_call tx) (λ z. refl) m h r (subst (λ n. Answers (commit_call n) m r m') e a)

  abort_is : (tx u : ℕ) → u ≡ tx → Answers (abort_call u) m r m' → OneRepeated (change_is (Abort tx) bs) m (is_ok r) m'
  unfolding change_is call_of transact
  abort_is tx u e a = one_repeated (aborted_by tx) (aborts tx) refl (abort_call tx) (λ z. refl) m h r (subst (λ n. Answers (abort_call n) m r m') e a)

pub returns-in-Open : goal.returns-in-Open
returns-in-Open c = of _ c.in-Open.is (open_is c.args.s.now c.requires _ _ _ _ c.from.ensures c.«open».ensures)

pub returns-in-Insert : goal.returns-in-Insert
returns-in-Insert c = of _ c.in-Insert.is (insert_is c.args.s.now c.requires _ _ _ _ _ _ _ _ c.from-in-Insert.ensures c.from-in-Insert-2.ensures c.insert.ensures)

pub returns-in-Replace : goal.returns-in-Replace
returns-in-Replace c = of _ c.in-Replace.is (replace_is c.args.s.now c.requires _ _ _ _ _ _ _ _ c.from-in-Replace.ensures c.from-in-Replace-2.ensures c.replace.ensures)

pub returns-in-Delete : goal.returns-in-Delete
returns-in-Delete c = of _ c.in-Delete.is (delete_is c.args.s.now c.requires _ _ _ _ _ _ _ c.from-in-Delete.ensures c.from-in-Delete-2.ensures c.delete.ensures)

pub returns-in-Commit : goal.returns-in-Commit
returns-in-Commit c = of _ c.in-Commit.is (commit_is c.args.s.now c.requires _ _ _ _ c.from-in-Commit.ensures c.commit.ensures)

pub returns-in-Abort : goal.returns-in-Abort
returns-in-Abort c = of _ c.in-Abort.is (abort_is c.args.s.now c.requires _ _ _ _ c.from-in-Abort.ensures c.abort.ensures)
