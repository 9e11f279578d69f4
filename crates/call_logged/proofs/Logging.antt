-- A call whose record is appended where it was done meets the contract of a logged call.
use Rattle.basics.proofs.Kit.{◌≡◌, refl, sym, ap, ◌∙◌, subst, ap₂, Bool, true, false, some, none, Option, List, [], ℕ, ◌+◌, ◌%◌, ◌≤◌, ◌<◌, mod-eq_of_lt, leb, length, lt-ltb, le-ltb}
use Rattle.basics.specs.Basics.{if'◌then◌else◌}
use Rattle.basics.specs.Lists.{over}
use Rattle.block_forms.specs.Limits.{transaction_limit}
use Rattle.block_forms.specs.Tuple.{AllBytes}
use Rattle.basics.proofs.Facts.{by, lie}
use Rattle.basics.proofs.Elements.{leb-true, leb-false}
use Rattle.model.specs.State.{Store, Outcome}
use Rattle.model.specs.Transactions.{gives}
use Rattle.model.specs.Calls.{TransactionCall, opens, inserts, inserts_checked, replaces, deletes, commits, aborts, transact, TypedCall, accepted, with_room}
use Rattle.memory_layout.specs.Store.{store_in}
use Rattle.log_records.specs.Records.{LogRecord, opened_by, committed_by, aborted_by, inserted_by, replaced_by, deleted_by, RecordFits, short_fields, delete_fields, log_fields, log_size, encode_record}
use Rattle.log_records.specs.Entries.{change_is, entry_as}
use Rattle.log_records.specs.declared.Change.{Change}
use Rattle.log_records.specs.declared.Change.TheVariants.{Open, Insert, Replace, Delete, Commit, Abort}
use Rattle.log_records.specs.declared.Entry.TheVariants.{Call}
use Rattle.log_records.proofs.Spelling.{tuple_size, size_of_change}
use Rattle.log_model.specs.Logged.{record_of, LoggedOutcome, unlogged, appending, logging}
use Rattle.log_model.proofs.Fitting.{call_fits}
use Rattle.call_contracts.specs.Shape.{Answer, meaning, is_accepted, bytes_of, Afterwards, Answers, AnswersAt}
use Rattle.call_contracts.proofs.Answering.{accepted_means}
use Rattle.call_contracts.specs.Logged.{LoggedAfter, LogsAt, Logs}
use Rattle.call_contracts.specs.declared.Logged.{Logged}
use Rattle.call_logged.specs.Appending.{Ready, Appended}
use Rattle.model.specs.State as model

-- ---- answers

-- with room or without: accepted only if there is room
room_accepted : (call : Store → Outcome) (s : Store) (b : Bool) → accepted (with_room b call s).answer ≡ true → (b ≡ true) × (accepted (call s).answer ≡ true)
unfolding accepted if'◌then◌else◌ gives
room_accepted call s true q = (refl, q)
room_accepted call s false q = by (accepted (call s).answer) (λ k. lie (rw k at q)) (λ k. lie (sym k ∙ (rw k at q)))

-- ---- the contract

-- the store that the memory holds, of a call that was accepted: there was room
pub record Accepted (call : Store → Outcome) (m : List ℕ) (room : Bool) : Type 0 where
  pub store : Store
  pub is : store_in m ≡ some store
  pub room_is : room ≡ true
  pub accepts : accepted (call store).answer ≡ true

pub was_accepted : (call : Store → Outcome) (m : List ℕ) (room : Bool) (a : Answer) (m' : List ℕ) → Answers (with_room room call) m a m' → is_accepted a ≡ true → Accepted call m room
unfolding Answers AnswersAt
was_accepted call m room a m' ans d = go (store_in m) refl ans
  where
    go : (o : Option Store) → store_in m ≡ o → AnswersAt o (with_room room call) m a m' → Accepted call m room
    go none e x = lie (unfold accepted in sym (accepted_means a [] (model.refused 4) x.0) ∙ d)
    go (some s) e x =
        let k = room_accepted call s room (sym (accepted_means a _ (with_room room call s).answer x.answer) ∙ d) in
        record { store = s; is = e; room_is = k.0; accepts = k.1 }

module _ (call : Store → Outcome) (rec : Store → LogRecord) (m log : List ℕ) (e : ℕ) (room : Bool) (a : Answer) (m' : List ℕ) (res : Logged) (log' : List ℕ) where
  -- what a logged call gives on the store s, by what was appended
  module _ (s : Store) (er : room ≡ leb (e + log_size (rec s)) (length log)) (p : Appended a (rec s) log e res log') where
    abbrev O : LoggedOutcome
    O = logging (rec s) (call s) s log e

    same_answer : (o : Outcome) → meaning a (bytes_of o.answer) ≡ o.answer → meaning res.answer (bytes_of o.answer) ≡ o.answer
    same_answer o x = ap (λ z. meaning z (bytes_of o.answer)) p.answer ∙ x

    -- refused by a test of its own
    stays : accepted (call s).answer ≡ false → Afterwards (with_room room call s) m a m' → LoggedAfter O m res m' log'
    unfolding logging unlogged if'◌then◌else◌
    stays n x =
        let y = subst (λ o. Afterwards o m a m') (same_outcome room) x in
        let q = p.other (accepted_means a _ (call s).answer y.answer ∙ n) in
        rw n (record { answer = same_answer (call s) y.answer; memory = y.memory; log = q.0; end = q.1 })
      where
        same_outcome : (b : Bool) → with_room b call s ≡ call s
        same_outcome true = refl
        same_outcome false = rw n

    -- accepted, but there is no room
    full : accepted (call s).answer ≡ true → room ≡ false → Afterwards (with_room room call s) m a m' → LoggedAfter O m res m' log'
    unfolding logging appending unlogged if'◌then◌else◌
    full n q x =
        let o = gives (model.refused 29) s in
        let y = subst (λ z. Afterwards z m a m') (ap (λ b. with_room b call s) q ∙ refuses) x in
        let k = p.other (accepted_means a _ o.answer y.answer ∙ no) in
        let f = lt-ltb (length log) (e + log_size (rec s)) (leb-false (e + log_size (rec s)) (length log) (sym er ∙ q)) in
        rw (n, f) (record { answer = same_answer o y.answer; memory = y.memory; log = k.0; end = k.1 })
      where
        refuses : with_room false call s ≡ gives (model.refused 29) s
        refuses = rw n

        no : accepted (gives (model.refused 29) s).answer ≡ false
        no = unfold accepted gives in refl

    -- accepted, with room
    appends : accepted (call s).answer ≡ true → room ≡ true → Afterwards (with_room room call s) m a m' → LoggedAfter O m res m' log'
    unfolding logging appending if'◌then◌else◌
    appends n q x =
        let y = subst (λ b. Afterwards (with_room b call s) m a m') q x in
        let k = p.done (accepted_means a _ (call s).answer y.answer ∙ n) in
        let f = le-ltb (length log) (e + log_size (rec s)) (leb-true (e + log_size (rec s)) (length log) (sym er ∙ q)) in
        rw (n, f) (record { answer = same_answer (call s) y.answer; memory = y.memory; log = k.0; end = k.1 })

  pub logs : Answers (with_room room call) m a m' → ((s : Store) → store_in m ≡ some s → (room ≡ leb (e + log_size (rec s)) (length log)) × Appended a (rec s) log e res log')
      → (store_in m ≡ none → (r : LogRecord) × Appended a r log e res log') → Logs call rec m log e res m' log'
  unfolding Answers AnswersAt Logs LogsAt
  logs ans some-case none-case = go (store_in m) refl ans
    where
      go : (o : Option Store) → store_in m ≡ o → AnswersAt o (with_room room call) m a m' → LogsAt o (λ s. logging (rec s) (call s) s log e) m log e res m' log'
      go none h x =
          let p = (none-case h).1 in
          let k = p.other (accepted_means a [] (model.refused 4) x.0 ∙ (unfold accepted in refl)) in
          (ap (λ z. meaning z []) p.answer ∙ x.0, k.1, x.1, k.0)
      go (some s) h x =
          let c = some-case s h in
          by (accepted (call s).answer)
          (λ n. by room (λ q. appends s c.0 c.1 n q x) (λ q. full s c.0 c.1 n q x))
          (λ n. stays s c.0 c.1 n x)

-- a refusal is handed on, and nothing is appended
pub handed_on : (a : Answer) (r : LogRecord) (log : List ℕ) (e : ℕ) (res : Logged) → is_accepted a ≡ false → res.answer ≡ a → res.end ≡ e → Appended a r log e res log
handed_on a r log e res n h k = record { answer = h; done = λ d. lie (sym n ∙ d); other = λ q. (refl, k) }

-- ---- the change that the code appends

-- ch, with the payload bs, is the record r of the call c where its fields are in range; the record takes n bytes
pub record Writes (c : TransactionCall) (r : LogRecord) (ch : Change) (bs : List ℕ) (n : ℕ) : Type 0 where
  pub logged : record_of c ≡ some r
  pub typed : TypedCall c
  pub is : RecordFits r → change_is ch bs ≡ r
  pub told : RecordFits r → entry_as r ≡ Call ch
  pub size : log_size r ≡ n

module _ (c : TransactionCall) (r : LogRecord) (ch : Change) (bs : List ℕ) (n : ℕ) (w : Writes c r ch bs n) (m log : List ℕ) (e : ℕ) (room : Bool)
    (er : room ≡ leb (e + n) (length log)) (a : Answer) (m' : List ℕ) (ans : Answers (with_room room (transact c)) m a m') where
  er' : room ≡ leb (e + log_size r) (length log)
  er' = er ∙ ap (λ k. leb (e + k) (length log)) (sym w.size)

  in_range_lem : is_accepted a ≡ true → RecordFits r × (e + log_size r ≤ length log)
  in_range_lem d =
      let k = was_accepted (transact c) m room a m' ans d in
      (call_fits c k.store r w.typed w.logged k.accepts, leb-true (e + log_size r) (length log) (sym er' ∙ k.room_is))

  pub ready : Ready a log e ch bs
  ready d =
      let k = in_range_lem d in
      let q = w.is k.0 in
      let t = ap entry_as q ∙ w.told k.0 in
      record { fits = subst RecordFits (sym q) k.0; told = t; room = subst (λ i. e + i ≤ length log) (ap log_size (sym q) ∙ size_of_change ch bs t) k.1 }

  pub logged_by : (res : Logged) (log' : List ℕ) → Appended a (change_is ch bs) log e res log' → Logs (transact c) (λ s. r) m log e res m' log'
  logged_by res log' p = logs (transact c) (λ s. r) m log e room a m' res log' ans (λ s h. (er', appended)) (λ h. (r, appended))
    where
      appended : Appended a r log e res log'
      appended = record {
        answer = p.answer;
        done = λ d. subst (λ x. (log' ≡ over log e (encode_record x)) × (res.end ≡ e + log_size x)) (w.is (in_range_lem d).0) (p.done d);
        other = p.other;
      }

-- ---- each of them

same_tx : (tx : ℕ) → tx < transaction_limit → tx % 4096 ≡ tx
same_tx tx h = mod-eq_of_lt h

same_table : (t : ℕ) → t < 8 → t % 8 ≡ t
same_table t h = mod-eq_of_lt h

pub writes_open : (tx : ℕ) → Writes (opens tx) (opened_by tx) (Open (tx % 4096)) [] 2
unfolding record_of change_is entry_as log_size log_fields short_fields
writes_open tx = record { logged = refl; typed = tt; is = λ f. ap opened_by (same_tx tx f); told = λ f. ap (λ x. Call (Open x)) (sym (same_tx tx f)); size = refl }

pub writes_commit : (tx : ℕ) → Writes (commits tx) (committed_by tx) (Commit (tx % 4096)) [] 2
unfolding record_of change_is entry_as log_size log_fields short_fields
writes_commit tx = record { logged = refl; typed = tt; is = λ f. ap committed_by (same_tx tx f); told = λ f. ap (λ x. Call (Commit x)) (sym (same_tx tx f)); size = refl }

pub writes_abort : (tx : ℕ) → Writes (aborts tx) (aborted_by tx) (Abort (tx % 4096)) [] 2
unfolding record_of change_is entry_as log_size log_fields short_fields
writes_abort tx = record { logged = refl; typed = tt; is = λ f. ap aborted_by (same_tx tx f); told = λ f. ap (λ x. Call (Abort x)) (sym (same_tx tx f)); size = refl }

module _ (tx t k : ℕ) (bs : List ℕ) (key : k < 4294967296) (bytes : AllBytes bs) where
  pub writes_insert : Writes (inserts tx t k bs) (inserted_by tx t k bs) (Insert (tx % 4096) (t % 8) k (length bs)) bs (8 + length bs)
  unfolding record_of change_is entry_as log_size log_fields
  writes_insert = record {
    logged = refl;
    typed = (key, bytes);
    is = λ f. ap₂ (λ x y. inserted_by x y k bs) (same_tx tx f.0.transaction) (same_table t f.0.table);
    told = λ f. ap₂ (λ x y. Call (Insert x y k (length bs))) (sym (same_tx tx f.0.transaction)) (sym (same_table t f.0.table));
    size = tuple_size 2 tx t k bs;
  }

  pub writes_checked : (hours : List ℕ) → Writes (inserts_checked tx t k bs hours) (inserted_by tx t k bs) (Insert (tx % 4096) (t % 8) k (length bs)) bs (8 + length bs)
  unfolding record_of
  writes_checked hours = record { logged = refl; typed = (key, bytes); is = writes_insert.is; told = writes_insert.told; size = writes_insert.size }

  pub writes_replace : Writes (replaces tx t k bs) (replaced_by tx t k bs) (Replace (tx % 4096) (t % 8) k (length bs)) bs (8 + length bs)
  unfolding record_of change_is entry_as log_size log_fields
  writes_replace = record {
    logged = refl;
    typed = (key, bytes);
    is = λ f. ap₂ (λ x y. replaced_by x y k bs) (same_tx tx f.0.transaction) (same_table t f.0.table);
    told = λ f. ap₂ (λ x y. Call (Replace x y k (length bs))) (sym (same_tx tx f.0.transaction)) (sym (same_table t f.0.table));
    size = tuple_size 3 tx t k bs;
  }

pub writes_delete : (tx t k : ℕ) → k < 4294967296 → Writes (deletes tx t k) (deleted_by tx t k) (Delete (tx % 4096) (t % 8) k) [] 8
unfolding record_of change_is entry_as log_size log_fields delete_fields
writes_delete tx t k key = record {
  logged = refl;
  typed = (key, tt);
  is = λ f. ap₂ (λ x y. deleted_by x y k) (same_tx tx f.transaction) (same_table t f.table);
  told = λ f. ap₂ (λ x y. Call (Delete x y k)) (sym (same_tx tx f.transaction)) (sym (same_table t f.table));
  size = refl;
}
