-- The promise over the contracts: lives of a program follow histories of the rules.
use Rattle.basics.proofs.Kit.{◌≡◌, refl, sym, ap, ◌∙◌, subst, false, some, none, List, [], ◌++◌, ℕ, take, length, arith, ◌⊎◌, inl, inr, ⊎_elim}
use Rattle.basics.proofs.Elements.{some_eq}
use Rattle.block_forms.specs.Spell.{zeros}
use Rattle.image.specs.Stages.{Stage, refuses, holds}
use Rattle.image.proofs.Staged.{refuses-holds, holds_eq}
use Rattle.model.specs.State.{Store, refused}
use Rattle.model.specs.Calls.{Call, transacts, begins, call, Typed, is_step}
use Rattle.model.specs.Recover.{image_after, make, made_image}
use Rattle.memory_layout.specs.Store.{store_in}
use Rattle.log_records.specs.Records.{LogRecord, read_log}
use Rattle.log_model.specs.Logged.{mark_for, record_for, LoggedOutcome, unlogged, logging, logging_if, logged_call}
use Rattle.log_model.specs.RollForward.{Forward, roll_forward}
use Rattle.log_model.specs.History as history
use Rattle.log_model.specs.History.{History, stores_of, completed, BringsBack}
use Rattle.log_model.proofs.Histories.{nothing_lost, answered_is_whole, records_of_cut, records_of_forward_cut, history_length}
use Rattle.log_model.specs.Disk.{Cuts}
use Rattle.model.proofs.NoStores.{call_leaves}
use Rattle.model.proofs.Laws.{refused_keeps}
use Rattle.call_contracts.specs.Shape.{meaning, Made, MadeBy}
use Rattle.call_contracts.specs.Logged.{LoggedAfter, LogsAt, Logs, ForwardsBy}
use Rattle.std.specs.Prelude.{Ok}
use Rattle.call_contracts.specs.declared.Reply.TheVariants.{Done}
use Rattle.call_contracts.specs.declared.Logged.{Logged}
use Rattle.store.specs.NothingLost as lost
use Rattle.store.specs.NothingLost.{Acts, logging as logs, marking, acting, Lives, starts, goes_on, stops, lengthens, restarts, stops_again, BroughtBack, NothingLost, AnsweredIsWhole}
use Rattle.store.proofs.Follows.{does, typed, leaves, still, code_of, means_done, means_full, logged_keeps, logged_stores}
use Rattle.model.specs.State as model

-- what a life has: a history of the rules, whose store the memory holds
record Follows (s₀ : Store) (img log m : List ℕ) (e : ℕ) : Type 0 where
  pub store : Store
  pub records : List LogRecord
  pub has : store_in m ≡ some store
  pub is : History s₀ img log (history.running store e records)

-- ---- one call

module _ (s₀ : Store) (img log m : List ℕ) (e : ℕ) (f : Follows s₀ img log m e) where
  abbrev s : Store
  s = f.store

  -- after the call c: the same, with its record
  abbrev GoesOn : Call → List ℕ → List ℕ → List ℕ → ℕ → Type 0
  GoesOn c img' log' m' e' = (g : Follows s₀ img' log' m' e') × (g.records ≡ f.records ++ (logged_call c s log e).records)

  -- the call goes on as the rules say
  on : (c : Call) → Typed c → (o : LoggedOutcome) → logged_call c s log e ≡ o → (img' m' log' : List ℕ) (e' : ℕ) → store_in m' ≡ some o.outcome.store
      → img' ≡ image_after o.outcome.writes img → log' ≡ o.log → e' ≡ o.end → GoesOn c img' log' m' e'
  on c ty o q img' m' log' e' a b g h =
      let k = history.calls f.is c ty q in (
        record {
          store = o.outcome.store;
          records = f.records ++ o.records;
          has = a;
          is = subst (λ i. History s₀ i log' (history.running o.outcome.store e' (f.records ++ o.records))) (sym b)
              (subst (λ l. History s₀ (image_after o.outcome.writes img) l (history.running o.outcome.store e' (f.records ++ o.records))) (sym g)
              (subst (λ i. History s₀ (image_after o.outcome.writes img) o.log (history.running o.outcome.store i (f.records ++ o.records))) (sym h) k));
        },
        ap (λ (p : LoggedOutcome). f.records ++ p.records) (sym q),
      )

  -- a logged call
  on_logged : (c : Call) → Typed c → (x : LogRecord) → record_for c s ≡ some x → is_step c ≡ false → (r : Logged) (m' log' : List ℕ)
      → LoggedAfter (logging x (call c s) s log e) m r m' log' → GoesOn c img log' m' r.end
  on_logged c ty x q i r m' log' l =
      let o = logging x (call c s) s log e in
      let keeps = logged_keeps x (call c s) s log e (λ h. (refused_keeps c s h).0) ((call_leaves c s).image i) in
      let none-stored = logged_stores x (call c s) s log e (λ h. (refused_keeps c s h).0) ((call_leaves c s).image i) in
      on c ty o (is_logged q) img m' log' r.end (leaves o.outcome.answer o.outcome.store s m m' l.memory f.has keeps)
      (still o.outcome.writes img none-stored) l.log l.end
    where
      is_logged : record_for c s ≡ some x → logged_call c s log e ≡ logging x (call c s) s log e
      is_logged q = unfold logged_call logging_if in rw q

  -- a call without a record
  is_unlogged : (c : Call) → record_for c s ≡ none → logged_call c s log e ≡ unlogged (call c s) log e
  unfolding logged_call logging_if
  is_unlogged c q = rw q

  after_act : {c : Call} {img' m' log' : List ℕ} {e' : ℕ} → Acts c img m log e img' m' log' e' → GoesOn c img' log' m' e'
  unfolding Logs LogsAt record_for call is_step
  after_act (logs {c = c} {m' = m'} {log' = log'} {x = x} r h ty l) = on_logged (transacts c) ty x h refl r m' log' (rw f.has at l)
  after_act (marking {m' = m'} {log' = log'} r l) = on_logged begins tt (mark_for s) refl refl r m' log' (rw f.has at l)
  after_act {img' = img'} {m' = m'} (acting {c = c} n x) =
      let k = does s img m f.has c img' m' (history_length f.is) x in
      on c (typed x) (unlogged (call c s) log e) (is_unlogged c (n s)) img' m' log e (unfold unlogged in k.0) (unfold unlogged in k.1) (unfold unlogged in refl) (unfold unlogged in refl)

act_typed : {c : Call} {img m log img' m' log' : List ℕ} {e e' : ℕ} → Acts c img m log e img' m' log' e' → Typed c
act_typed (logs r h ty l) = ty
act_typed (marking r l) = tt
act_typed (acting n x) = typed x

-- ---- all lives

-- what holds in each phase
abbrev Holds : Store → List ℕ → List ℕ → lost.Phase → Type 0
Holds s₀ img log (lost.alive m e) = Follows s₀ img log m e
Holds s₀ img log lost.off = History s₀ img log history.stopped

made_holds : (s₀ : Store) (img₀ m₀ img m : List ℕ) (n : ℕ) → make (length img₀) (length m₀) n ≡ holds s₀ → Made n img₀ m₀ (Ok Done) img m
    → (img ≡ made_image img₀ n) × (store_in m ≡ some s₀)
unfolding MadeBy
made_holds s₀ img₀ m₀ img m n h x = let y = rw h at x in (y.1.0, y.1.1.store)

forward_holds : (st : Stage Forward) (m₀ log m log' : List ℕ) (r : Logged) → ForwardsBy st m₀ log r m log' → r.answer ≡ Ok Done
    → (f : Forward) × (st ≡ holds f) × (r.end ≡ f.end) × (store_in m ≡ some f.store) × (log' ≡ f.log)
unfolding ForwardsBy
forward_holds (refuses k) m₀ log m log' r x d = absurd (differ (ap (λ y. (code_of y).0) (sym (ap (λ y. meaning y []) d) ∙ x.0)))
  where
    differ : ◌≡◌ {A = ℕ} 1 0 → ⊥
    differ k = omega (arith, k)
forward_holds (holds f) m₀ log m log' r x d = (f, refl, x.1, x.2.store, x.3)

longer : (s₀ : Store) (img log : List ℕ) (ph : lost.Phase) → Holds s₀ img log ph → (n : ℕ) → Holds s₀ img (log ++ zeros n) ph
longer s₀ img log (lost.alive m e) f n = record { store = f.store; records = f.records; has = f.has; is = history.lengthens f.is n }
longer s₀ img log lost.off h n = history.lengthens h n

keeps : {s₀ : Store} {img log : List ℕ} {ph : lost.Phase} → Lives s₀ img log ph → Holds s₀ img log ph
keeps {s₀} (starts img₀ m₀ n size {img = img} {m = m} b h x) =
    let k = made_holds s₀ img₀ m₀ img m n h x in
    record { store = s₀; records = []; has = k.1; is = subst (λ i. History s₀ i (zeros size) (history.running s₀ 0 [])) (sym k.0) (history.made img₀ (length m₀) n size b h) }
keeps {s₀} (goes_on {img = img} {m = m} {log = log} {e = e} g a) = (after_act s₀ img log m e (keeps g) a).0
keeps {s₀} (stops {c = c} {img = img} {log = log} {img' = img'} {log' = log'} {e = e} g a {s = s} h k) =
    let f = keeps g in
    history.fails f.is c (act_typed a) (subst (λ z. Cuts img log (stores_of e (logged_call c z log e)) img' log') (some_eq (sym h ∙ f.has)) k)
keeps {s₀} (lengthens {img = img} {log = log} {ph = ph} g n) = longer s₀ img log ph (keeps g) n
keeps {s₀} (restarts {img = img} {log = log} {m = m} {log' = log'} g m₀ n {r = r} x d) =
    let k = forward_holds (roll_forward (length m₀) n img log) m₀ log m log' r x d in
    let q = k.0 in
    record {
      store = q.store;
      records = q.whole ++ q.aborts;
      has = k.3;
      is = subst (λ i. History s₀ img log' (history.running q.store i (q.whole ++ q.aborts))) (sym k.2)
          (subst (λ l. History s₀ img l (history.running q.store q.end (q.whole ++ q.aborts))) (sym k.4) (history.restarts (keeps g) (length m₀) n k.1));
    }
keeps {s₀} (stops_again g m n h k) = history.fails_again (keeps g) m n h k

-- ---- the promise

refused_eq : {i j : ℕ} → ◌≡◌ {A = Stage Forward} (refuses i) (refuses j) → i ≡ j
refused_eq e = cc

brought : (s₀ : Store) (records : List LogRecord) (st : Stage Forward) (m log m' log' : List ℕ) (r : Logged) → ForwardsBy st m log r m' log'
    → (st ≡ refuses 29) ⊎ ((f : Forward) × (st ≡ holds f) × BringsBack f.store (completed records s₀)) → BroughtBack s₀ records r m'
unfolding ForwardsBy
brought s₀ records (refuses k) m log m' log' r x p =
    ⊎_elim (λ e. record { result = inl (means_full r.answer (x.0 ∙ ap model.refused (refused_eq e))) }) (λ q. refuses-holds q.1) p
brought s₀ records (holds f) m log m' log' r x p =
    ⊎_elim (λ e. refuses-holds (sym e)) (λ q. record { result = inr (means_done r.answer x.0, (q.0.store, x.2.store ∙ ap (λ y. some y.store) (holds_eq q.1), q.2)) }) p

pub nothing_is_lost : NothingLost
nothing_is_lost s₀ img log g =
    let h = keeps g in
    let p = nothing_lost s₀ img log h in
    record {
      records = p.records;
      read = p.read;
      accepted = p.accepted;
      restart = λ m m' log' n r a b x. brought s₀ p.records (roll_forward (length m) n img log) m log m' log' r x (p.forward (length m) n a b);
      cut = λ m n f e log' k. let q = records_of_forward_cut s₀ img log h m n f e log' k in
          (q.1.0, subst (λ rs. read_log log' ≡ some (rs ++ take q.1.0 f.aborts)) (some_eq (sym q.0 ∙ p.read)) q.1.1);
    }

pub answered_whole : AnsweredIsWhole
answered_whole s₀ img log m e g =
    let f = keeps g in
    let w = answered_is_whole s₀ img log f.store e f.records f.is in
    record {
      store = f.store;
      has_store = f.has;
      records = f.records;
      read = w.0;
      end = w.1;
      answered = λ {c} {img'} {m'} {log'} {e'} a. let k = after_act s₀ img log m e f a in
          (answered_is_whole s₀ img' log' k.0.store e' k.0.records k.0.is).0 ∙ ap some k.1;
      cut = λ {c} {img₁} {m₁} {log₁} {img'} {log'} {e₁} a k. records_of_cut s₀ img log f.store e f.records f.is c (act_typed a) img' log' k;
    }
