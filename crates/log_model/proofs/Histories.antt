-- The promise over histories: what holds in a life and while power is off, kept by every event.
use Rattle.basics.proofs.Kit.{◌≡◌, refl, sym, ap, ◌∙◌, subst, ap₂, Bool, true, false, ◌||◌, some, none, Option, List, [], ◌∷◌, ◌++◌, append_assoc, append-nil, map, ℕ, suc, ◌+◌, ◌-◌, ◌*◌}
use Rattle.basics.proofs.Kit.{◌/◌, ◌≤◌, min, take, take-append_seam, ltb, length, length-append, arith, ◌⊎◌, inl, inr, ⊎_elim}
use Rattle.basics.specs.Basics.{if'◌then◌else◌, any, is_in, sorted, sum}
use Rattle.basics.specs.Lists.{over}
use Rattle.basics.proofs.Facts.{by, lie, never, AllOf}
use Rattle.basics.proofs.Elements.{all_append, all_parts, leb-false, some_eq}
use Rattle.basics.proofs.Searches.{any_append}
use Rattle.block_forms.specs.Limits.{block_size}
use Rattle.block_forms.specs.Tuple.{AllBytes}
use Rattle.block_forms.specs.Spell.{zeros}
use Rattle.block_forms.proofs.Spelled.{length_zeros, zeros_add}
use Rattle.block_forms.proofs.Laws.{encode_bytes}
use Rattle.image_rows.specs.Rows.{is_own}
use Rattle.image.specs.Stages.{Stage, refuses, holds}
use Rattle.image.proofs.Staged.{refuses-holds, holds_eq}
use Rattle.model.specs.State.{Store, Outcome, refused}
use Rattle.model.specs.Sight.{rows}
use Rattle.model.specs.Transactions.{open_numbers, gives}
use Rattle.model.specs.Checkpoint.{is_running, begin_call}
use Rattle.model.specs.Calls.{TransactionCall, opens, inserts, inserts_checked, replaces, deletes, commits, aborts, reads, lists, crossings, transact, no_effect, effect, TypedCall, Call}
use Rattle.model.specs.Calls.{transacts, begins, steps, runs, call, Typed, is_transaction, is_step, is_begin, accepted, after_calls}
use Rattle.model.specs.Recover.{image_after, fresh_store, make, made_image, recover}
use Rattle.model.specs.CrashRecovery.{Start, Logged, tag, log, Cut}
use Rattle.model.specs.Checkpoints.{after_stores}
use Rattle.model.specs.WellFormed.{WellFormed}
use Rattle.model.specs.Agree.{Agree}
use Rattle.model.proofs.NoStores.{call_leaves}
use Rattle.model.proofs.Starts.{kept_well, made_well}
use Rattle.model.proofs.Bytes.{make_accepted}
use Rattle.model.proofs.Laws.{refused_keeps, reads_only}
use Rattle.model.proofs.Agree.{agree_refl, agree_trans, checkpoints_agree}
use Rattle.log_records.specs.Records.{LogRecord, aborted_by, RecordFits, log_size, encode_record, encode_records, read_log, ended, end_of, is_mark}
use Rattle.log_records.proofs.Logs.{log_of_records, ended_more}
use Rattle.log_model.specs.Repeats.{call_of, call_if, repeat, repeat_all, all_accepted}
use Rattle.log_model.specs.Logged.{record_of, mark_for, record_for, LoggedOutcome, unlogged, appending, logging, logging_if, logged_call}
use Rattle.log_model.specs.RollForward.{Forward, aborts_of, with_aborts, zeroed_from, roll_forward, forward_below}
use Rattle.log_model.specs.Disk.{block_store, records_stores, forward_stores, Cuts}
use Rattle.log_model.specs.History.{stores_of, Phase, running, stopped, History, made, calls, fails, lengthens, restarts, fails_again, NothingLost, AnsweredIsWhole, RecordsOfCut}
use Rattle.log_model.specs.History.{RecordsOfForwardCut}
use Rattle.log_model.proofs.Repeating.{AllRecordsFit, repeat_well, repeat_idle, repeat_stays, repeat_agree, repeat_append, repeat_one, accepted_both, accepted_parts, if_agree, list_of}
use Rattle.log_model.proofs.Repeating.{calls_of, calls_after, calls_typed}
use Rattle.log_model.proofs.Opening.{aborts_of_lem, aborts_of_fit}
use Rattle.log_model.proofs.Marks.{at_start, marked_more, Origin}
use Rattle.log_model.proofs.Appending.{length_records, end_append, one_end, append_record, ended_zeros, Torn, cut_records, cut_forward, forward_log}
use Rattle.log_model.proofs.Fitting.{call_fits, call_repeats, mark_fits}
use Rattle.log_model.proofs.Stores.{put_bytes, cut_bytes, cut_stores, base_with, steps_idle}
use Rattle.log_model.proofs.Lives.{Run, run_step, step_cut, run_transact, run_begin, more_log}
use Rattle.log_model.proofs.Cuts.{back_of, idle_back, run_length}
use Rattle.log_model.proofs.Dead.{Dead, dead_read, Rolled, rolled, end_of_lem, repeated_well, restored}

-- ---- a life

-- the log is the records rs and zeros behind them; the store in memory agrees with what the rules make of the records
pub record Live (s₀ : Store) (img log : List ℕ) (s : Store) (e : ℕ) (rs : List LogRecord) : Type 0 where
  pub origin : Origin s₀
  pub size : ℕ
  pub is : log ≡ encode_records rs ++ zeros size
  pub end : e ≡ end_of rs
  pub fit : AllRecordsFit rs
  pub acc : all_accepted rs s₀ ≡ true
  pub well : WellFormed s
  pub agrees : Agree s (repeat_all rs s₀)
  pub run : Run s₀ img s rs

-- the records are appended to, or not
abbrev Lives : Store → List ℕ → List LogRecord → LoggedOutcome → Type 0
Lives s₀ img rs o = Live s₀ (image_after o.outcome.writes img) o.log o.outcome.store o.end (rs ++ o.records)

live_read : {s₀ : Store} {img log : List ℕ} {s : Store} {e : ℕ} {rs : List LogRecord} → Live s₀ img log s e rs → read_log log ≡ some rs
live_read {rs = rs} l = ap read_log l.is ∙ log_of_records rs l.fit (zeros l.size) (ended_zeros l.size)

module _ (s₀ : Store) (img log : List ℕ) (s : Store) (e : ℕ) (rs : List LogRecord) (l : Live s₀ img log s e rs) where
  abbrev t : Store
  t = repeat_all rs s₀

  t_well : WellFormed (repeat_all rs s₀)
  t_well = repeat_well rs s₀ l.fit l.origin.well

  t_idle : is_running (repeat_all rs s₀).checkpoint ≡ false
  t_idle = repeat_idle rs s₀ l.origin.idle

  -- only store and image change
  moved : (z : Store) (img₁ : List ℕ) → WellFormed z → Agree z s → Run s₀ img₁ z rs → Live s₀ img₁ log z e rs
  moved z img₁ w a r =
      record { origin = l.origin; size = l.size; is = l.is; end = l.end; fit = l.fit; acc = l.acc; well = w; agrees = agree_trans a l.agrees; run = r }

  -- nothing is appended
  no_record : (o : Outcome) → Live s₀ (image_after o.writes img) log o.store e rs → Lives s₀ img rs (unlogged o log e)
  unfolding unlogged
  no_record o k = subst (Live s₀ (image_after o.writes img) log o.store e) (sym (append-nil rs)) k

  -- nothing happens
  nothing : (o : Outcome) → o.store ≡ s → o.writes ≡ [] → Lives s₀ img rs (unlogged o log e)
  nothing o p q =
      no_record o (subst (λ ws. Live s₀ (image_after ws img) log o.store e rs) (sym q) (subst (λ z. Live s₀ (image_after [] img) log z e rs) (sym p) (unfold image_after in l)))

  -- a record is appended
  appended : (r : LogRecord) (z : Store) → RecordFits r → log_size r ≤ l.size → WellFormed z → accepted (repeat r (repeat_all rs s₀)).answer ≡ true
      → Agree z (repeat r (repeat_all rs s₀)).store → Run s₀ img z (rs ++ r ∷ []) → Live s₀ img (over log e (encode_record r)) z (e + log_size r) (rs ++ r ∷ [])
  appended r z f h w a g k =
      record {
        origin = l.origin;
        size = l.size - log_size r;
        is = ap₂ (λ x y. over x y (encode_record r)) l.is l.end ∙ append_record rs r l.size h;
        end = omega (arith, l.end, end_append rs (r ∷ []), one_end r);
        fit = all_append _ rs (r ∷ []) l.fit (f, tt);
        acc = accepted_both rs (r ∷ []) s₀ l.acc (unfold all_accepted in rw a);
        well = w;
        agrees = subst (Agree z) (sym (repeat_one rs r s₀)) g;
        run = k;
      }

  room : (r : LogRecord) → ltb (length log) (e + log_size r) ≡ false → log_size r ≤ l.size
  room r h =
      let n : length log ≡ end_of rs + l.size = ap length l.is ∙ length-append (encode_records rs) (zeros l.size) ∙ ap₂ (λ a b. a + b) (length_records rs) (length_zeros l.size) in
      omega (arith, n, l.end, leb-false (suc (length log)) (e + log_size r) h)

  -- a logged call: refused, too long for the log, or appended
  logged : (r : LogRecord) (o : Outcome) → (accepted o.answer ≡ false → (o.store ≡ s) × (o.writes ≡ [])) → o.writes ≡ []
      → (accepted o.answer ≡ true → log_size r ≤ l.size → Live s₀ img (over log e (encode_record r)) o.store (e + log_size r) (rs ++ r ∷ []))
      → Lives s₀ img rs (logging r o s log e)
  unfolding logging appending if'◌then◌else◌
  logged r o f n g =
      by (accepted o.answer)
      (λ h. by (ltb (length log) (e + log_size r))
      (λ k. rw (h, k) (nothing (gives (refused 29) s) (unfold gives in refl) (unfold gives in refl)))
      (λ k. rw (h, k) (subst (λ ws. Live s₀ (image_after ws img) (over log e (encode_record r)) o.store (e + log_size r) (rs ++ r ∷ [])) (sym n)
      (unfold image_after in g h (room r k)))))
      (λ h. rw h (nothing o (f h).0 (f h).1))

  -- ---- the calls

  no_effect_lem : (c : TransactionCall) → record_of c ≡ none → effect c ≡ no_effect
  unfolding record_of effect
  no_effect_lem (opens tx) h = never (sym h)
  no_effect_lem (inserts tx t k bs) h = never (sym h)
  no_effect_lem (inserts_checked tx t k bs hours) h = never (sym h)
  no_effect_lem (replaces tx t k bs) h = never (sym h)
  no_effect_lem (deletes tx t k) h = never (sym h)
  no_effect_lem (commits tx) h = never (sym h)
  no_effect_lem (aborts tx) h = never (sym h)
  no_effect_lem (reads tx t k room) h = refl
  no_effect_lem (lists room) h = refl
  no_effect_lem (crossings tx t first end room) h = refl

  no_mark : (c : TransactionCall) (r : LogRecord) → record_of c ≡ some r → (i : ℕ) → is_mark i r ≡ false
  unfolding record_of is_mark
  no_mark (opens tx) r h i = ap (is_mark i) (sym (some_eq h))
  no_mark (inserts tx t k bs) r h i = ap (is_mark i) (sym (some_eq h))
  no_mark (inserts_checked tx t k bs hours) r h i = ap (is_mark i) (sym (some_eq h))
  no_mark (replaces tx t k bs) r h i = ap (is_mark i) (sym (some_eq h))
  no_mark (deletes tx t k) r h i = ap (is_mark i) (sym (some_eq h))
  no_mark (commits tx) r h i = ap (is_mark i) (sym (some_eq h))
  no_mark (aborts tx) r h i = ap (is_mark i) (sym (some_eq h))
  no_mark (reads tx t k room) r h i = never h
  no_mark (lists room) r h i = never h
  no_mark (crossings tx t first end room) r h i = never h

  transacting : (c : TransactionCall) → TypedCall c → (o : Option LogRecord) → record_of c ≡ o → Lives s₀ img rs (logging_if o (transact c s) s log e)
  unfolding logging_if call is_transaction is_step
  transacting c ty none h =
      let k = reads_only c s (no_effect_lem c h) in nothing (transact c s) k.0 k.1
  transacting c ty (some r) h =
      logged r (transact c s) (λ q. refused_keeps (transacts c) s q) ((call_leaves (transacts c) s).image refl)
      (λ q f.
      let same = call_repeats c s r h q in
      let b = if_agree (call_of r) s t l.well t_well l.agrees t_idle (unfold repeat in ap (λ z. accepted z.answer) same ∙ q) in
      appended r (transact c s).store (call_fits c s r ty h q) f (kept_well (transacts c) s ty l.well) (unfold repeat in b.0)
      (unfold repeat in subst (λ z. Agree z (call_if (call_of r) t).store) (ap (λ z. z.store) same) b.1)
      (run_transact s₀ img s rs l.run c ty (r ∷ []) (λ i. unfold any in rw (no_mark c r h i, any))))

  -- the mark of a begin is passed over
  beginning : Lives s₀ img rs (logging (mark_for s) (begin_call s) s log e)
  unfolding call is_transaction is_step
  beginning =
      logged (mark_for s) (begin_call s) (λ q. refused_keeps begins s q) ((call_leaves begins s).image refl)
      (λ q f. appended (mark_for s) (begin_call s).store (mark_fits s l.well q) f (kept_well begins s tt l.well) (passed (repeat_all rs s₀)).0
      (subst (Agree (begin_call s).store) (sym (passed (repeat_all rs s₀)).1) (agree_trans (checkpoints_agree begins s l.well refl) l.agrees))
      (run_begin s₀ img s rs l.run l.well t_well l.agrees q))
    where
      passed : (z : Store) → (accepted (repeat (mark_for s) z).answer ≡ true) × ((repeat (mark_for s) z).store ≡ z)
      passed z = unfold repeat call_of call_if mark_for gives accepted in (refl, refl)

  -- a step or a run
  stepping : (c : Call) → is_step c ≡ true → is_transaction c ≡ false → Typed c → Live s₀ (image_after (call c s).writes img) log (call c s).store e rs
  stepping c h n ty =
      by (is_running s.checkpoint)
      (λ i. moved (call c s).store (image_after (call c s).writes img) (kept_well c s ty l.well) (checkpoints_agree c s l.well n)
      (run_step s₀ img s rs l.run c h ty l.well i))
      (λ i. let k = steps_idle c s h i in
      subst (λ ws. Live s₀ (image_after ws img) log (call c s).store e rs) (sym k.1) (subst (λ z. Live s₀ (image_after [] img) log z e rs) (sym k.0) (unfold image_after in l)))

  pub called : (c : Call) → Typed c → Lives s₀ img rs (logged_call c s log e)
  unfolding logged_call record_for call logging_if is_step is_transaction
  called (transacts c) ty = transacting c ty (record_of c) refl
  called begins ty = beginning
  called (steps len) ty = no_record (call (steps len) s) (stepping (steps len) refl refl ty)
  called (runs limit len) ty = no_record (call (runs limit len) s) (stepping (runs limit len) refl refl ty)

-- ---- power fails

-- the image after a cut among the block stores of a life, and a log that reads as the records
dead_of : (s₀ : Store) (img : List ℕ) (s : Store) (rs : List LogRecord) → Origin s₀ → AllRecordsFit rs → all_accepted rs s₀ ≡ true → (r : Run s₀ img s rs)
    → (img' : List ℕ) (base : List Call) → Cut r.first [] (log [] [] r.store r.calls) img' base
    → (log' rest : List ℕ) → log' ≡ encode_records rs ++ rest → ended rest ≡ true → Dead s₀ img' log' rs
dead_of s₀ img s rs o f a r img' base cut log' rest e n =
    record { origin = o; rest = rest; is = e; ends = n; fit = f; acc = a; bytes = cut_bytes cut r.bytes; back = back_of s₀ img s rs r img' base cut }

module _ (s₀ : Store) (img lg : List ℕ) (s : Store) (e : ℕ) (rs : List LogRecord) (l : Live s₀ img lg s e rs) where
  abbrev L : List Logged
  L = log [] [] l.run.store l.run.calls

  -- between two stores
  dead_between : (log' rest : List ℕ) → log' ≡ encode_records rs ++ rest → ended rest ≡ true → Dead s₀ img log' rs
  dead_between log' rest i n =
      let c = cut_stores l.run.first L [] [] {log = []} l.run.image Cuts.stop in
      dead_of s₀ img s rs l.origin l.fit l.acc l.run img c.1.0
      (subst (λ ws. Cut l.run.first [] ws img c.1.0) (append-nil L) c.1.1) log' rest i n

  -- inside a step or a run
  dead_step : (c : Call) → is_step c ≡ true → Typed c → (img' log' : List ℕ) → Cuts img lg (map block_store (call c s).writes) img' log' → Dead s₀ img' log' rs
  dead_step c h ty img' log' k =
      by (is_running s.checkpoint)
      (λ i. let r = run_step s₀ img s rs l.run c h ty l.well i in
      let d = cut_stores l.run.first L (base_with c [] [] l.run.store l.run.calls) (call c s).writes l.run.image k in
      dead_of s₀ (image_after (call c s).writes img) (call c s).store rs l.origin l.fit l.acc r img' d.1.0
      (step_cut s₀ img s rs l.run c h ty l.well i img' d.1.0
      (subst (λ ws. Cut l.run.first [] ws img' d.1.0) (sym (more_log s₀ img s rs l.run c)) d.1.1)) log' (zeros l.size) (d.0 ∙ l.is) (ended_zeros l.size))
      (λ i. let q = steps_idle c s h i in
      let d = cut_stores l.run.first L [] [] l.run.image (subst (λ ws. Cuts img lg (map block_store ws) img' log') q.1 k) in
      dead_of s₀ img s rs l.origin l.fit l.acc l.run img' d.1.0
      (subst (λ ws. Cut l.run.first [] ws img' d.1.0) (append-nil L) d.1.1) log' (zeros l.size) (d.0 ∙ l.is) (ended_zeros l.size))

  -- ---- inside a logged call

  -- the records that the call appends: none, or one
  abbrev O : Call → LoggedOutcome
  O c = logged_call c s lg e

  -- one record at most, and it fits
  abbrev AtMostOne : List LogRecord → Type 0
  AtMostOne qs = (qs ≡ []) ⊎ ((r : LogRecord) × (qs ≡ r ∷ []) × (log_size r ≤ l.size))

  one_at_most : (c : Call) → AtMostOne (O c).records
  unfolding logged_call
  one_at_most c = go (record_for c s)
    where
      short : (r : LogRecord) (o : Outcome) → AtMostOne (appending r o s lg e).records
      short r o = unfold appending unlogged if'◌then◌else◌ in by (ltb (length lg) (e + log_size r)) (λ h. inl (rw h)) (λ h. inr (r, rw h, room s₀ img lg s e rs l r h))

      kept : (r : LogRecord) (o : Outcome) → AtMostOne (logging r o s lg e).records
      kept r o = unfold logging unlogged if'◌then◌else◌ in by (accepted o.answer) (λ h. rw h (short r o)) (λ h. inl (rw h))

      go : (x : Option LogRecord) → AtMostOne (logging_if x (call c s) s lg e).records
      go none = unfold logging_if unlogged in inl refl
      go (some r) = unfold logging_if in kept r (call c s)

  -- a call that is logged stores no block
  no_blocks : (c : Call) → is_step c ≡ false → (O c).outcome.writes ≡ []
  unfolding logged_call
  no_blocks c h = go (record_for c s)
    where
      q : (call c s).writes ≡ []
      q = (call_leaves c s).image h

      go : (x : Option LogRecord) → (logging_if x (call c s) s lg e).outcome.writes ≡ []
      go none = unfold logging_if unlogged in q
      go (some r) = unfold logging_if logging appending unlogged gives if'◌then◌else◌ in
          by (accepted (call c s).answer) (λ a. by (ltb (length lg) (e + log_size r)) (λ k. rw (a, k)) (λ k. rw (a, k) q)) (λ a. rw a q)

  -- what a cut leaves: the records before, or those with the call's
  abbrev Leaves : Call → List ℕ → List ℕ → Type 0
  Leaves c img' log' = (qs : List LogRecord) × ((qs ≡ rs) ⊎ (qs ≡ rs ++ (O c).records)) × Dead s₀ img' log' qs

  ends_before : (c : Call) (img' log' : List ℕ) → img' ≡ img → (rest : List ℕ) → log' ≡ encode_records rs ++ rest → ended rest ≡ true → Leaves c img' log'
  ends_before c img' log' p rest i n = (rs, inl refl, subst (λ z. Dead s₀ z log' rs) (sym p) (dead_between log' rest i n))

module _ (s₀ : Store) (img lg : List ℕ) (s : Store) (e : ℕ) (rs : List LogRecord) (l : Live s₀ img lg s e rs) where
  -- the log after the call, with its record
  ends_behind : (c : Call) → Typed c → is_step c ≡ false → (img' log' : List ℕ) → img' ≡ img → (rest : List ℕ) → log' ≡ encode_records (rs ++ (logged_call c s lg e).records) ++ rest
      → ended rest ≡ true → Leaves s₀ img lg s e rs l c img' log'
  ends_behind c ty h img' log' p rest i n =
      let o = logged_call c s lg e in
      let same : img' ≡ image_after o.outcome.writes img = p ∙ sym (ap (λ ws. image_after ws img) (no_blocks s₀ img lg s e rs l c h) ∙ (unfold image_after in refl)) in (
        rs ++ o.records,
        inr refl,
        subst (λ z. Dead s₀ z log' (rs ++ o.records)) (sym same)
            (dead_between s₀ (image_after o.outcome.writes img) o.log o.outcome.store o.end (rs ++ o.records) (called s₀ img lg s e rs l c ty) log' rest i n),
      )

  torn_one : (c : Call) → Typed c → is_step c ≡ false → (img' log' : List ℕ) → img' ≡ img → Torn rs (logged_call c s lg e).records log' → Leaves s₀ img lg s e rs l c img' log'
  torn_one c ty h img' log' p x = go x.done x.left x.split x.is
    where
      Q : List LogRecord
      Q = (logged_call c s lg e).records

      whole : (d f : List LogRecord) → f ≡ [] → (logged_call c s lg e).records ≡ d ++ f → (logged_call c s lg e).records ≡ d
      whole d f k g = g ∙ ap (λ v. d ++ v) k ∙ append-nil d

      go : (d f : List LogRecord) → (logged_call c s lg e).records ≡ d ++ f → log' ≡ encode_records (rs ++ d) ++ x.rest → Leaves s₀ img lg s e rs l c img' log'
      go [] f g i = ends_before s₀ img lg s e rs l c img' log' p x.rest (i ∙ ap (λ v. encode_records v ++ x.rest) (append-nil rs)) x.ends
      go (y ∷ d) [] g i =
          ends_behind c ty h img' log' p x.rest (i ∙ ap (λ v. encode_records (rs ++ v) ++ x.rest) (sym (whole (y ∷ d) [] refl g))) x.ends
      go (y ∷ d) (w ∷ f) g i = absurd (two_many (one_at_most s₀ img lg s e rs l c))
        where
          long : length (logged_call c s lg e).records ≡ suc (length d) + suc (length f)
          long = ap length g ∙ length-append (y ∷ d) (w ∷ f)

          two_many : AtMostOne s₀ img lg s e rs l (logged_call c s lg e).records → ⊥
          two_many q = ⊎_elim (λ k. none_of k) (λ k. one_of k.1) q
            where
              none_of : (logged_call c s lg e).records ≡ [] → ⊥
              none_of k = let n = ap length k in omega (arith, long, n)

              one_of : {r : LogRecord} → (logged_call c s lg e).records ≡ r ∷ [] → ⊥
              one_of k = let n = ap length k in omega (arith, long, n)

  records_room : (c : Call) → end_of (logged_call c s lg e).records ≤ l.size
  records_room c =
      let nil : end_of [] ≤ l.size = unfold end_of sum in omega arith in
      ⊎_elim (λ k. subst (λ qs. end_of qs ≤ l.size) (sym k) nil)
      (λ k. subst (λ qs. end_of qs ≤ l.size) (sym k.1) (subst (λ n. n ≤ l.size) (sym (one_end k.0)) k.2))
      (one_at_most s₀ img lg s e rs l c)

  logged_cut : (c : Call) → Typed c → is_step c ≡ false → (img' log' : List ℕ) → Cuts img lg (stores_of e (logged_call c s lg e)) img' log' → Leaves s₀ img lg s e rs l c img' log'
  logged_cut c ty h img' log' k =
      let o = logged_call c s lg e in
      let stores : stores_of e o ≡ records_stores e o.records = stores_of_lem c h in
      let k' = subst (λ g. Cuts img g (records_stores e o.records) img' log') l.is (subst (λ ws. Cuts img lg ws img' log') stores k) in
      let t = cut_records img o.records rs l.size (records_room c) e l.end img' log' k' in
      torn_one c ty h img' log' t.0 t.1
    where
      stores_of_lem : (c : Call) → is_step c ≡ false → stores_of e (logged_call c s lg e) ≡ records_stores e (logged_call c s lg e).records
      stores_of_lem c h = unfold stores_of in ap (λ ws. map block_store ws ++ records_stores e (logged_call c s lg e).records) (no_blocks s₀ img lg s e rs l c h)

  step_cut_of : (c : Call) → is_step c ≡ true → Typed c → stores_of e (logged_call c s lg e) ≡ map block_store (call c s).writes ++ [] → (img' log' : List ℕ)
      → Cuts img lg (stores_of e (logged_call c s lg e)) img' log' → Leaves s₀ img lg s e rs l c img' log'
  step_cut_of c h ty q img' log' k =
      (rs, inl refl, dead_step s₀ img lg s e rs l c h ty img' log' (subst (λ ws. Cuts img lg ws img' log') (q ∙ append-nil (map block_store (call c s).writes)) k))

  pub failed : (c : Call) → Typed c → (img' log' : List ℕ) → Cuts img lg (stores_of e (logged_call c s lg e)) img' log' → Leaves s₀ img lg s e rs l c img' log'
  unfolding is_step
  failed (transacts c) ty img' log' k = logged_cut (transacts c) ty refl img' log' k
  failed begins ty img' log' k = logged_cut begins ty refl img' log' k
  failed (steps len) ty img' log' k = step_cut_of (steps len) refl ty (unfold stores_of logged_call record_for logging_if unlogged records_stores in refl) img' log' k
  failed (runs limit len) ty img' log' k = step_cut_of (runs limit len) refl ty (unfold stores_of logged_call record_for logging_if unlogged records_stores in refl) img' log' k

-- ---- a roll-forward

-- calls of records store nothing
quiet : (rs : List LogRecord) (past base : List Call) (s : Store) → log past base s (calls_of rs) ≡ []
unfolding calls_of if'◌then◌else◌
quiet [] past base s = unfold log in refl
quiet (r ∷ rs) past base s = go (call_of r) (quiet rs)
  where
    go : (o : Option TransactionCall) → ((past base : List Call) (s : Store) → log past base s (calls_of rs) ≡ []) → log past base s (list_of o ++ calls_of rs) ≡ []
    go none f = f past base s
    go (some c) f = unfold log is_begin call in
        ap₂ (λ ws z. map (tag base) ws ++ z) ((call_leaves (transacts c) s).image (unfold is_step in refl)) (f (past ++ transacts c ∷ []) base (transact c s).store)

-- aborts are no marks
aborts_no_mark : (txs : List ℕ) (i : ℕ) → any (is_mark i) (map aborted_by txs) ≡ false
unfolding any is_mark
aborts_no_mark [] i = refl
aborts_no_mark (tx ∷ txs) i = aborts_no_mark txs i

module _ (s₀ : Store) (img lg : List ℕ) (rs : List LogRecord) (d : Dead s₀ img lg rs) (m second : ℕ) (f : Forward) (h : roll_forward m second img lg ≡ holds f) where
  -- the store that was recovered
  recovered_by : (r : Store) × (recover (min m second) img ≡ holds r)
  unfolding roll_forward forward_below
  recovered_by = go (recover (min m second) img) refl h
    where
      go : (st : Stage Store) → recover (min m second) img ≡ st → forward_below lg st ≡ holds f → (r : Store) × (recover (min m second) img ≡ holds r)
      go (refuses n) e k = refuses-holds k
      go (holds r) e k = (r, e)

  abbrev r : Store
  r = recovered_by.0

  roll : Rolled s₀ img lg rs m second r
  roll = rolled s₀ img lg rs d m second r recovered_by.1

  -- what is repeated, the store after it, and the aborts
  abbrev qs : List LogRecord
  qs = roll.resumed.records

  abbrev y : Store
  y = repeat_all qs r

  y_well : WellFormed y
  y_well = repeated_well s₀ img lg rs d m second r roll

  gives_f : (end_of rs + end_of (aborts_of y) ≤ length lg) × (with_aborts lg rs y ≡ f)
  gives_f = ⊎_elim (λ k. refuses-holds (sym k ∙ h)) (λ k. (k.0, holds_eq (sym k.1 ∙ h))) (end_of_lem s₀ img lg rs d m second r roll)

  t_well' : WellFormed (repeat_all rs s₀)
  t_well' = repeat_well rs s₀ d.fit d.origin.well

  -- the aborts are accepted on both, and both agree afterwards
  both_abort : (all_accepted (aborts_of y) (repeat_all rs s₀) ≡ true) × Agree (repeat_all (aborts_of y) y) (repeat_all (aborts_of y) (repeat_all rs s₀))
  both_abort =
      repeat_agree (aborts_of y) y (repeat_all rs s₀) (aborts_of_fit y y_well) y_well t_well' roll.resumed.agrees (repeat_idle rs s₀ d.origin.idle) (aborts_of_lem y y_well).0

  no_marks : (i : ℕ) → any (is_mark i) (aborts_of y) ≡ false
  no_marks i = unfold aborts_of in aborts_no_mark (sorted (open_numbers y.active)) i

  -- the life that starts with it
  abbrev as' : List LogRecord
  as' = aborts_of y

  after_both : after_calls (calls_of (qs ++ as')) r ≡ repeat_all as' y
  after_both = calls_after (qs ++ as') r ∙ repeat_append qs as' r

  level_same : (repeat_all as' y).level ≡ r.level
  level_same = (repeat_stays as' y).level ∙ (repeat_stays qs r).level

  idle_after : is_running (repeat_all as' y).checkpoint ≡ false
  idle_after = repeat_idle as' y (repeat_idle qs r (idle_back (min m second) img r recovered_by.1))

  forward_run : Run s₀ img (repeat_all as' y) (rs ++ as')
  forward_run =
      record {
        first = img;
        bytes = d.bytes;
        store = r;
        start = Start.recovered (min m second) recovered_by.1;
        capacity = roll.capacity;
        calls = calls_of (qs ++ as');
        typed = calls_typed (qs ++ as') (all_append _ qs as' roll.resumed.fit (aborts_of_fit y y_well));
        after = after_both;
        image = ap (after_stores img) (quiet (qs ++ as') [] [] r) ∙ (unfold after_stores in refl);
        marked = marked_more as' (no_marks r.level) roll.marked;
        low = omega (arith, level_same);
        headers = subst (AllOf _) (sym (quiet (qs ++ as') [] [] r)) tt;
        begun = λ k. lie (sym idle_after ∙ k);
      }

  forward_live : Live s₀ img (with_aborts lg rs y).log (with_aborts lg rs y).store (with_aborts lg rs y).end (rs ++ as')
  unfolding with_aborts zeroed_from
  forward_live =
      let n : length lg ≡ length (encode_records rs ++ d.rest) = ap length d.is in
      record {
        origin = d.origin;
        size = length lg - end_of rs - end_of as';
        is = ap (λ z. over (take (end_of rs) z ++ zeros (length lg - end_of rs)) (end_of rs) (encode_records as')) d.is ∙ forward_log rs d.rest as' (length lg) n gives_f.0;
        end = sym (end_append rs as');
        fit = all_append _ rs as' d.fit (aborts_of_fit y y_well);
        acc = accepted_both rs as' s₀ d.acc both_abort.0;
        well = repeat_well as' y (aborts_of_fit y y_well) y_well;
        agrees = subst (Agree (repeat_all as' y)) (sym (repeat_append rs as' s₀)) both_abort.1;
        run = forward_run;
      }

  pub restarted : Live s₀ img f.log f.store f.end (f.whole ++ f.aborts)
  restarted = subst (λ g. Live s₀ img g.log g.store g.end (g.whole ++ g.aborts)) gives_f.1 (unfold with_aborts in forward_live)

  -- power fails in it
  forward_dead : (log' : List ℕ) → Torn rs as' log' → (n : ℕ) × Dead s₀ img log' (rs ++ take n as')
  forward_dead log' t =
      let parts = all_parts _ t.done t.left (subst AllRecordsFit t.split (aborts_of_fit y y_well)) in
      let acc = accepted_parts t.done t.left (repeat_all rs s₀) (ap (λ z. all_accepted z (repeat_all rs s₀)) (sym t.split) ∙ both_abort.0) in
      let none_of : (i : ℕ) → any (is_mark i) t.done ≡ false = λ i. or_first (any (is_mark i) t.done) (any (is_mark i) t.left)
      (sym (any_append (is_mark i) t.done t.left) ∙ ap (any (is_mark i)) (sym t.split) ∙ no_marks i) in (
        length t.done,
        subst (λ ps. Dead s₀ img log' (rs ++ ps)) (sym (ap (take (length t.done)) t.split ∙ take-append_seam t.done t.left)) (record {
          origin = d.origin;
          rest = t.rest;
          is = t.is;
          ends = t.ends;
          fit = all_append _ rs t.done d.fit parts.0;
          acc = accepted_both rs t.done s₀ d.acc acc.0;
          bytes = d.bytes;
          back = λ k g. let b = d.back k g in
              record { store = b.store; recovers = b.recovers; capacity = b.capacity; marked = marked_more t.done (none_of b.store.level) b.marked };
        }),
      )
    where
      or_first : (a b : Bool) → (a || b) ≡ false → a ≡ false
      or_first true b k = lie (sym k)
      or_first false b k = refl

  pub found_whole : f.whole ≡ rs
  unfolding with_aborts
  found_whole = sym (ap (λ g. g.whole) gives_f.1)

  pub failed_again : (log' : List ℕ) → Cuts img lg (forward_stores (length lg) (end_of f.whole) f.aborts) img log'
      → (n : ℕ) × Dead s₀ img log' (f.whole ++ take n f.aborts)
  unfolding with_aborts
  failed_again log' c =
      let c₂ : Cuts img lg (forward_stores (length lg) (end_of rs) as') img log' =
      subst (λ g. Cuts img lg (forward_stores (length lg) (end_of g.whole) g.aborts) img log') (sym gives_f.1) c in
      let c₃ = subst (λ z. Cuts img z (forward_stores (length lg) (end_of rs) as') img log') d.is c₂ in
      let k = forward_dead log' (cut_forward rs d.rest img as' (length lg) (ap length d.is) d.ends gives_f.0 img log' c₃).1 in
      (k.0, subst (λ g. Dead s₀ img log' (g.whole ++ take k.0 g.aborts)) gives_f.1 k.1)

-- ---- a longer copy of the log

longer_dead : (s₀ : Store) (img lg : List ℕ) (rs : List LogRecord) → Dead s₀ img lg rs → (n : ℕ) → Dead s₀ img (lg ++ zeros n) rs
longer_dead s₀ img lg rs d n =
    record {
      origin = d.origin;
      rest = d.rest ++ zeros n;
      is = ap (λ z. z ++ zeros n) d.is ∙ append_assoc (encode_records rs) d.rest (zeros n);
      ends = ended_more d.rest n d.ends;
      fit = d.fit;
      acc = d.acc;
      bytes = d.bytes;
      back = d.back;
    }

longer_live : (s₀ : Store) (img lg : List ℕ) (s : Store) (e : ℕ) (rs : List LogRecord) → Live s₀ img lg s e rs → (n : ℕ) → Live s₀ img (lg ++ zeros n) s e rs
longer_live s₀ img lg s e rs l n =
    record {
      origin = l.origin;
      size = l.size + n;
      is = ap (λ z. z ++ zeros n) l.is ∙ append_assoc (encode_records rs) (zeros l.size) (zeros n) ∙ ap (λ z. encode_records rs ++ z) (zeros_add l.size n);
      end = l.end;
      fit = l.fit;
      acc = l.acc;
      well = l.well;
      agrees = l.agrees;
      run = l.run;
    }

-- ---- make

module _ (img : List ℕ) (m n size : ℕ) (s₀ : Store) (b : AllBytes img) (h : make (length img) m n ≡ holds s₀) where
  fresh_is : s₀ ≡ fresh_store (length img / block_size) n
  fresh_is = (make_accepted (length img) m n s₀ h).4

  -- a store just made: level 0, no row, nobody open
  fresh_parts : (s₀.level ≡ 0) × (is_running s₀.checkpoint ≡ false) × ((u : ℕ) → is_in u (open_numbers s₀.active) ≡ any (is_own u) (rows s₀.pages))
  fresh_parts = subst (λ z. (z.level ≡ 0) × (is_running z.checkpoint ≡ false) × ((u : ℕ) → is_in u (open_numbers z.active) ≡ any (is_own u) (rows z.pages))) (sym fresh_is)
      (unfold fresh_store is_running open_numbers rows is_in any in (refl, refl, λ u. refl))

  pub made_live : Live s₀ (made_image img n) (zeros size) s₀ 0 []
  unfolding encode_records end_of sum repeat_all all_accepted
  made_live =
      record {
        origin = record { well = made_well (length img) m n s₀ h; idle = fresh_parts.1; opened = fresh_parts.2 };
        size = size;
        is = refl;
        end = refl;
        fit = tt;
        acc = refl;
        well = made_well (length img) m n s₀ h;
        agrees = agree_refl s₀;
        run = record {
          first = made_image img n;
          bytes = unfold made_image in put_bytes img 0 _ b (encode_bytes _);
          store = s₀;
          start = Start.fresh img m n h;
          capacity = refl;
          calls = [];
          typed = tt;
          after = unfold after_calls in refl;
          image = unfold log after_stores in refl;
          marked = at_start fresh_parts.0 refl refl;
          low = omega arith;
          headers = unfold log in tt;
          begun = λ k. lie (sym fresh_parts.1 ∙ k);
        };
      }

-- ---- every history

-- what holds in each phase
abbrev Holds : Store → List ℕ → List ℕ → Phase → Type 0
Holds s₀ img log (running s e rs) = Live s₀ img log s e rs
Holds s₀ img log stopped = (rs : List LogRecord) × Dead s₀ img log rs

longer : (s₀ : Store) (img lg : List ℕ) (ph : Phase) → Holds s₀ img lg ph → (n : ℕ) → Holds s₀ img (lg ++ zeros n) ph
longer s₀ img lg (running s e rs) l n = longer_live s₀ img lg s e rs l n
longer s₀ img lg stopped x n = (x.0, longer_dead s₀ img lg x.0 x.1 n)

keeps : {s₀ : Store} {img log : List ℕ} {ph : Phase} → History s₀ img log ph → Holds s₀ img log ph
keeps {s₀} (made img m n size b h) = made_live img m n size s₀ b h
keeps {s₀} (calls {img = img} {log = lg} {s = s} {e = e} {rs = rs} g c ty {o = o} q) = subst (Lives s₀ img rs) q (called s₀ img lg s e rs (keeps g) c ty)
keeps {s₀} (fails {img = img} {log = lg} {s = s} {e = e} {rs = rs} g c ty {img' = img'} {log' = log'} k) = let x = failed s₀ img lg s e rs (keeps g) c ty img' log' k in (x.0, x.2)
keeps {s₀} (lengthens {img = img} {log = lg} {ph = ph} g n) = longer s₀ img lg ph (keeps g) n
keeps {s₀} (restarts {img = img} {log = lg} g m second {f = f} h) = let x = keeps g in restarted s₀ img lg x.0 x.1 m second f h
keeps {s₀} (fails_again {img = img} {log = lg} g m second {f = f} h {log' = log'} k) =
    let x = keeps g in let q = failed_again s₀ img lg x.0 x.1 m second f h log' k in (f.whole ++ take q.0 f.aborts, q.1)

pub nothing_lost : NothingLost
nothing_lost s₀ img log g =
    let x = keeps g in
    record { records = x.0; read = dead_read x.1; accepted = x.1.acc; forward = λ m second p q. restored s₀ img log x.0 x.1 m second p q }

pub answered_is_whole : AnsweredIsWhole
answered_is_whole s₀ img log s e rs g = let l = keeps g in (live_read l, l.end)

pub records_of_cut : RecordsOfCut
records_of_cut s₀ img log s e rs g c ty img' log' k =
    let x = failed s₀ img log s e rs (keeps g) c ty img' log' k in
    ⊎_elim (λ q. inl (dead_read x.2 ∙ ap some q)) (λ q. inr (dead_read x.2 ∙ ap some q)) x.1

pub records_of_forward_cut : RecordsOfForwardCut
records_of_forward_cut s₀ img log g m second f h log' k =
    let x = keeps g in let q = failed_again s₀ img log x.0 x.1 m second f h log' k in
    (dead_read x.1 ∙ ap some (sym (found_whole s₀ img log x.0 x.1 m second f h)), (q.0, dead_read q.1))

-- the image of a life has the store's blocks
pub history_length : {s₀ : Store} {img log : List ℕ} {s : Store} {e : ℕ} {rs : List LogRecord} → History s₀ img log (running s e rs) → length img ≡ block_size * s.blocks
history_length {s₀} {img} {log} {s} {e} {rs} g = run_length s₀ img s rs (keeps g).run
