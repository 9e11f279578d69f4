-- What holds in a life of the image beside the records: every header that may be found stands at its place in them.
use Rattle.basics.proofs.Kit.{◌≡◌, refl, sym, ap, ◌∙◌, subst, true, false, List, [], ◌∷◌, ◌++◌, append-nil, map, ℕ, suc, ◌≤◌, ◌<◌, eqb, arith}
use Rattle.basics.specs.Basics.{if'◌then◌else◌, any}
use Rattle.basics.proofs.Facts.{by, AllOf}
use Rattle.basics.proofs.Elements.{all_append, all_map, all_mapped, eqb-true}
use Rattle.block_forms.specs.Tuple.{AllBytes}
use Rattle.model.specs.State.{Store, Write}
use Rattle.model.specs.Sight.{rows}
use Rattle.model.specs.Transactions.{gives}
use Rattle.model.specs.Checkpoint.{is_running, begin_call, with_progress}
use Rattle.model.specs.Calls.{TransactionCall, transact, TypedCall, Call, transacts, begins, call, Typed, AllTyped, is_begin, is_transaction, is_step, accepted, after_calls}
use Rattle.model.specs.Recover.{image_after}
use Rattle.model.specs.CrashRecovery.{Start, Logged, tag, log, is_header, Cut}
use Rattle.model.specs.Checkpoints.{after_stores}
use Rattle.model.specs.WellFormed.{WellFormed}
use Rattle.model.specs.Agree.{Agree}
use Rattle.model.proofs.Effects.{unless_out, unless_accepted}
use Rattle.model.proofs.NoStores.{call_leaves}
use Rattle.log_records.specs.Records.{LogRecord, mark_of, is_mark}
use Rattle.log_model.specs.Repeats.{repeat_all}
use Rattle.log_model.specs.Logged.{mark_for}
use Rattle.log_model.proofs.Opening.{agree_unwritten}
use Rattle.log_model.proofs.Marks.{Marked, at_mark, marked_more}
use Rattle.log_model.proofs.Stores.{after_one, base_after, base_of, base_with, base_one, log_one, stores_append, stores_tagged, steps_rise, step_no_begin}

-- ---- the image in a life

-- what a checkpoint of the idle store b would bring back, once its header has landed: its place in the records rs is known; top bounds its level
pub record Point (s₀ : Store) (rs : List LogRecord) (b : Store) (top : ℕ) : Type 0 where
  pub well : WellFormed b
  pub idle : is_running b.checkpoint ≡ false
  pub marked : Marked s₀ rs (rows b.pages) b.next (suc b.level)
  pub level : suc b.level ≤ top

-- the image came from a start by a list of calls: img and s are what it has now, rs the records of the log
pub record Run (s₀ : Store) (img : List ℕ) (s : Store) (rs : List LogRecord) : Type 0 where
  pub first : List ℕ
  pub bytes : AllBytes first
  pub store : Store
  pub start : Start first store
  pub capacity : store.capacity ≡ s₀.capacity
  pub calls : List Call
  pub typed : AllTyped calls
  pub after : after_calls calls store ≡ s
  pub image : after_stores first (log [] [] store calls) ≡ img
  -- where the start stands in the records, and each header stored since, and the one of a running checkpoint
  pub marked : Marked s₀ rs (rows store.pages) store.next store.level
  pub low : store.level ≤ s.level
  pub headers : AllOf (λ w. is_header w ≡ true → Point s₀ rs (after_calls w.before store) s.level) (log [] [] store calls)
  pub begun : is_running s.checkpoint ≡ true → Point s₀ rs (after_calls (base_after [] [] store calls) store) (suc s.level)

point_up : {s₀ : Store} {rs : List LogRecord} {b : Store} {top : ℕ} (more : ℕ) → top ≤ more → Point s₀ rs b top → Point s₀ rs b more
point_up more h p = record { well = p.well; idle = p.idle; marked = p.marked; level = omega (arith, p.level) }

point_more : {s₀ : Store} {rs : List LogRecord} {b : Store} {top : ℕ} (qs : List LogRecord) → ((l : ℕ) → any (is_mark l) qs ≡ false) → (more : ℕ) → top ≤ more
    → Point s₀ rs b top → Point s₀ (rs ++ qs) b more
point_more {b = b} qs q more h p = record { well = p.well; idle = p.idle; marked = marked_more qs (q (suc b.level)) p.marked; level = omega (arith, p.level) }

typed_append : (a : List Call) (c : Call) → AllTyped a → Typed c → AllTyped (a ++ c ∷ [])
typed_append [] c t k = (k, tt)
typed_append (d ∷ a) c t k = (t.0, typed_append a c t.1 k)

module _ (s₀ : Store) (img : List ℕ) (s : Store) (rs : List LogRecord) (r : Run s₀ img s rs) where
  -- the same calls and one more
  more_after : (c : Call) → after_calls (r.calls ++ c ∷ []) r.store ≡ (call c s).store
  more_after c = after_one r.calls c r.store ∙ ap (λ z. (call c z).store) r.after

  pub more_log : (c : Call) → log [] [] r.store (r.calls ++ c ∷ []) ≡ log [] [] r.store r.calls ++ map (tag (base_with c [] [] r.store r.calls)) (call c s).writes
  more_log c =
      log_one c [] [] r.store r.calls
      ∙ ap (λ z. log [] [] r.store r.calls ++ map (tag (base_with c [] [] r.store r.calls)) (call c z).writes) r.after

  more_image : (c : Call) → after_stores r.first (log [] [] r.store (r.calls ++ c ∷ [])) ≡ image_after (call c s).writes img
  more_image c =
      let L = log [] [] r.store r.calls in
      ap (after_stores r.first) (more_log c) ∙ stores_append r.first L _
      ∙ ap (λ z. after_stores z (map (tag (base_with c [] [] r.store r.calls)) (call c s).writes)) r.image ∙ stores_tagged img _ (call c s).writes

  -- a call that is no begin has the base of those before it
  no_begin : (c : Call) → is_begin c ≡ false → base_with c [] [] r.store r.calls ≡ base_after [] [] r.store r.calls
  unfolding base_with base_of if'◌then◌else◌
  no_begin c h = rw h

  -- a header's store stands at its place
  abbrev Header : List LogRecord → ℕ → Logged → Type 0
  Header qs top x = is_header x ≡ true → Point s₀ qs (after_calls x.before r.store) top

  is_header_lem : (b : List Call) (x : Write) → is_header (tag b x) ≡ true → eqb x.at 0 ≡ true
  unfolding is_header tag
  is_header_lem b x k = k

  tagged_point : (b : List Call) (x : Write) {top : ℕ} → Point s₀ rs (after_calls b r.store) top → Point s₀ rs (after_calls (tag b x).before r.store) top
  unfolding tag
  tagged_point b x q = q

  -- ---- a step or a run

  pub run_step : (c : Call) → is_step c ≡ true → Typed c → WellFormed s → is_running s.checkpoint ≡ true → Run s₀ (image_after (call c s).writes img) (call c s).store rs
  run_step c h t w i =
      let up = steps_rise c s h w in
      let z = (call c s).store in
      let base = base_with c [] [] r.store r.calls in
      let at : base_with c [] [] r.store r.calls ≡ base_after [] [] r.store r.calls = no_begin c (step_no_begin c h) in
      let p : Point s₀ rs (after_calls (base_with c [] [] r.store r.calls) r.store) (suc s.level) =
      subst (λ b. Point s₀ rs (after_calls b r.store) (suc s.level)) (sym at) (r.begun i) in
      record {
        first = r.first;
        bytes = r.bytes;
        store = r.store;
        start = r.start;
        capacity = r.capacity;
        calls = r.calls ++ c ∷ [];
        typed = typed_append r.calls c r.typed t;
        after = more_after c;
        image = more_image c;
        marked = r.marked;
        low = omega (arith, r.low, up.0);
        headers = subst (AllOf (Header rs z.level)) (sym (more_log c)) (all_append (Header rs z.level) (log [] [] r.store r.calls) (map (tag base) (call c s).writes)
            (all_map (Header rs s.level) (Header rs z.level) (λ x f k. point_up z.level up.0 (f k)) (log [] [] r.store r.calls) r.headers)
            (all_mapped (Header rs z.level) (tag base) (call c s).writes
            (all_map (λ x. eqb x.at 0 ≡ true → s.level < z.level) _ (λ x f k. point_up z.level (f (is_header_lem base x k)) (tagged_point base x p)) (call c s).writes up.1)));
        begun = λ k. subst (λ b. Point s₀ rs (after_calls b r.store) (suc z.level)) (sym (base_one c [] [] r.store r.calls))
            (point_up (suc z.level) (omega (arith, up.0)) p);
      }

  -- a cut among its stores is one of that run
  pub step_cut : (c : Call) (h : is_step c ≡ true) (t : Typed c) (w : WellFormed s) (i : is_running s.checkpoint ≡ true) (img' : List ℕ) (base : List Call)
      → Cut r.first [] (log [] [] r.store (r.calls ++ c ∷ [])) img' base
      → Cut (run_step c h t w i).first [] (log [] [] (run_step c h t w i).store (run_step c h t w i).calls) img' base
  unfolding run_step
  step_cut c h t w i img' base k = k

  -- ---- a call of transactions, with the records qs, which are no marks

  pub run_transact : (c : TransactionCall) → TypedCall c → (qs : List LogRecord) → ((l : ℕ) → any (is_mark l) qs ≡ false) → Run s₀ img (transact c s).store (rs ++ qs)
  unfolding call is_transaction is_step is_begin
  run_transact c t qs q =
      let d = transacts c in
      let leaves = call_leaves d s in
      let z = (transact c s).store in
      let lv : z.level ≡ s.level = leaves.level refl in
      let none : (transact c s).writes ≡ [] = leaves.image refl in
      let L = log [] [] r.store r.calls in
      let same : log [] [] r.store (r.calls ++ d ∷ []) ≡ L =
      more_log d ∙ ap (λ ws. L ++ map (tag (base_with d [] [] r.store r.calls)) ws) none ∙ append-nil L in
      record {
        first = r.first;
        bytes = r.bytes;
        store = r.store;
        start = r.start;
        capacity = r.capacity;
        calls = r.calls ++ d ∷ [];
        typed = typed_append r.calls d r.typed t;
        after = more_after d;
        image = ap (after_stores r.first) same ∙ r.image;
        marked = marked_more qs (q r.store.level) r.marked;
        low = omega (arith, r.low, lv);
        headers = subst (AllOf (Header (rs ++ qs) z.level)) (sym same)
            (all_map (Header rs s.level) (Header (rs ++ qs) z.level) (λ x f k. point_more qs q z.level (omega (arith, lv)) (f k)) L r.headers);
        begun = λ k. subst (λ b. Point s₀ (rs ++ qs) (after_calls b r.store) (suc z.level)) (sym (base_one d [] [] r.store r.calls ∙ no_begin d refl))
            (point_more qs q (suc z.level) (omega (arith, lv)) (r.begun (sym (ap is_running (leaves.checkpoint refl)) ∙ k)));
      }

  -- ---- begin, with its mark

  pub run_begin : WellFormed s → WellFormed (repeat_all rs s₀) → Agree s (repeat_all rs s₀) → accepted (begin_call s).answer ≡ true
      → Run s₀ img (begin_call s).store (rs ++ mark_for s ∷ [])
  unfolding call is_transaction is_step is_begin
  run_begin w v a h =
      let z = (begin_call s).store in
      let lv : z.level ≡ s.level = begin_level in
      let none : (begin_call s).writes ≡ [] = (call_leaves begins s).image refl in
      let L = log [] [] r.store r.calls in
      let same : log [] [] r.store (r.calls ++ begins ∷ []) ≡ L =
      more_log begins ∙ ap (λ ws. L ++ map (tag (base_with begins [] [] r.store r.calls)) ws) none ∙ append-nil L in
      record {
        first = r.first;
        bytes = r.bytes;
        store = r.store;
        start = r.start;
        capacity = r.capacity;
        calls = r.calls ++ begins ∷ [];
        typed = typed_append r.calls begins r.typed tt;
        after = more_after begins;
        image = ap (after_stores r.first) same ∙ r.image;
        marked = marked_more (mark_for s ∷ []) (higher r.store.level (omega (arith, r.low))) r.marked;
        low = omega (arith, r.low, lv);
        headers = subst (AllOf (Header (rs ++ mark_for s ∷ []) z.level)) (sym same)
            (all_map (Header rs s.level) (Header (rs ++ mark_for s ∷ []) z.level) (λ x f k. let p = f k in
            record { well = p.well; idle = p.idle; marked = marked_more (mark_for s ∷ []) (higher _ (omega (arith, p.level))) p.marked; level = omega (arith, p.level, lv) }) L r.headers);
        begun = λ k. subst (λ b. Point s₀ (rs ++ mark_for s ∷ []) (after_calls b r.store) (suc z.level)) (sym (base_one begins [] [] r.store r.calls ∙ begun_base))
            (subst (λ b. Point s₀ (rs ++ mark_for s ∷ []) b (suc z.level)) (sym r.after) (record { well = w; idle = was_idle; marked = here; level = omega (arith, lv) }));
      }
    where
      begin_level : (begin_call s).store.level ≡ s.level
      begin_level = unfold begin_call gives with_progress in unless_out (λ t ws. t.level ≡ s.level) _ s _ refl refl

      was_idle : is_running s.checkpoint ≡ false
      was_idle = unfold begin_call in unless_accepted (λ o. is_running s.checkpoint ≡ false) _ s _ (λ p k. p.0) h

      begun_base : base_with begins [] [] r.store r.calls ≡ r.calls
      begun_base = unfold base_with base_of if'◌then◌else◌ is_begin call in
          ap (λ b. if' b then r.calls else base_after [] [] r.store r.calls) (ap (λ y. accepted (begin_call y).answer) r.after ∙ h)

      higher : (l : ℕ) → l ≤ s.level → any (is_mark l) (mark_for s ∷ []) ≡ false
      higher l k = unfold any is_mark mark_for in by (eqb (suc s.level) l) (λ e. absurd (omega (arith, eqb-true (suc s.level) l e))) (λ e. rw (e, any))

      here : Marked s₀ (rs ++ mark_for s ∷ []) (rows s.pages) s.next (suc s.level)
      here = at_mark rs [] (unfold mark_for in ap (λ u. rs ++ mark_of (suc s.level) u ∷ []) (agree_unwritten s (repeat_all rs s₀) w v a)) (unfold any in refl) (omega arith)
          a.rows a.next
