-- What is recovered after a cut, in whatever life: a store whose place in the records is known.
use Rattle.basics.proofs.Kit.{◌≡◌, refl, sym, ap, ◌∙◌, subst, true, false, List, [], ◌∷◌, map, ℕ, suc, ◌*◌, ◌≤◌, length, arith}
use Rattle.basics.specs.Basics.{any, is_in}
use Rattle.basics.proofs.Facts.{AllOf}
use Rattle.basics.proofs.Elements.{all_map}
use Rattle.block_forms.specs.Limits.{block_size}
use Rattle.image_rows.specs.Rows.{is_own}
use Rattle.image.specs.View.{view}
use Rattle.image.specs.Stages.{holds}
use Rattle.image.proofs.Staged.{holds_eq}
use Rattle.model.specs.State.{Store}
use Rattle.model.specs.Sight.{rows, held}
use Rattle.model.specs.Transactions.{open_numbers}
use Rattle.model.specs.Checkpoint.{is_running}
use Rattle.model.specs.Calls.{Call, call, after_calls}
use Rattle.model.specs.Recover.{memory_for, fresh_store, recover}
use Rattle.model.specs.CrashRecovery.{Start, Logged, log, is_header, image_with, Cut, content}
use Rattle.model.specs.Checkpoints.{after_stores}
use Rattle.model.specs.WellFormed.{WellFormed}
use Rattle.model.proofs.NoStores.{call_leaves}
use Rattle.model.proofs.BlockUse.{idle_of}
use Rattle.model.proofs.Recovery.{found}
use Rattle.model.proofs.Inv.{listed, listed_held}
use Rattle.model.proofs.Start.{start_idle, start_active}
use Rattle.model.proofs.Whole.{ready}
use Rattle.model.proofs.Well.{sound}
use Rattle.model.proofs.Bytes.{accepted_recovery, make_accepted, view_sane}
use Rattle.model.proofs.Views.{recover_view, WriteOk}
use Rattle.model.proofs.Claim.{writes_ok}
use Rattle.model.proofs.Starts.{recovered_well, made_well}
use Rattle.model.proofs.Line.{crash_recovery, started, length_after}
use Rattle.model.proofs.Landed.{recovered_header}
use Rattle.log_records.specs.Records.{LogRecord}
use Rattle.log_model.proofs.Marks.{Marked}
use Rattle.log_model.proofs.Lives.{Point, Run}

-- ---- recovered stores

pub idle_back : (m : ℕ) (img : List ℕ) (r : Store) → recover m img ≡ holds r → is_running r.checkpoint ≡ false
unfolding is_running
idle_back m img r e = ap is_running (start_idle r.blocks (view img) r (found r.blocks (view img) r (accepted_recovery m img r e).seen))

-- without a checkpoint all tuples held are live
pub rows_held : (s : Store) → WellFormed s → is_running s.checkpoint ≡ false → rows s.pages ≡ held s.pages
rows_held s w i = (ready s (sound s w).valid (idle_of s.checkpoint i)).same

pub open_back : (m : ℕ) (img : List ℕ) (r : Store) → recover m img ≡ holds r → (u : ℕ) → is_in u (open_numbers r.active) ≡ any (is_own u) (rows r.pages)
open_back m img r e =
    start_active r.blocks (view img) r (found r.blocks (view img) r (accepted_recovery m img r e).seen) (rows_held r (recovered_well m img r e) (idle_back m img r e))

-- what is recovered does not depend on the memory, if that is long enough
pub same_back : (m n : ℕ) (img : List ℕ) (r q : Store) → recover m img ≡ holds r → recover n img ≡ holds q → r ≡ q
same_back m n img r q e f =
    let a = accepted_recovery m img r e in
    let b = accepted_recovery n img q f in
    let k : r.blocks ≡ q.blocks = omega (arith, a.long, b.long) in
    holds_eq (sym a.seen ∙ ap (λ i. recover_view i (view img)) k ∙ b.seen)

-- pages of the same content hold the same tuples
same_held : (r b : Store) → map content r.pages ≡ map content b.pages → held r.pages ≡ held b.pages
same_held r b e = sym (listed_held r.pages) ∙ ap listed e ∙ listed_held b.pages

-- ---- after a cut

-- the image brings back a store that stands at a known place in the records rs
pub record Back (s₀ : Store) (rs : List LogRecord) (img : List ℕ) (m : ℕ) : Type 0 where
  pub store : Store
  pub recovers : recover m img ≡ holds store
  pub capacity : store.capacity ≡ s₀.capacity
  pub marked : Marked s₀ rs (rows store.pages) store.next store.level

calls_capacity : (cs : List Call) (s : Store) → (after_calls cs s).capacity ≡ s.capacity
unfolding after_calls
calls_capacity [] s = refl
calls_capacity (c ∷ cs) s = calls_capacity cs (call c s).store ∙ (call_leaves c s).capacity

start_well : (img : List ℕ) (s : Store) → Start img s → WellFormed s × (is_running s.checkpoint ≡ false)
start_well img s (Start.fresh old m n e) = (made_well (length old) m n s e, quiet)
  where
    quiet : is_running s.checkpoint ≡ false
    quiet = ap (λ z. is_running z.checkpoint) (make_accepted (length old) m n s e).4 ∙ (unfold fresh_store is_running in refl)
start_well img s (Start.recovered m e) = (recovered_well m img s e, idle_back m img s e)

module _ (s₀ : Store) (img : List ℕ) (s : Store) (rs : List LogRecord) (r : Run s₀ img s rs) (img' : List ℕ) (base : List Call)
    (cut : Cut r.first [] (log [] [] r.store r.calls) img' base) where
  -- of the header found: capacity, level and the calls before its begin
  abbrev Place : ℕ → ℕ → List Call → Type 0
  Place c l b =
      (c ≡ s₀.capacity) × WellFormed (after_calls b r.store) × (is_running (after_calls b r.store).checkpoint ≡ false)
      × Marked s₀ rs (rows (after_calls b r.store).pages) (after_calls b r.store).next l

  capacity_at : (b : List Call) → (after_calls b r.store).capacity ≡ s₀.capacity
  capacity_at b = calls_capacity b r.store ∙ r.capacity

  start_place : Place r.store.capacity r.store.level []
  unfolding after_calls
  start_place = let k = start_well r.first r.store r.start in (r.capacity, k.0, k.1, r.marked)

  header_place : (w : Logged) → (is_header w ≡ true → Point s₀ rs (after_calls w.before r.store) s.level)
      → is_header w ≡ true → Place (after_calls w.before r.store).capacity (suc (after_calls w.before r.store).level) w.before
  header_place w f h = let p = f h in (capacity_at w.before, p.well, p.idle, p.marked)

  pub back_of : (m : ℕ) → memory_for s₀.capacity ≤ m → Back s₀ rs img' m
  back_of m h =
      let k = crash_recovery r.first r.bytes r.store r.start r.calls r.typed img' base cut m (subst (λ c. memory_for c ≤ m) (sym r.capacity) h) in
      let b = k.0 in
      let q = recovered_header Place r.first r.store r.start r.calls r.typed start_place
      (all_map _ _ header_place (log [] [] r.store r.calls) r.headers) img' base cut m b k.1 in
      let z = after_calls base r.store in
      let same : rows b.pages ≡ rows z.pages =
      rows_held b (recovered_well m img' b k.1) (idle_back m img' b k.1) ∙ same_held b z k.2.pages
      ∙ sym (rows_held z q.1 q.2) in
      record {
        store = b;
        recovers = k.1;
        capacity = q.0;
        marked = subst (λ n. Marked s₀ rs (rows b.pages) n b.level) (sym k.2.next) (subst (λ x. Marked s₀ rs x z.next b.level) (sym same) q.3);
      }

-- ---- the length of the image

stores_length : (n : ℕ) (img : List ℕ) (ws : List Logged) → length img ≡ block_size * n → AllOf (WriteOk n) ws → length (after_stores img ws) ≡ block_size * n
unfolding after_stores
stores_length n img [] e ok = e
stores_length n img (w ∷ ws) e ok = stores_length n (image_with img w) ws (length_after n img w e ok.0) ok.1

calls_blocks : (cs : List Call) (s : Store) → (after_calls cs s).blocks ≡ s.blocks
unfolding after_calls
calls_blocks [] s = refl
calls_blocks (c ∷ cs) s = calls_blocks cs (call c s).store ∙ (call_leaves c s).blocks

pub run_length : (s₀ : Store) (img : List ℕ) (s : Store) (rs : List LogRecord) → Run s₀ img s rs → length img ≡ block_size * s.blocks
run_length s₀ img s rs r =
    let a = started r.first r.store r.start in
    let ok = writes_ok (view r.first) (view_sane r.first) r.store a.least a.most a.seen r.calls r.typed in
    ap length (sym r.image) ∙ stores_length r.store.blocks r.first (log [] [] r.store r.calls) a.long ok
    ∙ ap (λ n. block_size * n) (sym (ap (λ z. z.blocks) (sym r.after) ∙ calls_blocks r.calls r.store))
