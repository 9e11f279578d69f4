-- The block stores of one call more, their levels, and a cut among them.
use Rattle.basics.proofs.Kit.{◌≡◌, refl, sym, ap, ◌∙◌, subst, ap₂, Bool, true, false, ◌&&◌, some, none, Option, List, [], ◌∷◌, ◌++◌, append_assoc, append-nil, map, ℕ, zero, suc, ◌+◌, ◌-◌}
use Rattle.basics.proofs.Kit.{◌*◌, ◌≤◌, ◌<◌, min, eqb, ltb, length, take, drop, arith}
use Rattle.basics.specs.Basics.{if'◌then◌else◌, first, how_many}
use Rattle.basics.proofs.Facts.{by, lie, never, AllOf}
use Rattle.basics.proofs.Elements.{all_append, all_map, eqb_self, all_take, all_drop, pos_not_zero, leb-true}
use Rattle.block_forms.specs.Tuple.{Byte, AllBytes}
use Rattle.block_forms.specs.Limits.{block_size}
use Rattle.block_forms.proofs.Laws.{encode_bytes}
use Rattle.image.specs.Stages.{directories_for}
use Rattle.model.specs.State.{Store, Page, Write, stored_bytes, Checkpoint, idle, running}
use Rattle.model.specs.Rules.{is_frozen}
use Rattle.model.specs.Transactions.{gives, unless}
use Rattle.model.specs.Checkpoint.{is_running, with_progress, allocate, left, left_of, made, store_page, store_directory, store_header, step_of, step_at, step_call, bad_image, in_turn, run_call}
use Rattle.model.specs.Calls.{Call, transacts, begins, steps, runs, call, is_begin, is_step, accepted, after_calls}
use Rattle.model.specs.Recover.{put_block, image_after}
use Rattle.model.specs.CrashRecovery.{Logged, tag, log, is_header, landed, image_with, Cut, stop, torn, whole}
use Rattle.model.specs.Checkpoints.{after_stores}
use Rattle.model.specs.WellFormed.{WellFormed}
use Rattle.model.proofs.Effects.{unless_out}
use Rattle.model.proofs.Laws.{never_falls_back}
use Rattle.model.proofs.Starts.{kept_well}
use Rattle.log_model.specs.Disk as disk
use Rattle.log_model.specs.Disk.{block_store, Cuts}

-- ---- one call more

pub after_append : (a b : List Call) (s : Store) → after_calls (a ++ b) s ≡ after_calls b (after_calls a s)
unfolding after_calls
after_append [] b s = refl
after_append (c ∷ a) b s = after_append a b (call c s).store

pub after_one : (a : List Call) (c : Call) (s : Store) → after_calls (a ++ c ∷ []) s ≡ (call c (after_calls a s)).store
unfolding after_calls
after_one a c s = after_append a (c ∷ []) s

-- the calls before the begin whose checkpoint the stores of a call belong to
unfoldable pub base_of : Call → Bool → List Call → List Call → List Call
base_of c ok past base = if' is_begin c && ok then past else base

-- the same, after a list of calls
unfoldable pub base_after : List Call → List Call → Store → List Call → List Call
base_after past base s [] = base
base_after past base s (c ∷ cs) = base_after (past ++ c ∷ []) (base_of c (accepted (call c s).answer) past base) (call c s).store cs

base_next : (past base : List Call) (s : Store) (d : Call) (cs : List Call)
    → base_after past base s (d ∷ cs) ≡ base_after (past ++ d ∷ []) (base_of d (accepted (call d s).answer) past base) (call d s).store cs
unfolding base_after
base_next past base s d cs = refl

log_next : (past base : List Call) (s : Store) (d : Call) (cs : List Call) → log past base s (d ∷ cs)
    ≡ map (tag (base_of d (accepted (call d s).answer) past base)) (call d s).writes
    ++ log (past ++ d ∷ []) (base_of d (accepted (call d s).answer) past base) (call d s).store cs
unfolding log base_of
log_next past base s d cs = refl

log_end : (past base : List Call) (s : Store) → log past base s [] ≡ []
unfolding log
log_end past base s = refl

base_end : (past base : List Call) (s : Store) → base_after past base s [] ≡ base
unfolding base_after
base_end past base s = refl

module _ (c : Call) where
  -- the base of the stores that c makes after the calls cs
  unfoldable pub base_with : List Call → List Call → Store → List Call → List Call
  base_with past base s cs = base_of c (accepted (call c (after_calls cs s)).answer) (past ++ cs) (base_after past base s cs)

  with_none : (past base : List Call) (s : Store) → base_of c (accepted (call c s).answer) past base ≡ base_with past base s []
  unfolding base_with base_after after_calls
  with_none past base s = ap (λ z. base_of c (accepted (call c s).answer) z base) (sym (append-nil past))

  with_next : (past base : List Call) (s : Store) (d : Call) (cs : List Call)
      → base_with past base s (d ∷ cs) ≡ base_with (past ++ d ∷ []) (base_of d (accepted (call d s).answer) past base) (call d s).store cs
  unfolding base_with after_calls base_after
  with_next past base s d cs =
      ap (λ z. base_of c (accepted (call c (after_calls cs (call d s).store)).answer) z
      (base_after (past ++ d ∷ []) (base_of d (accepted (call d s).answer) past base) (call d s).store cs)) (sym (append_assoc past (d ∷ []) cs))

  pub base_one : (past base : List Call) (s : Store) (cs : List Call) → base_after past base s (cs ++ c ∷ []) ≡ base_with past base s cs
  base_one past base s [] = base_next past base s c [] ∙ base_end _ _ _ ∙ with_none past base s
  base_one past base s (d ∷ cs) =
      base_next past base s d (cs ++ c ∷ []) ∙ base_one (past ++ d ∷ []) (base_of d (accepted (call d s).answer) past base) (call d s).store cs
      ∙ sym (with_next past base s d cs)

  pub log_one : (past base : List Call) (s : Store) (cs : List Call)
      → log past base s (cs ++ c ∷ []) ≡ log past base s cs ++ map (tag (base_with past base s cs)) (call c (after_calls cs s)).writes
  unfolding after_calls
  log_one past base s [] =
      log_next past base s c [] ∙ ap (λ z. map (tag (base_of c (accepted (call c s).answer) past base)) (call c s).writes ++ z) (log_end _ _ _) ∙ append-nil _
      ∙ ap (λ b. map (tag b) (call c s).writes) (with_none past base s) ∙ ap (λ l. l ++ map (tag (base_with past base s [])) (call c s).writes) (sym (log_end past base s))
  log_one past base s (d ∷ cs) =
      let b = base_of d (accepted (call d s).answer) past base in
      let W = map (tag b) (call d s).writes in
      let z = (call d s).store in
      let N = (call c (after_calls cs z)).writes in
      log_next past base s d (cs ++ c ∷ []) ∙ ap (λ l. W ++ l) (log_one (past ++ d ∷ []) b z cs)
      ∙ sym (append_assoc W (log (past ++ d ∷ []) b z cs) (map (tag (base_with (past ++ d ∷ []) b z cs)) N))
      ∙ ap₂ (λ l v. l ++ map (tag v) N) (sym (log_next past base s d cs)) (sym (with_next past base s d cs))

-- ---- images

pub stores_append : (img : List ℕ) (a b : List Logged) → after_stores img (a ++ b) ≡ after_stores (after_stores img a) b
unfolding after_stores
stores_append img [] b = refl
stores_append img (w ∷ a) b = stores_append (image_with img w) a b

pub stores_tagged : (img : List ℕ) (base : List Call) (ws : List Write) → after_stores img (map (tag base) ws) ≡ image_after ws img
unfolding after_stores image_after image_with tag
stores_tagged img base [] = refl
stores_tagged img base (w ∷ ws) = stores_tagged (put_block img w.at (stored_bytes w)) base ws

pub put_bytes : (img : List ℕ) (b : ℕ) (xs : List ℕ) → AllBytes img → AllBytes xs → AllBytes (put_block img b xs)
unfolding put_block
put_bytes img b xs a x =
    let rest = drop (block_size * b + block_size) img in
    all_append Byte (take (block_size * b) img) (xs ++ rest) (all_take Byte (block_size * b) img a)
    (all_append Byte xs rest x (all_drop Byte (block_size * b + block_size) img a))

pub cut_bytes : {img : List ℕ} {base : List Call} {ws : List Logged} {img' : List ℕ} {base' : List Call} → Cut img base ws img' base' → AllBytes img → AllBytes img'
unfolding image_with
cut_bytes stop a = a
cut_bytes {img} (torn {w = w} h xs l x) a = put_bytes img w.write.at xs a x
cut_bytes {img} (whole {w = w} c) a = cut_bytes c (put_bytes img w.write.at (stored_bytes w.write) a (encode_bytes w.write.what))

-- ---- cuts

-- the base after stores that are all whole
unfoldable landed_all : List Call → List Logged → List Call
landed_all base [] = base
landed_all base (w ∷ ws) = landed_all (landed w base) ws

-- stores that are whole, then a cut
cut_behind : (img : List ℕ) (base : List Call) (a b : List Logged) {img' : List ℕ} {base' : List Call} → Cut (after_stores img a) (landed_all base a) b img' base'
    → Cut img base (a ++ b) img' base'
unfolding after_stores landed_all
cut_behind img base [] b c = c
cut_behind img base (w ∷ a) b c = whole (cut_behind (image_with img w) (landed w base) a b c)

-- a cut of block stores on disk is one of the same stores with their bases
tagged_cut : (base b : List Call) (ws : List Write) {img log img' log' : List ℕ} → Cuts img log (map block_store ws) img' log'
    → (log' ≡ log) × ((base' : List Call) × Cut img base (map (tag b) ws) img' base')
unfolding tag is_header image_with
tagged_cut base b [] disk.stop = (refl, (base, stop))
tagged_cut base b (w ∷ ws) disk.stop = (refl, (base, stop))
tagged_cut base b (w ∷ ws) (disk.torn_block h xs l a) = (refl, (base, torn h xs l a))
tagged_cut base b (w ∷ ws) (disk.whole_block c) =
    let r = tagged_cut (landed (tag b w) base) b ws c in (r.0, (r.1.0, whole r.1.1))

pub cut_stores : (img : List ℕ) (a : List Logged) (b : List Call) (ws : List Write) {img₁ log img' log' : List ℕ} → after_stores img a ≡ img₁
    → Cuts img₁ log (map block_store ws) img' log' → (log' ≡ log) × ((base : List Call) × Cut img [] (a ++ map (tag b) ws) img' base)
cut_stores img a b ws {img₁} {log} {img'} {log'} e c =
    let r = tagged_cut (landed_all [] a) b ws c in
    (r.0, (r.1.0, cut_behind img [] a (map (tag b) ws) (subst (λ z. Cut z (landed_all [] a) (map (tag b) ws) img' r.1.0) (sym e) r.1.1)))

-- ---- levels: they never fall, and a header's store raises them

abbrev pub Rises : Store → Store → List Write → Type 0
Rises s z ws = (s.level ≤ z.level) × AllOf (λ w. eqb w.at 0 ≡ true → s.level < z.level) ws

first_many : (ps : List Page) (p : Page) → first is_frozen ps ≡ some p → 1 ≤ how_many is_frozen ps
unfolding first how_many if'◌then◌else◌
first_many [] p e = never e
first_many (q ∷ ps) p e = by (is_frozen q) (λ h. rw h (omega arith)) (λ h. rw h (first_many ps p (rw (h, first) at e)))

-- the block taken is not the header's
taken_block : (s : Store) → WellFormed s → 1 < left s → eqb (allocate s) 0 ≡ false
taken_block s w h = pos_not_zero (allocate s) (omega (arith, ((never_falls_back s w).block h).1))

-- while a page or a directory block is to be written, more than the header is left
more_left : (s : Store) (n : ℕ) (es ds : List ℕ) → s.checkpoint ≡ running n es ds → 1 ≤ how_many is_frozen s.pages + (directories_for (length es) - length ds) → 1 < left s
unfolding left left_of
more_left s n es ds c h = rw c (omega (arith, h))

step_of_rises : (s : Store) → WellFormed s → (n : ℕ) (es ds : List ℕ) → s.checkpoint ≡ running n es ds → (o : Option Page) → first is_frozen s.pages ≡ o
    → Rises s (step_of o n es ds s).store (step_of o n es ds s).writes
unfolding step_of store_page store_directory store_header made with_progress if'◌then◌else◌
step_of_rises s w n es ds c (some p) f =
    let many = first_many s.pages p f in
    let b = taken_block s w (more_left s n es ds c (omega (arith, many))) in
    (omega arith, (λ h. lie (sym b ∙ h), tt))
step_of_rises s w n es ds c none f =
    by (ltb (length ds) (directories_for (length es)))
    (λ k. let l = leb-true (suc (length ds)) (directories_for (length es)) k in
    let b = taken_block s w (more_left s n es ds c (omega (arith, l))) in
    rw k (omega arith, (λ h. lie (sym b ∙ h), tt)))
    (λ k. rw k (omega arith, (λ h. omega arith, tt)))

step_rises : (s : Store) → WellFormed s → (c : Checkpoint) → s.checkpoint ≡ c → Rises s (step_at c s).store (step_at c s).writes
unfolding step_at gives
step_rises s w idle e = (omega arith, tt)
step_rises s w (running n es ds) e = step_of_rises s w n es ds e (first is_frozen s.pages) refl

-- one step, lent an image of the right length
step_call_lem : (s : Store) → step_call (block_size * s.blocks) s ≡ step_at s.checkpoint s
unfolding step_call bad_image unless if'◌then◌else◌
step_call_lem s = rw (eqb_self (block_size * s.blocks))

step_well : (s : Store) → WellFormed s → WellFormed (step_at s.checkpoint s).store
unfolding call
step_well s w = subst (λ o. WellFormed o.store) (step_call_lem s) (kept_well (steps (block_size * s.blocks)) s tt w)

turn_rises : (k : ℕ) (s : Store) → WellFormed s → Rises s (in_turn k s).store (in_turn k s).writes
unfolding in_turn gives
turn_rises zero s w = (omega arith, tt)
turn_rises (suc k) s w =
    let o = step_at s.checkpoint s in
    let a = step_rises s w s.checkpoint refl in
    let b = turn_rises k o.store (step_well s w) in (
      omega (arith, a.0, b.0),
      all_append _ o.writes (in_turn k o.store).writes
          (all_map (λ x. eqb x.at 0 ≡ true → s.level < o.store.level) _ (λ x f h. omega (arith, f h, b.0)) o.writes a.1)
          (all_map (λ x. eqb x.at 0 ≡ true → o.store.level < (in_turn k o.store).store.level) _ (λ x f h. omega (arith, f h, a.0)) (in_turn k o.store).writes b.1),
    )

pub steps_rise : (c : Call) (s : Store) → is_step c ≡ true → WellFormed s → Rises s (call c s).store (call c s).writes
unfolding call is_step step_call run_call
steps_rise (transacts c) s h w = lie h
steps_rise begins s h w = lie h
steps_rise (steps len) s h w = unless_out (Rises s) _ s _ (omega arith, tt) (step_rises s w s.checkpoint refl)
steps_rise (runs limit len) s h w = unless_out (Rises s) _ s _ (omega arith, tt) (turn_rises (min limit (left s)) s w)

-- without a checkpoint they change nothing
abbrev Unchanged : Store → Store → List Write → Type 0
Unchanged s z ws = (z ≡ s) × (ws ≡ [])

idle_step : (c : Checkpoint) (s : Store) → is_running c ≡ false → Unchanged s (step_at c s).store (step_at c s).writes
unfolding step_at gives is_running
idle_step idle s h = (refl, refl)
idle_step (running n es ds) s h = lie (sym h)

idle_turn : (k : ℕ) (s : Store) → is_running s.checkpoint ≡ false → Unchanged s (in_turn k s).store (in_turn k s).writes
unfolding in_turn gives
idle_turn zero s h = (refl, refl)
idle_turn (suc k) s h =
    let a = idle_step s.checkpoint s h in
    let b = idle_turn k s h in
    (ap (λ z. (in_turn k z).store) a.0 ∙ b.0, ap₂ (λ x y. x ++ y) a.1 (ap (λ z. (in_turn k z).writes) a.0 ∙ b.1))

pub steps_idle : (c : Call) (s : Store) → is_step c ≡ true → is_running s.checkpoint ≡ false → Unchanged s (call c s).store (call c s).writes
unfolding call is_step step_call run_call
steps_idle (transacts c) s h i = lie h
steps_idle begins s h i = lie h
steps_idle (steps len) s h i = unless_out (Unchanged s) _ s _ (refl, refl) (idle_step s.checkpoint s i)
steps_idle (runs limit len) s h i = unless_out (Unchanged s) _ s _ (refl, refl) (idle_turn (min limit (left s)) s i)

-- and none of them begins a checkpoint
pub step_no_begin : (c : Call) → is_step c ≡ true → is_begin c ≡ false
unfolding is_step is_begin
step_no_begin (transacts c) h = refl
step_no_begin begins h = lie h
step_no_begin (steps len) h = refl
step_no_begin (runs limit len) h = refl
