-- The order of the rows held, runs as keys, the blocks that a checkpoint takes, the stores that are left, and run as steps.
use Rattle.block_forms.specs.Limits.{block_size}
use Rattle.basics.proofs.Kit.{◌≡◌, refl, sym, ap, ◌∙◌, subst, true, false, some, none, Option, List, [], ◌∷◌, ◌++◌, map, ℕ, suc, ◌+◌, ◌*◌, ◌≤◌, ◌<◌, zero, ltb, length, length-append}
use Rattle.basics.proofs.Kit.{length-map, arith, min-eq_left}
use Rattle.basics.specs.Basics.{if'◌then◌else◌, all, sum, how_many, first, keep, is_empty, is_in}
use Rattle.basics.proofs.Facts.{by, lie, AllOf}
use Rattle.image_rows.specs.Rows.{is_own}
use Rattle.image.specs.Stages.{directories_for}
use Rattle.model.specs.State.{Checkpoint, idle, running, Outcome, Store, Page, count, Held}
use Rattle.model.specs.Rules.{fits, split_deep, split_all, without_pending, shown, live, is_frozen, freeze, is_dirty, thaw}
use Rattle.model.specs.Sight.{rows, versions}
use Rattle.model.specs.Transactions.{row_of, live_of, unless, Test, gives, ◌when◌, open_numbers, written_by, with_tuple}
use Rattle.model.specs.Checkpoint.{left, left_of, allocate, begin_call, with_progress, blocks_needed, step_of, store_page, store_directory, store_header, made, step_call, step_at, bad_image}
use Rattle.model.specs.Checkpoint.{in_turn, run_call}
use Rattle.model.specs.Calls.{TransactionCall, transact, transacts, begins, steps, runs, call, accepted, after_calls}
use Rattle.model.specs.WellFormed.{WellFormed, FrozenIn, NeverFallsBack, ListOrder, CheckpointWell, BeginAnswers, OneLess, times, writes_of, RunIsSteps}
use Rattle.model.specs.Places.{RunIsKey}
use Rattle.model.specs.Seen.{RefusedKeeps, ReadsOnly}
use Rattle.basics.proofs.Elements.{Pairs, pairs_parts, all_parts, all_map, all_true, leb-true, leb-false, eqb_self, eqb-true, not-false, many_length}
use Rattle.model.proofs.Owners.{count_write}
use Rattle.model.proofs.Splits.{Small, split_all_lem}
use Rattle.model.proofs.Frozen.{images_thaw, images_first, images_none}
use Rattle.model.proofs.Alloc.{Fresh, allocate_fresh}
use Rattle.model.proofs.Effects.{unless_accepted, Does, refuses, answers, starts, writes, finishes, undoes, does}
use Rattle.model.proofs.NoStores.{step_frame}
use Rattle.model.proofs.BlockUse.{length_fill}
use Rattle.model.proofs.Steps.{storable_is}
use Rattle.model.proofs.Sound.{PageOk, small, carry_ok, live_without_pending}
use Rattle.model.proofs.Rows.{sub_length}
use Rattle.model.proofs.Placing.{Before}
use Rattle.model.proofs.RowAfter.{With}
use Rattle.model.proofs.Runs.{Grouped}
use Rattle.model.proofs.ByPlace.{all_grouped, grouped_run}
use Rattle.model.proofs.Keeps.{rows_sub}
use Rattle.model.proofs.Well.{sound, before_true, many_frozen}
use Rattle.model.proofs.Shown.{taken_at_is}

pub list_order : ListOrder
list_order s w before between behind r q e =
    let p = subst (Pairs Before) e (sound s w).valid.has.rising in
    let p' = (pairs_parts Before before (r ∷ (between ++ q ∷ behind)) p).1 in
    before_true r q (all_parts (Before r) between (q ∷ behind) p'.0).1.0

-- ---- how many stores are left

frozen_dirty : (ps : List Page) → how_many is_frozen (map freeze ps) ≡ how_many is_dirty ps
unfolding how_many is_frozen freeze
frozen_dirty [] = refl
frozen_dirty (p ∷ ps) = rw (frozen_dirty ps)

pub begin_answers : BeginAnswers
unfolding begin_call
begin_answers s h =
    unless_accepted (λ o. (o.answer ≡ count (how_many is_frozen o.store.pages + directories_for (length s.pages) + 1)) × (left
    o.store ≡ how_many is_frozen o.store.pages + directories_for (length s.pages) + 1))
    _ s _ (λ p k. unfold gives with_progress blocks_needed left left_of in
    (rw (frozen_dirty s.pages), rw (length-map s.pages (λ p. p.block)) (omega arith))) h

-- of an accepted step
abbrev Stepped : Store → Outcome → Type 0
Stepped s o = (length o.writes ≡ 1) × (left s ≡ suc (left o.store)) × (o.answer ≡ count (left o.store))

step_less : (n : ℕ) (es ds : List ℕ) (s : Store) → s.checkpoint ≡ running n es ds → (o : Option Page) → first is_frozen s.pages ≡ o → Stepped s (step_of o n es ds s)
unfolding step_of store_page store_directory store_header made with_progress if'◌then◌else◌ left left_of
step_less n es ds s e (some p) f =
    let i = allocate s in
    let a = many_frozen s.pages in
    let b = many_frozen (thaw i s.pages) in
    let c = ap length (images_thaw i s.pages) in
    let d = ap length (images_first s.pages p f) in
    (refl, ap (λ c. left_of c s.pages) e ∙ rw (length_fill i es) (omega arith), refl)
step_less n es ds s e none f =
    let a = many_frozen s.pages in
    let d = ap length (images_none s.pages f) in
    by (ltb (length ds) (directories_for (length es)))
    (λ k. let few = leb-true (suc (length ds)) (directories_for (length es)) k in
    let len = length-append ds (allocate s ∷ []) in
    rw k (refl, ap (λ c. left_of c s.pages) e ∙ omega arith, refl))
    (λ k. let all = leb-false (suc (length ds)) (directories_for (length es)) k in rw k (refl, ap (λ c. left_of c s.pages) e ∙ omega arith, refl))

pub one_less : OneLess
unfolding step_call
one_less len s h = unless_accepted (Stepped s) _ s _ (λ p k. go s.checkpoint refl k) h
  where
    go : (c : Checkpoint) → s.checkpoint ≡ c → accepted (step_at c s).answer ≡ true → Stepped s (step_at c s)
    go idle e k = lie (unfold step_at gives accepted in k)
    go (running n es ds) e k = unfold step_at in step_less n es ds s e (first is_frozen s.pages) refl

-- ---- run

-- a step keeps the store's blocks
pub step_size : (s : Store) → (step_at s.checkpoint s).store.blocks ≡ s.blocks
unfolding with_progress
step_size s = step_frame (λ z. z.blocks ≡ s.blocks) s refl (λ l ps u b c. refl)

-- a step on an image of the store's length
pub step_at_lem : (len : ℕ) (s : Store) → len ≡ block_size * s.blocks → step_call len s ≡ step_at s.checkpoint s
unfolding step_call unless bad_image if'◌then◌else◌
step_at_lem len s e = rw (e, eqb_self (block_size * s.blocks))

in_turn_steps : (len k : ℕ) (s : Store) → len ≡ block_size * s.blocks
    → ((in_turn k s).store ≡ after_calls (times k (steps len)) s) × ((in_turn k s).writes ≡ writes_of (times k (steps len)) s)
unfolding in_turn times after_calls writes_of gives call
in_turn_steps len zero s e = (refl, refl)
in_turn_steps len (suc k) s e =
    let o = step_at s.checkpoint s in
    let r = in_turn_steps len k o.store (e ∙ ap (λ z. block_size * z) (sym (step_size s))) in
    subst (λ z. ((in_turn k o.store).store ≡ after_calls (times k (steps len)) z.store) × (o.writes ++ (in_turn k
    o.store).writes ≡ z.writes ++ writes_of (times k (steps len)) z.store))
    (sym (step_at_lem len s e)) (r.0, ap (λ z. o.writes ++ z) r.1)

-- while enough are left, each step makes its store
in_turn_count : (k : ℕ) (s : Store) → k ≤ left s → (length (in_turn k s).writes ≡ k) × (left s ≡ k + left (in_turn k s).store)
unfolding in_turn gives
in_turn_count zero s h = (refl, omega arith)
in_turn_count (suc k) s h =
    let o = step_at s.checkpoint s in
    let q = stepped s.checkpoint refl in
    let r = in_turn_count k o.store (omega (arith, q.1)) in
    (length-append o.writes (in_turn k o.store).writes ∙ omega (arith, q.0, r.0), omega (arith, q.1, r.1))
  where
    stepped : (c : Checkpoint) → s.checkpoint ≡ c → Stepped s (step_at c s)
    stepped idle e = absurd (none_left e)
      where
        none_left : s.checkpoint ≡ idle → ⊥
        none_left e = let z : left s ≡ 0 = (unfold left left_of in ap (λ c. left_of c s.pages) e) in omega arith
    stepped (running n es ds) e = unfold step_at in step_less n es ds s e (first is_frozen s.pages) refl

pub run_is_steps : RunIsSteps
unfolding run_call bad_image
run_is_steps limit len s h k e =
    unless_accepted (Ran k)
    _ s _ (λ p q. subst (λ j. Ran k (record { answer = count j; store = (in_turn j s).store; writes = (in_turn j s).writes })) e
    (let r = in_turn_steps len k s (eqb-true len (block_size * s.blocks) (not-false _ p.0)) in let n = in_turn_count k s (omega arith) in (refl, r.0, r.1, n.0, n.1))) h
  where
    Ran : ℕ → Outcome → Type 0
    Ran k o = (o.answer ≡ count k) × (o.store ≡ after_calls (times k (steps len)) s) × (o.writes ≡ writes_of (times k (steps len)) s)
        × (length o.writes ≡ k) × (left s ≡ k + left o.store)

-- ---- refused calls, and those that only answer

abbrev Kept : Store → Outcome → Type 0
Kept s o = (o.store ≡ s) × (o.writes ≡ [])

-- of a call that is not a transaction's: accepted, it may change anything
kept_unless : (ts : List Test) (s : Store) (o : Outcome) → (accepted o.answer ≡ false → Kept s o) → accepted (unless ts s o).answer ≡ false
    → Kept s (unless ts s o)
unfolding unless if'◌then◌else◌ gives
kept_unless [] s o f h = f h
kept_unless ((n when b) ∷ ts) s o f h = by b (λ k. rw k (refl, refl)) (λ k. rw k (kept_unless ts s o f (rw k at h)))

kept_step : (c : Checkpoint) (s : Store) → s.checkpoint ≡ c → accepted (step_at c s).answer ≡ false → Kept s (step_at c s)
unfolding step_at gives accepted
kept_step idle s e h = (refl, refl)
kept_step (running n es ds) s e h = lie (sym h ∙ ap accepted (step_less n es ds s e (first is_frozen s.pages) refl).2)

kept_does : (c : TransactionCall) (s : Store) (o : Outcome) → Does c s o → accepted o.answer ≡ false → Kept s o
unfolding gives accepted with_tuple
kept_does c s o (refuses n) h = (refl, refl)
kept_does c s o (answers a e i) h = (refl, refl)
kept_does c s o (starts tx e l i f) h = lie (sym h)
kept_does c s o (writes tx t k bs m e a) h = lie (sym h)
kept_does c s o (finishes tx e) h = lie (sym h)
kept_does c s o (undoes tx e) h = lie (sym h)

pub refused_keeps : RefusedKeeps
unfolding call begin_call step_call run_call gives accepted
refused_keeps (transacts c) s h = kept_does c s (transact c s) (does c s) h
refused_keeps begins s h = kept_unless _ s _ (λ k. lie (sym k)) h
refused_keeps (steps len) s h = kept_unless _ s _ (kept_step s.checkpoint s refl) h
refused_keeps (runs limit len) s h = kept_unless _ s _ (λ k. lie (sym k)) h

pub reads_only : ReadsOnly
reads_only c s n = go (transact c s) (does c s)
  where
    other : {X : Type 0} → ◌≡◌ {A = ℕ} 0 1 → X
    other z = absurd (omega (arith, z))

    go : (o : Outcome) → Does c s o → Kept s o
    go o (refuses n) = unfold gives in (refl, refl)
    go o (answers a e h) = unfold gives in (refl, refl)
    go o (starts tx e l i f) = other cc
    go o (writes tx t k bs m e a) = other cc
    go o (finishes tx e) = other cc
    go o (undoes tx e) = other cc

-- ---- choices for totality

ok_in : {ps : List Page} {p : Page} → AllOf PageOk ps → FrozenIn ps p → PageOk p
ok_in a f = (all_parts PageOk f.before (_ ∷ f.behind) (subst (AllOf PageOk) f.is a)).1.0

parts_fit : (hs : List Held) → AllOf Small hs → all fits (split_all hs) ≡ true
parts_fit [] a = unfold split_all split_deep fits all sum in refl
parts_fit (h ∷ hs) a =
    let parts = split_all (h ∷ hs) in
    all_true fits parts (all_map (λ us. (fits us ≡ true) × (is_empty us ≡ false)) (λ us. fits us ≡ true) (λ us q. q.0) parts (split_all_lem (h ∷ hs) (omega arith) a).0)

module _ (s : Store) (w : WellFormed s) where
  enough : (c : Checkpoint) → CheckpointWell c s → 1 < left_of c s.pages → (s.used (allocate s) ≡ false) × (1 ≤ allocate s) × (allocate s < s.blocks)
  unfolding left_of
  enough idle k h = absurd (omega arith)
  enough (running n es ds) r h =
      let f : Fresh s.blocks s.used (allocate s) = allocate_fresh s w.taken (omega (arith, r.room)) in
      (f.free, f.pos, f.low)

  counts_low : (tx : ℕ) → is_in tx (open_numbers s.active) ≡ true → written_by tx s.active ≤ s.capacity
  counts_low tx h =
      let v = (sound s w).valid in
      subst (λ n. n ≤ s.capacity) (sym (w.counts tx h)) (omega (arith, many_length (is_own tx) (rows s.pages), sub_length (rows_sub s.pages), v.has.few))

pub never_falls_back : NeverFallsBack
unfolding left
never_falls_back s w =
    let ok = (sound s w).valid.pages in
    record {
      removal = λ n os p f j. taken_at_is j p.tuples ((ok_in (carry_ok n os s.pages ok) f).2 f.frozen).1;
      shown_fits = λ p f. storable_is (shown p.tuples) ((ok_in ok f).2 f.frozen).0;
      parts = λ p f. let hs = map without_pending (live p.tuples) in parts_fit hs (small hs (live_without_pending p.tuples (ok_in ok f).0));
      block = λ h. enough s w s.checkpoint w.checkpoint h;
      low = counts_low s w;
      counted = λ tx h. count_write tx s.active h ∙ min-eq_left (omega (arith, counts_low s w tx h, w.capacity.1));
    }

-- ---- runs

pub run_is_key : RunIsKey
unfolding versions
run_is_key s w before run behind e lower x upper f =
    let h = (sound s w).valid.has in
    let rs = rows s.pages in
    let g = grouped_run rs before run behind (subst (Grouped rs) e (all_grouped s.pages h.rising h.differ).0) in
    (all_parts _ lower (x ∷ upper) (subst (AllOf (λ x. map (λ y. y.1) (live_of run) ≡ keep (With (row_of x)) rs)) f g)).1.0
