-- The claims over an invariant of the store alone: `Valid`, which every call keeps and which makes an idle store `Ready`.
use Rattle.basics.proofs.Kit.{◌≡◌, refl, sym, ap, ◌∙◌, subst, Bool, true, false, not, List, [], ◌∷◌, ◌++◌, append-nil, map, ℕ, suc, ◌≤◌, zero, min, eqb, ltb, length}
use Rattle.basics.specs.Basics.{if'◌then◌else◌, first}
use Rattle.basics.proofs.Facts.{AllOf, by, by-option}
use Rattle.block_forms.specs.Block.{Block}
use Rattle.block_forms.specs.Limits.{most_number, block_limit}
use Rattle.image.specs.Stages.{directories_for, holds}
use Rattle.image.specs.View.{View}
use Rattle.model.specs.State.{Store, Checkpoint, Page, idle, running, Held, Active, Outcome, Write, count}
use Rattle.model.specs.Rules.{fresh, is_frozen}
use Rattle.model.specs.Transactions.{changed, unless, gives, ◌when◌}
use Rattle.model.specs.Checkpoint.{begin_call, is_running, free_count, blocks_needed, step_at, step_of, in_turn, step_call, bad_image, run_call, left}
use Rattle.model.specs.Calls.{TransactionCall, transact, Call, transacts, begins, steps, runs, call, is_begin, accepted, after_calls}
use Rattle.model.specs.CrashRecovery.{landed, Logged, is_header, tag, log}
use Rattle.model.proofs.Views.{CutV, recover_view, WriteOk, stop, put, torn, whole}
use Rattle.model.proofs.Frozen.{images, images_moves}
use Rattle.model.proofs.Effects.{unless_out}
use Rattle.model.proofs.NoStores.{no_stores, NoStores}
use Rattle.model.proofs.BlockUse.{idle_of, BlockUse, Ledger}
use Rattle.model.proofs.Recovery.{recovers}
use Rattle.model.proofs.Inv.{Tied, tied_fresh, tied_frozen, Phase, Inv, Ready, Like, Good}
use Rattle.model.proofs.Steps.{still, FrozenSmall, Stepped, directory_step, header_step, page_step, Top, FrozenFit, wrote}
use Rattle.model.proofs.Begin.{begin_inv}
use Rattle.model.proofs.Moves.{still_frozen}
use Rattle.model.proofs.Pages.{all_moves}

-- ---- calls that make no store and touch no checkpoint

-- what ties a clean page to the view, idle and running
abbrev Tie : View → Store → Checkpoint → Page → Type 0
Tie img s idle p = Tied img s.level p
Tie img s (running n₀ es ds) p = Tied img (suc s.level) p

tie_fresh : (img : View) (s : Store) (c : Checkpoint) (t : ℕ) (ts : List Held) → Tie img s c (fresh t ts)
tie_fresh img s idle t ts = tied_fresh img s.level t ts
tie_fresh img s (running n₀ es ds) t ts = tied_fresh img (suc s.level) t ts

tie_frozen : (img : View) (s : Store) (c : Checkpoint) (p : Page) (ts : List Held) → p.frozen ≡ true → Tie img s c p → Tie img s c (still_frozen p ts)
tie_frozen img s idle p ts h t = tied_frozen img s.level p ts h t
tie_frozen img s (running n₀ es ds) p ts h t = tied_frozen img (suc s.level) p ts h t

phase_changed : (img : View) (s b : Store) (nx : ℕ) (ps : List Page) (os : List Active) → images ps ≡ images s.pages → (c : Checkpoint)
    → (AllOf (Tie img s c) s.pages → AllOf (Tie img s c) ps) → Phase img s b c → Phase img (changed s nx ps os) b c
unfolding changed
phase_changed img s b nx ps os e idle k ph = k ph
phase_changed img s b nx ps os e (running n₀ es ds) k r =
    record {
      base = r.base;
      stored = rw e r.stored;
      dirs = r.dirs;
      used = r.used;
      names = r.names;
      tied = k r.tied;
    }

inv_kept : (n : ℕ) (img : View) (s b b₀ : Store) (o : Outcome) → NoStores s o → Inv n img s b b₀ → Inv n img o.store b b₀
inv_kept n img s b b₀ o q inv =
    let T = Tie img s s.checkpoint in
    subst (λ t. Inv n img t b b₀) (sym q.eq)
    (unfold changed in record {
      blocks = inv.blocks;
      good = inv.good;
      phase = phase_changed img s b q.next q.pages q.active (q.moved _ images_moves) s.checkpoint
          (q.moved _ (all_moves T (tie_fresh img s s.checkpoint) (tie_frozen img s s.checkpoint))) inv.phase;
    })

-- ---- begin and step

begin_out : (n : ℕ) (img : View) (s b b₀ : Store) → (s.checkpoint ≡ idle → Ready s) → Inv n img s b b₀
    → ((begin_call s).writes ≡ []) × Inv n img (begin_call s).store (if' accepted (begin_call s).answer then s else b) b₀
unfolding begin_call unless gives accepted if'◌then◌else◌
begin_out n img s b b₀ rd inv =
    by (is_running s.checkpoint) (λ h. rw h (refl, inv))
    (λ h. by (eqb s.level most_number) (λ k. rw (h, k) (refl, inv))
    (λ k. by (ltb (free_count s) (blocks_needed s.pages)) (λ m. rw (h, k, m) (refl, inv))
    (λ m. let i = idle_of s.checkpoint h in rw (h, k, m) (refl, begin_inv n img s b b₀ inv i (rd i)))))

step_inv : (n : ℕ) (img : View) (s b b₀ : Store) → BlockUse s → FrozenSmall s → Inv n img s b b₀ → Stepped n img s b b₀ (step_at s.checkpoint s)
unfolding step_at gives if'◌then◌else◌ step_of
step_inv n img s b b₀ bk sm inv = go s.checkpoint bk.phase inv.phase
  where
    go : (c : Checkpoint) → Ledger c s → Phase img s b c → Stepped n img s b b₀ (step_at c s)
    go idle l ph = still refl inv
    go (running n₀ es ds) l r =
        by-option (first is_frozen s.pages)
        (λ e. rw (e, step_of) (by (ltb (length ds) (directories_for (length es)))
        (λ k. rw (k, if'◌then◌else◌) (directory_step n img s b b₀ n₀ es ds bk l inv r e k))
        (λ k. rw (k, if'◌then◌else◌) (header_step n img s b b₀ n₀ es ds bk l inv r e k))))
        (λ p e. rw (e, step_of) (page_step n img s b b₀ n₀ es ds p bk l inv r sm e))

-- ---- the stores of a list of calls: every cut recovers, and every block written is in range

landed_after : (c : Bool) (base base₀ : List Call) (s₀ : Store)
    → (if' c then after_calls base s₀ else after_calls base₀ s₀) ≡ after_calls (if' c then base else base₀) s₀
unfolding if'◌then◌else◌
landed_after true base base₀ s₀ = refl
landed_after false base base₀ s₀ = refl

after_snoc : (pre : List Call) (c : Call) (s : Store) → after_calls (pre ++ c ∷ []) s ≡ (call c (after_calls pre s)).store
unfolding after_calls
after_snoc [] c s = refl
after_snoc (d ∷ pre) c s = after_snoc pre c (call d s).store

-- n: the blocks; s₀: the store at the start; Okay: the calls allowed
module _ (n : ℕ) (s₀ : Store) (Okay : Call → Type 0) (Valid : Store → Type 0)
    (keeps : (c : Call) (s : Store) → Okay c → Valid s → Valid (call c s).store) (steps-keep : (s : Store) → Valid s → Valid (step_at s.checkpoint s).store)
    (ready : (s : Store) → Valid s → s.checkpoint ≡ idle → Ready s) (block_use : (s : Store) → Valid s → BlockUse s)
    (small : (s : Store) → Valid s → FrozenSmall s) where
  pub record Goes (img : View) (base₀ : List Call) (ws : List Logged) : Type 0 where
    pub safe : (img' : View) (base' : List Call) → CutV img base₀ ws img' base'
        → (r : Store) × (recover_view n img' ≡ holds r) × Like r (after_calls base' s₀)
    pub tops : AllOf (λ w. is_header w ≡ true → Top w.write.what (after_calls w.before s₀)) ws
    pub ranged : n ≤ block_limit → ((s : Store) → Valid s → FrozenFit s) → AllOf (WriteOk n) ws

  abbrev Now : View → Store → List Call → List Call → Type 0
  Now img s base base₀ = Inv n img s (after_calls base s₀) (after_calls base₀ s₀)

  good_safe : (img : View) (used : ℕ → Bool) (base₀ : List Call) → Good n img used (after_calls base₀ s₀)
      → (r : Store) × (recover_view n img ≡ holds r) × Like r (after_calls base₀ s₀)
  good_safe img used base₀ g = (g.back, recovers n img g.back g.found, g.like)

  goes_nil : (img : View) (used : ℕ → Bool) (base₀ : List Call) → Good n img used (after_calls base₀ s₀) → Goes img base₀ []
  goes_nil img used base₀ g = record { safe = cuts; tops = tt; ranged = λ m f. tt }
    where
      cuts : (img' : View) (base' : List Call) → CutV img base₀ [] img' base'
          → (r : Store) × (recover_view n img' ≡ holds r) × Like r (after_calls base' s₀)
      cuts img' base' stop = good_safe img used base₀ g

  goes_cons : (img : View) (used : ℕ → Bool) (base₀ : List Call) (w : Logged) (ws : List Logged) → Good n img used (after_calls base₀ s₀)
      → (is_header w ≡ false → (x : Block) → Good n (put img w.write.at x) used (after_calls base₀ s₀))
      → (n ≤ block_limit → ((s : Store) → Valid s → FrozenFit s) → WriteOk n w) → (is_header w ≡ true → Top w.write.what (after_calls w.before s₀))
      → Goes (put img w.write.at w.write.what) (landed w base₀) ws → Goes img base₀ (w ∷ ws)
  goes_cons img used base₀ w ws g t ok top r = record { safe = cuts; tops = (top, r.tops); ranged = λ m f. (ok m f, r.ranged m f) }
    where
      cuts : (img' : View) (base' : List Call) → CutV img base₀ (w ∷ ws) img' base'
          → (r : Store) × (recover_view n img' ≡ holds r) × Like r (after_calls base' s₀)
      cuts img' base' stop = good_safe img used base₀ g
      cuts img' base' (torn h x) = good_safe (put img w.write.at x) used base₀ (t h x)
      cuts img' base' (whole c) = r.safe img' base' c

  step_goes : (img : View) (s : Store) (base base₀ : List Call) (o : Outcome) (more : List Write) (rest : List Logged) → Valid s
      → Now img s base base₀
      → Stepped n img s (after_calls base s₀) (after_calls base₀ s₀) o
      → ((img' : View) (base₀' : List Call) → Now img' o.store base base₀' → Goes img' base₀' (map (tag base) more ++ rest))
      → Goes img base₀ (map (tag base) (o.writes ++ more) ++ rest)
  unfolding tag landed is_header
  step_goes img s base base₀ o more rest v inv (still e i) r = subst (λ ws. Goes img base₀ (map (tag base) (ws ++ more) ++ rest)) (sym e) (r img base₀ i)
  step_goes img s base base₀ o more rest v inv (wrote w e low fit top t i) r =
      subst (λ ws. Goes img base₀ (map (tag base) (ws ++ more) ++ rest)) (sym e)
      (goes_cons img s.used base₀ (tag base w) (map (tag base) more ++ rest) inv.good t (λ m f. (low, fit m (f s v))) top
      (r (put img w.at w.what) (if' eqb w.at 0 then base else base₀)
      (subst (λ z. Inv n (put img w.at w.what) o.store (after_calls base s₀) z) (landed_after (eqb w.at 0) base base₀ s₀) i)))

  in_turn_goes : (k : ℕ) (img : View) (s : Store) (base base₀ : List Call) (rest : List Logged) → Valid s → Now img s base base₀
      → ((img' : View) (base₀' : List Call) → Now img' (in_turn k s).store base base₀' → Goes img' base₀' rest)
      → Goes img base₀ (map (tag base) (in_turn k s).writes ++ rest)
  unfolding in_turn gives
  in_turn_goes zero img s base base₀ rest v inv r = r img base₀ inv
  in_turn_goes (suc k) img s base base₀ rest v inv r =
      let o = step_at s.checkpoint s in
      step_goes img s base base₀ o (in_turn k o.store).writes rest v inv (step_inv n img s (after_calls base s₀) (after_calls base₀ s₀) (block_use s v) (small s v) inv)
      (λ img' base₀' i. in_turn_goes k img' o.store base base₀' rest (steps-keep s v) i r)

  -- what comes after a call: the store t, from which the rest of the calls is made
  abbrev Rest : List Call → List Call → Store → List Call → Type 0
  Rest past base t cs = (img : View) (base₀ : List Call) → Now img t base base₀ → Goes img base₀ (log past base t cs)

  step_log : (len : ℕ) (img : View) (s : Store) (past base base₀ : List Call) (cs : List Call) → Valid s → Now img s base base₀
      → Rest (past ++ steps len ∷ []) base (step_call len s).store cs → Goes img base₀ (log past base s (steps len ∷ cs))
  unfolding log if'◌then◌else◌ call is_begin step_call
  step_log len img s past base base₀ cs v inv r =
      let past' = past ++ steps len ∷ [] in
      let o = step_at s.checkpoint s in
      unless_out (λ t ws. Rest past' base t cs → Goes img base₀ (map (tag base) ws ++ log past' base t cs)) (bad_image len s ∷ []) s o
      (λ r. r img base₀ inv)
      (λ r. subst (λ ws. Goes img base₀ (map (tag base) ws ++ log past' base o.store cs)) (append-nil o.writes)
      (step_goes img s base base₀ o [] _ v inv (step_inv n img s (after_calls base s₀) (after_calls base₀ s₀) (block_use s v) (small s v) inv) r)) r

  run_log : (limit len : ℕ) (img : View) (s : Store) (past base base₀ : List Call) (cs : List Call) → Valid s → Now img s base base₀
      → Rest (past ++ runs limit len ∷ []) base (run_call limit len s).store cs → Goes img base₀ (log past base s (runs limit len ∷ cs))
  unfolding log if'◌then◌else◌ call is_begin run_call
  run_log limit len img s past base base₀ cs v inv r =
      let past' = past ++ runs limit len ∷ [] in
      let k = min limit (left s) in
      unless_out (λ t ws. Rest past' base t cs → Goes img base₀ (map (tag base) ws ++ log past' base t cs))
      (bad_image len s ∷ 18 when not (is_running s.checkpoint) ∷ []) s
      (record { answer = count k; store = (in_turn k s).store; writes = (in_turn k s).writes })
      (λ r. r img base₀ inv) (λ r. in_turn_goes k img s base base₀ _ v inv r) r

  without_stores : (c : TransactionCall) (img : View) (s : Store) (past base base₀ : List Call) (cs : List Call)
      → Now img s base base₀ → Rest (past ++ transacts c ∷ []) base (transact c s).store cs → Goes img base₀ (log past base s (transacts c ∷ cs))
  unfolding log if'◌then◌else◌ call is_begin
  without_stores c img s past base base₀ cs inv r =
      let o = transact c s in
      let q = no_stores s c in
      subst (λ ws. Goes img base₀ (map (tag base) ws ++ log (past ++ transacts c ∷ []) base o.store cs)) (sym q.none_written)
      (r img base₀ (inv_kept n img s _ _ o q inv))

  begin_safe : (img : View) (s : Store) (past base base₀ : List Call) (cs : List Call) → s ≡ after_calls past s₀ → Valid s → Now img s base base₀
      → ((base' : List Call) → Rest (past ++ begins ∷ []) base' (begin_call s).store cs) → Goes img base₀ (log past base s (begins ∷ cs))
  unfolding log if'◌then◌else◌ call is_begin
  begin_safe img s past base base₀ cs e v inv r =
      let o = begin_out n img s (after_calls base s₀) (after_calls base₀ s₀) (ready s v) inv in
      let base' = if' accepted (begin_call s).answer then past else base in
      let i : Now img (begin_call s).store base' base₀ = subst (λ z. Inv n img (begin_call s).store z (after_calls base₀ s₀))
      (ap (λ z. if' accepted (begin_call s).answer then z else after_calls base s₀) e ∙ landed_after (accepted (begin_call s).answer) past base s₀) o.1 in
      subst (λ ws. Goes img base₀ (map (tag base') ws ++ log (past ++ begins ∷ []) base' (begin_call s).store cs)) (sym o.0) (r base' img base₀ i)

  one : (c : Call) (img : View) (s : Store) (past base base₀ : List Call) (cs : List Call) → s ≡ after_calls past s₀ → Valid s → Now img s base base₀
      → ((base' : List Call) → Rest (past ++ c ∷ []) base' (call c s).store cs) → Goes img base₀ (log past base s (c ∷ cs))
  unfolding call
  one (transacts c) img s past base base₀ cs e v inv r = without_stores c img s past base base₀ cs inv (r base)
  one begins img s past base base₀ cs e v inv r = begin_safe img s past base base₀ cs e v inv r
  one (steps len) img s past base base₀ cs e v inv r = step_log len img s past base base₀ cs v inv (r base)
  one (runs limit len) img s past base base₀ cs e v inv r = run_log limit len img s past base base₀ cs v inv (r base)

  pub main : (cs past base base₀ : List Call) (img : View) (s : Store) → s ≡ after_calls past s₀ → AllOf Okay cs → Valid s → Now img s base base₀
      → Goes img base₀ (log past base s cs)
  main [] past base base₀ img s e a v inv = unfold log in goes_nil img s.used base₀ inv.good
  main (c ∷ cs) past base base₀ img s e a v inv =
      one c img s past base base₀ cs e v inv
      (λ base' img' base₀' i. main cs (past ++ c ∷ []) base' base₀' img' (call c s).store (ap (λ z. (call c z).store) e ∙ sym (after_snoc past c s₀))
      a.1 (keeps c s a.0 v) i)
