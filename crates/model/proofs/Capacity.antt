-- Every header has the capacity of the store: what is recovered has it too, wherever the stores are cut.
use Rattle.basics.proofs.Kit.{◌≡◌, refl, sym, ap, ◌∙◌, subst, ◌&&◌, some, none, Option, List, [], ◌∷◌, ◌++◌, map, ℕ, suc, zero, min, eqb, ltb, length}
use Rattle.basics.specs.Basics.{if'◌then◌else◌, first}
use Rattle.basics.proofs.Facts.{AllOf, by}
use Rattle.block_forms.specs.Block.{Block, as_header}
use Rattle.block_forms.specs.declared.Header.{Header}
use Rattle.image.specs.View.{View}
use Rattle.image.specs.Stages.{holds, directories_for}
use Rattle.model.specs.State.{Page, Checkpoint, idle, running, Store, Write}
use Rattle.model.specs.Rules.{is_frozen}
use Rattle.model.specs.Transactions.{gives}
use Rattle.model.specs.Checkpoint.{with_progress, left, made, store_page, store_directory, header_for, store_header, step_of, step_at, step_call, in_turn, run_call}
use Rattle.model.specs.Calls.{Call, transacts, begins, steps, runs, call, is_begin, accepted, is_step}
use Rattle.model.specs.Recover.{recovered_store}
use Rattle.model.specs.CrashRecovery.{Logged, tag, log, is_header}
use Rattle.model.proofs.Views.{put, recover_view, CutV, stop, torn, whole}
use Rattle.basics.proofs.Elements.{all_append, all_mapped}
use Rattle.model.proofs.Recovery.{found}
use Rattle.model.proofs.Effects.{unless_out}
use Rattle.model.proofs.NoStores.{call_leaves}

-- a header, if there is one, has this capacity
abbrev Has : ℕ → Option Header → Type 0
Has cap none = Unit {0}
Has cap (some h) = h.capacity ≡ cap

-- of a block that is written
abbrev Apt : ℕ → Block → Type 0
Apt cap b = Has cap (as_header b)

-- the store t and the block stores ws that a call gives
abbrev Capacity : ℕ → Store → List Write → Type 0
Capacity cap t ws = (t.capacity ≡ cap) × AllOf (λ w. Apt cap w.what) ws

capacity_of : (o : Option Page) (n : ℕ) (es ds : List ℕ) (s : Store) → Capacity s.capacity (step_of o n es ds s).store (step_of o n es ds s).writes
unfolding step_of store_page store_directory store_header made with_progress header_for if'◌then◌else◌
capacity_of (some p) n es ds s = (refl, (tt, tt))
capacity_of none n es ds s = by (ltb (length ds) (directories_for (length es))) (λ h. rw h (refl, (tt, tt))) (λ h. rw h (refl, (refl, tt)))

capacity_at : (c : Checkpoint) (s : Store) → Capacity s.capacity (step_at c s).store (step_at c s).writes
unfolding step_at gives
capacity_at idle s = (refl, tt)
capacity_at (running n es ds) s = capacity_of (first is_frozen s.pages) n es ds s

capacity_iteration : (cap k : ℕ) (s : Store) → s.capacity ≡ cap → Capacity cap (in_turn k s).store (in_turn k s).writes
unfolding in_turn gives
capacity_iteration cap zero s e = (e, tt)
capacity_iteration cap (suc k) s e =
    let o = step_at s.checkpoint s in
    let a = subst (λ z. Capacity z o.store o.writes) e (capacity_at s.checkpoint s) in
    let b = capacity_iteration cap k o.store a.0 in
    (b.0, all_append _ o.writes (in_turn k o.store).writes a.1 b.1)

-- the headers that a call stores
capacity_call : (c : Call) (s : Store) → AllOf (λ w. Apt s.capacity w.what) (call c s).writes
unfolding call step_call run_call is_step
capacity_call (transacts c) s = subst (AllOf (λ w. Apt s.capacity w.what)) (sym ((call_leaves (transacts c) s).image refl)) tt
capacity_call begins s = subst (AllOf (λ w. Apt s.capacity w.what)) (sym ((call_leaves begins s).image refl)) tt
capacity_call (steps len) s = unless_out (λ t. AllOf (λ w. Apt s.capacity w.what)) _ s _ tt (capacity_at s.checkpoint s).1
capacity_call (runs limit len) s = unless_out (λ t. AllOf (λ w. Apt s.capacity w.what)) _ s _ tt (capacity_iteration s.capacity (min limit (left s)) s refl).1

log_apt : (cap : ℕ) (past base : List Call) (s : Store) (cs : List Call) → s.capacity ≡ cap → AllOf (λ w. Apt cap w.write.what) (log past base s cs)
unfolding log tag
log_apt cap past base s [] e = tt
log_apt cap past base s (c ∷ cs) e =
    let o = call c s in
    let k = subst (λ z. AllOf (λ w. Apt z w.what) o.writes) e (capacity_call c s) in
    let base' = if' is_begin c && accepted o.answer then past else base in
    all_append _ (map (tag base') o.writes) (log (past ++ c ∷ []) base' o.store cs) (all_mapped _ (tag base') o.writes k)
    (log_apt cap (past ++ c ∷ []) base' o.store cs ((call_leaves c s).capacity ∙ e))

cut_apt : (cap : ℕ) {v : View} {base : List Call} {ws : List Logged} {v' : View} {base' : List Call} → CutV v base ws v' base' → Apt cap (v 0)
    → AllOf (λ w. Apt cap w.write.what) ws → Apt cap (v' 0)
unfolding put is_header if'◌then◌else◌
cut_apt cap stop a b = a
cut_apt cap (torn h x) a b = rw h a
cut_apt cap {v} (whole {w = w} c) a b = cut_apt cap c (by (eqb w.write.at 0) (λ h. rw h b.0) (λ h. rw h a)) b.1

pub same_capacity : (n : ℕ) (v : View) (s : Store) → recover_view n v ≡ holds s → (cs : List Call) {v' : View} {base : List Call} → CutV v [] (log [] [] s cs) v' base
    → (r : Store) → recover_view n v' ≡ holds r → r.capacity ≡ s.capacity
unfolding recovered_store
same_capacity n v s e cs {v'} cut r g =
    let f = found n v s e in
    let h = found n v' r g in
    let top = subst (Apt s.capacity) (sym f.top) (ap (λ z. z.capacity) f.store) in
    ap (λ z. z.capacity) (sym h.store) ∙ subst (Apt s.capacity) h.top (cut_apt s.capacity cut top (log_apt s.capacity [] [] s cs refl))
