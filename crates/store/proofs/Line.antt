-- The quoted line over the contracts: a run's memory and image are those of the rules' own run, of which the model's line speaks.
use Rattle.block_forms.specs.Limits.{block_size}
use Rattle.basics.proofs.Kit.{◌≡◌, refl, sym, ap, ◌∙◌, subst, ◌&&◌, some, List, [], ◌∷◌, ◌++◌, map, ℕ, ◌*◌, length, arith}
use Rattle.basics.specs.Basics.{if'◌then◌else◌}
use Rattle.basics.proofs.Facts.{AllOf}
use Rattle.image.specs.Stages.{Stage, refuses, holds}
use Rattle.image.specs.View.{view}
use Rattle.model.specs.State.{Store, Write}
use Rattle.model.specs.Calls.{Call, call, is_begin, accepted, after_calls}
use Rattle.model.specs.Recover.{image_after, make, made_image, recover}
use Rattle.model.specs.CrashRecovery.{Start, fresh, Logged, tag, log, image_with, Same}
use Rattle.model.proofs.Views.{WriteOk}
use Rattle.basics.proofs.Elements.{all_parts}
use Rattle.model.proofs.Bytes.{view_sane}
use Rattle.model.proofs.NoStores.{call_leaves}
use Rattle.model.proofs.Claim.{writes_ok}
use Rattle.model.proofs.Line.{length_after, started, crash_recovery}
use Rattle.memory_layout.specs.Store.{store_in, HoldsNow}
use Rattle.std.specs.Prelude.{Ok}
use Rattle.call_contracts.specs.Shape.{Answer, meaning, MadeBy, Made, RecoveredBy, Recovered}
use Rattle.call_contracts.specs.declared.Reply.TheVariants.{Done}
use Rattle.store.specs.CrashRecovery.{Started, made, recovered, Starts, ExecutesAll, ends, full, next, Restored, CrashRecovery}
use Rattle.store.proofs.Follows.{means_done, does, full_leaves, all_typed}
use Rattle.model.specs.State as answer

abbrev writes_in : List Logged → List Write
writes_in ws = map (λ w. w.write) ws

-- ---- images after block stores

after_append : (b : List Call) (ws : List Write) (ls : List Logged) (img : List ℕ)
    → image_after (writes_in (map (tag b) ws ++ ls)) img ≡ image_after (writes_in ls) (image_after ws img)
unfolding image_after tag
after_append b [] ls img = refl
after_append b (w ∷ ws) ls img = after_append b ws ls _

long_after : (n : ℕ) (b : List Call) (ws : List Write) (img : List ℕ) → length img ≡ block_size * n → AllOf (WriteOk n) (map (tag b) ws)
    → length (image_after ws img) ≡ block_size * n
unfolding image_after tag image_with
long_after n b [] img e ok = e
long_after n b (w ∷ ws) img e ok = long_after n b ws _ (length_after n img (tag b w) e ok.0) ok.1

-- ---- a run

follows : (n : ℕ) (past base : List Call) (s : Store) (cs : List Call) (img m img' m' : List ℕ) → ExecutesAll cs img m img' m' → store_in m ≡ some s
    → s.blocks ≡ n → length img ≡ block_size * n → AllOf (WriteOk n) (log past base s cs)
    → (store_in m' ≡ some (after_calls cs s)) × (img' ≡ image_after (writes_in (log past base s cs)) img)
unfolding after_calls log image_after
follows n past base s [] img m img' m' ends e b l ok = (e, refl)
follows n past base s cs img m img' m' (full {m₁ = m₁} f x g g' i r q h rs) e b l ok =
    follows n past base s cs img m₁ img' m' rs (ap store_in (full_leaves f x m m₁ g g' i r q h) ∙ e) b l ok
follows n past base s (c ∷ cs) img m img' m' (next {img₁ = img₁} {m₁ = m₁} d rs) e b l ok =
    let o = call c s in
    let base' = if' is_begin c && accepted o.answer then past else base in
    let rest = log (past ++ c ∷ []) base' o.store cs in
    let k = does s img m e c img₁ m₁ (l ∙ ap (λ (z : ℕ). block_size * z) (sym b)) d in
    let parts = all_parts (WriteOk n) (map (tag base') o.writes) rest ok in
    let l₁ : length img₁ ≡ block_size * n = ap length k.1 ∙ long_after n base' o.writes img l parts.0 in
    let t = follows n (past ++ c ∷ []) base' o.store cs img₁ m₁ img' m' rs k.0 ((call_leaves c s).blocks ∙ b) l₁ parts.1 in
    (t.0, t.1 ∙ ap (image_after (writes_in rest)) k.1 ∙ sym (after_append base' o.writes rest img))

-- ---- the start

record Begins (img m : List ℕ) (s : Store) : Type 0 where
  pub start : Start img s
  pub here : store_in m ≡ some s

starts : (img m : List ℕ) (s : Store) → Started img m s → Begins img m s
unfolding MadeBy RecoveredBy
starts img m s (made img₀ m₀ n e k) =
    let q : (answer.done ≡ answer.done) × ((img ≡ made_image img₀ n) × HoldsNow m₀ m s) = rw e at k in
    record { start = subst (λ z. Start z s) (sym q.1.0) (fresh img₀ (length m₀) n e); here = q.1.1.store }
starts img m s (recovered m₀ e k) =
    let q : (answer.done ≡ answer.done) × HoldsNow m₀ m s = rw e at k in
    record { start = Start.recovered (length m₀) e; here = q.1.store }

-- ---- the restart

is_done : answer.Answer → ℕ
is_done (answer.refused n) = 0
is_done answer.done = 1
is_done (answer.count n) = 0
is_done (answer.filled n bs) = 0

-- a refusal is not answered by done
unanswered : {X : Type 0} (k : ℕ) → answer.done ≡ answer.refused k → X
unfolding is_done
unanswered k e = let z : ◌≡◌ {A = ℕ} 1 0 = ap is_done e in absurd (omega (arith, z))

make_starts : (img₀ m₀ : List ℕ) (n : ℕ) (img m : List ℕ) (st : Stage Store) → make (length img₀) (length m₀) n ≡ st → MadeBy st n img₀ m₀ (Ok Done) img m
    → Made n img₀ m₀ (Ok Done) img m → (s : Store) × Started img m s
unfolding MadeBy
make_starts img₀ m₀ n img m (refuses k) e a b = unanswered k a.0
make_starts img₀ m₀ n img m (holds s) e a b = (s, made img₀ m₀ n e b)

recovery_starts : (img m₀ m : List ℕ) (st : Stage Store) → recover (length m₀) img ≡ st → RecoveredBy st m₀ (Ok Done) m → Recovered img m₀ (Ok Done) m
    → (s : Store) × Started img m s
unfolding RecoveredBy
recovery_starts img m₀ m (refuses k) e a b = unanswered k a.0
recovery_starts img m₀ m (holds s) e a b = (s, recovered m₀ e b)

pub every_start : Starts
every_start = record {
  make = λ img₀ m₀ n img m a. make_starts img₀ m₀ n img m _ refl a a;
  recovery = λ img m₀ m a. recovery_starts img m₀ m _ refl a a;
}

restored : (s t : Store) (base : List Call) (cut m₀ m₁ : List ℕ) (r : Answer) → recover (length m₀) cut ≡ holds t → Same t s base
    → Recovered cut m₀ r m₁ → Restored s base r m₁
unfolding RecoveredBy
restored s t base cut m₀ m₁ r e same k =
    let q : (meaning r [] ≡ answer.done) × HoldsNow m₀ m₁ t = rw e at k in
    record { accepted = means_done r q.0; store = t; has_store = q.1.store; same = same }

-- ---- the claim

pub recovers_always : CrashRecovery
recovers_always img m bytes s st calls img' m' rs =
    let a = starts img m s st in
    let g = started img s a.start in
    let ty = all_typed rs in
    let ok = writes_ok (view img) (view_sane img) s g.least g.most g.seen calls ty in
    let k = follows s.blocks [] [] s calls img m img' m' rs a.here refl g.long ok in
    record {
      memory = k.0;
      image = k.1;
      restart = λ cut base c m₀ m₁ r h rec.
          let x = crash_recovery img bytes s a.start calls ty cut base c (length m₀) h in restored s x.0 base cut m₀ m₁ r x.1 x.2 rec;
    }
