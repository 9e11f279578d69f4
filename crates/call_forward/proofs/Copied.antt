-- The store restored in the second memory, copied into the first.
use Rattle.basics.proofs.Kit.{◌≡◌, refl, sym, ap, ◌∙◌, subst, some, List, ◌++◌, ℕ, ◌≤◌, min, length, take, drop, length-append, length-drop, take_at, arith}
use Rattle.basics.specs.Lists.{over}
use Rattle.basics.proofs.Overs.{over_front}
use Rattle.image.specs.Stages.{Stage, refuses, holds}
use Rattle.model.specs.State.{Store}
use Rattle.model.specs.Recover.{recover}
use Rattle.log_model.specs.RollForward.{Forward, forward_below, roll_forward}
use Rattle.memory_layout.specs.Store.{store_in, HoldsNow}
use Rattle.memory_layout.proofs.Laws.{in_sound}
use Rattle.call_contracts.specs.Logged.{ForwardsBy, Forwards}
use Rattle.call_contracts.specs.declared.Reply.TheVariants.{Done}
use Rattle.refusals.specs.declared.Refusal.{Refusal}
use Rattle.std.specs.Prelude.{Ok, Err}
use Rattle.call_forward.specs.Rolling.{RestoredBy}
use Rattle.memory_layout.proofs.Longer.{longer_holds}
use Rattle.model.specs.State as model

module _ (m s rest : List ℕ) (n : ℕ) (l : length s ≡ n) (h : n ≤ length m) where
  -- s copied over the first bytes of m
  copied : over m 0 (take n (drop 0 (s ++ rest))) ≡ s ++ drop (length s) m
  copied = ap (over m 0) (take_at s rest n l) ∙ over_front m s

  copy_holds : (m' : List ℕ) (z : Store) → m' ≡ over m 0 (take n (drop 0 (s ++ rest))) → store_in s ≡ some z → HoldsNow m m' z
  copy_holds m' z e i =
      let q = e ∙ copied in
      record {
        size = ap length q ∙ length-append s (drop (length s) m) ∙ rw (length-drop (length s) m) (omega arith);
        store = ap store_in q ∙ longer_holds s (drop (length s) m) (in_sound s z i).has_store ∙ i;
      }

module _ (img m log : List ℕ) (k n : ℕ) (en : n ≡ min (length m) k) (s : List ℕ) (ls : length s ≡ n) (s' log' : List ℕ) where
  same_stage : forward_below log (recover (length s) img) ≡ roll_forward (length m) k img log
  unfolding roll_forward
  same_stage = ap (λ v. forward_below log (recover v img)) (ls ∙ en)

  pub not_copied : (e : Refusal) → RestoredBy (forward_below log (recover (length s) img)) s log (Err e) s' log'
      → Forwards img m k log (record { answer = Err e; end = 0 }) m log'
  not_copied e b = go (roll_forward (length m) k img log) (subst (λ st. RestoredBy st s log (Err e) s' log') same_stage b)
    where
      go : (st : Stage Forward) → RestoredBy st s log (Err e) s' log' → ForwardsBy st m log (record { answer = Err e; end = 0 }) m log'
      go (refuses v) q = unfold RestoredBy ForwardsBy in (ap model.refused q.0, refl, refl, q.1)
      go (holds f) q = unfold RestoredBy in absurd q

  pub was_copied : (end : ℕ) → RestoredBy (forward_below log (recover (length s) img)) s log (Ok end) s' log'
      → (rest m' : List ℕ) → m' ≡ over m 0 (take n (drop 0 (s' ++ rest))) → Forwards img m k log (record { answer = Ok Done; end = end }) m' log'
  was_copied end b rest m' e = go (roll_forward (length m) k img log) (subst (λ st. RestoredBy st s log (Ok end) s' log') same_stage b)
    where
      go : (st : Stage Forward) → RestoredBy st s log (Ok end) s' log' → ForwardsBy st m log (record { answer = Ok Done; end = end }) m' log'
      go (refuses v) q = unfold RestoredBy in absurd q
      go (holds f) q = unfold RestoredBy ForwardsBy in (refl, q.0, copy_holds m s' rest n (q.1.size ∙ ls) (omega arith) m' f.store e q.1.store, q.2)
