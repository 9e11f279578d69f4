-- The claims on views, with no assumption left.
use Rattle.block_forms.specs.Limits.{block_limit}
use Rattle.basics.proofs.Kit.{◌≡◌, refl, ap, ◌∙◌, true, List, [], ◌∷◌, ◌≤◌}
use Rattle.basics.specs.Basics.{if'◌then◌else◌}
use Rattle.basics.proofs.Facts.{AllOf}
use Rattle.basics.proofs.Members.{once_many}
use Rattle.image.specs.Stages.{holds}
use Rattle.image.specs.View.{View}
use Rattle.model.specs.State.{Store}
use Rattle.model.specs.Transactions.{open_numbers}
use Rattle.model.specs.Calls.{after_calls, Call, AllTyped, Typed}
use Rattle.model.specs.CrashRecovery.{log, is_header, Same}
use Rattle.model.proofs.Views.{AllSane, recover_view, CutV, WriteOk, CrashViews, WritesOk}
use Rattle.model.proofs.BlockUse.{BlockUse, keeps_use, step_use}
use Rattle.model.proofs.Recovery.{Found, found}
use Rattle.model.proofs.Inv.{Ready, Inv, Like}
use Rattle.model.proofs.Steps.{Top}
use Rattle.model.proofs.Crash.{main}
use Rattle.model.proofs.Start.{start_idle, start_inv, start_use, start_active, start_distinct}
use Rattle.model.proofs.Valid.{Valid, Counted}
use Rattle.model.proofs.Keeps.{keeps, step_valid}
use Rattle.model.proofs.Whole.{Fitting, starts, ready, few_pages}
use Rattle.model.proofs.WriteCounts.{keeps_count, counted_step, writers_law}
use Rattle.model.proofs.Range.{frozen_small, keeps_fits, step_fits, frozen_fit}

module _ (v : View) (sane : AllSane v) (s : Store) (two : 2 ≤ s.blocks) (most : s.blocks ≤ block_limit) (e : recover_view s.blocks v ≡ holds s) where
  at_start : Found s.blocks v s
  at_start = found s.blocks v s e

  start_valid : Valid s × Counted s × Fitting s
  start_valid = starts s.blocks v s sane at_start

  start_ready : Ready s
  start_ready = ready s start_valid.0 (start_idle s.blocks v s at_start)

  start_now : Inv s.blocks v s (after_calls [] s) (after_calls [] s)
  unfolding after_calls
  start_now = start_inv s.blocks v s at_start start_ready

  start_use' : BlockUse s
  start_use' = start_use s.blocks v s two most sane at_start

  all_calls : (calls : List Call) → AllOf (λ c. Unit {0}) calls
  all_calls [] = tt
  all_calls (c ∷ calls) = (tt, all_calls calls)

  start_after : s ≡ after_calls [] s
  unfolding after_calls
  start_after = refl

  -- every cut recovers, and every header stored is that of the store before its checkpoint's begin
  claims : (calls : List Call)
      → ((v' : View) (base : List Call) → CutV v [] (log [] [] s calls) v' base → (r : Store) × (recover_view s.blocks v' ≡ holds r) × Like r (after_calls base s))
      × AllOf (λ w. is_header w ≡ true → Top w.write.what (after_calls w.before s)) (log [] [] s calls)
  claims calls =
      let g = main s.blocks s (λ c. Unit {0}) (λ t. Valid t × Counted t × BlockUse t)
      (λ c t o k. (keeps c t k.0 k.1, keeps_count c t k.0 k.1, keeps_use c t (few_pages t k.0) k.2))
      (λ t k. (step_valid t k.0, counted_step t k.0 k.1, step_use t k.2)) (λ t k. ready t k.0) (λ t k. k.2) (λ t k. frozen_small t k.0)
      calls [] [] [] v s start_after (all_calls calls) (start_valid.0, start_valid.1, start_use') start_now in
      (g.safe, g.tops)

  recovers_cut : (calls : List Call) (v' : View) (base : List Call) → CutV v [] (log [] [] s calls) v' base
      → (r : Store) × (recover_view s.blocks v' ≡ holds r) × Same r s base
  recovers_cut calls v' base cut =
      let r = (claims calls).0 v' base cut in (
        r.0,
        r.1,
        record {
          pages = r.2.pages;
          next = r.2.next;
          writers = λ tx. once_many tx (open_numbers r.0.active) (start_distinct s.blocks v' r.0 (found s.blocks v' r.0 r.1))
              ∙ ap (λ b. if' b then 1 else 0)
              (r.2.active tx ∙ writers_law s start_valid.0 start_valid.1 (start_active s.blocks v s at_start start_ready.same) base tx);
        },
      )

  typed_calls : (calls : List Call) → AllTyped calls → AllOf Typed calls
  typed_calls [] a = tt
  typed_calls (c ∷ calls) a = (a.0, typed_calls calls a.1)

  writes_range : (calls : List Call) → AllTyped calls → AllOf (WriteOk s.blocks) (log [] [] s calls)
  writes_range calls a =
      (main s.blocks s Typed (λ t. Valid t × Counted t × BlockUse t × Fitting t)
      (λ c t o k. (keeps c t k.0 k.1, keeps_count c t k.0 k.1, keeps_use c t (few_pages t k.0) k.2, keeps_fits c t o k.0 k.1 k.3))
      (λ t k. (step_valid t k.0, counted_step t k.0 k.1, step_use t k.2, step_fits t k.0 k.3))
      (λ t k. ready t k.0) (λ t k. k.2) (λ t k. frozen_small t k.0)
      calls [] [] [] v s start_after (typed_calls calls a) (start_valid.0, start_valid.1, start_use', start_valid.2) start_now).ranged most
      (λ t k. frozen_fit t k.0 k.3)

pub crash_views : CrashViews
crash_views v sane s two most e calls v' base cut = recovers_cut v sane s two most e calls v' base cut

pub writes_ok : WritesOk
writes_ok v sane s two most e calls a = writes_range v sane s two most e calls a

pub claims_ok : (v : View) → AllSane v → (s : Store) → 2 ≤ s.blocks → s.blocks ≤ block_limit → recover_view s.blocks v ≡ holds s → (calls : List Call)
    → ((v' : View) (base : List Call) → CutV v [] (log [] [] s calls) v' base → (r : Store) × (recover_view s.blocks v' ≡ holds r) × Like r (after_calls base s))
    × AllOf (λ w. is_header w ≡ true → Top w.write.what (after_calls w.before s)) (log [] [] s calls)
claims_ok v sane s two most e calls = claims v sane s two most e calls
