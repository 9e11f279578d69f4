-- The mark of a begin: its fields are in range, and it is the one that the rules ask for.
use Rattle.basics.proofs.Kit.{◌≡◌, refl, sym, ap, ◌∙◌, subst, ap₂, true, false, some, List, ℕ, suc, ◌+◌, ◌≤◌, ◌<◌, add-one, eqb, eq-eqb, length, arith}
use Rattle.basics.specs.Basics.{sorted}
use Rattle.basics.proofs.Facts.{lie}
use Rattle.basics.proofs.Elements.{all_in, in_all, some_eq}
use Rattle.basics.proofs.Sorted.{in_sorted}
use Rattle.block_forms.specs.Limits.{transaction_limit, most_number}
use Rattle.image_rows.specs.Rows.{open_limit}
use Rattle.model.specs.State.{Store}
use Rattle.model.specs.Checkpoint.{begin_call}
use Rattle.model.specs.Calls.{accepted}
use Rattle.model.proofs.Effects.{unless_accepted}
use Rattle.memory_layout.specs.Flat.{flat_of}
use Rattle.memory_layout.specs.Store.{holds_store, store_of, store_in}
use Rattle.memory_layout.specs.declared.Head.{Head}
use Rattle.memory_layout.proofs.Laws.{in_some, in_none, level_is}
use Rattle.log_records.specs.Records.{mark_of, MarkFits}
use Rattle.log_model.specs.Logged.{unwritten, mark_for}
use Rattle.engine_opens.specs.Order.{unwritten_numbers, Low}
use Rattle.call_contracts.specs.Logged.{Logs, LogsAt}
use Rattle.std.specs.Prelude.{Err}
use Rattle.refusals.specs.declared.Refusal.TheVariants.{NoStore}

-- without a store
pub logs_4 : (m log : List ℕ) (e : ℕ) → holds_store m ≡ false → Logs begin_call mark_for m log e (record { answer = Err NoStore; end = e }) m log
unfolding Logs LogsAt
logs_4 m log e h = rw (in_none m h) (refl, refl, refl, refl)

module _ (m : List ℕ) (has : holds_store m ≡ true) (h : Head) (eh : h ≡ (flat_of m).head) (xs : List ℕ) (ex : xs ≡ sorted (unwritten_numbers (flat_of m).opens)) where
  -- the store is the one that the memory holds
  the_store : (s : Store) → store_in m ≡ some s → store_of (flat_of m) ≡ s
  the_store s e = some_eq (sym (in_some m has) ∙ e)

  level_of : (store_of (flat_of m)).level ≡ h.level
  level_of = level_is (flat_of m) ∙ ap (λ (x : Head). x.level) (sym eh)

  pub mark_is : (s : Store) → store_in m ≡ some s → mark_of (h.level + 1) xs ≡ mark_for s
  mark_is s e = same ∙ ap mark_for (the_store s e)
    where
      same : mark_of (h.level + 1) xs ≡ mark_for (store_of (flat_of m))
      same = unfold mark_for unwritten store_of in ap₂ mark_of (add-one h.level ∙ ap suc (sym level_of)) ex

  -- an accepted begin is below the last level
  pub fits : (s : Store) → store_in m ≡ some s → accepted (begin_call s).answer ≡ true → h.level < 4294967296 → length xs ≤ open_limit → Low (unwritten_numbers (flat_of m).opens)
      → MarkFits (h.level + 1) xs
  unfolding begin_call
  fits s e a l n low =
      let os = unwritten_numbers (flat_of m).opens in
      let k = unless_accepted (λ o. eqb s.level most_number ≡ false) _ s _ (λ p q. p.1.0) a in
      let eq : s.level ≡ h.level = ap (λ z. z.level) (sym (the_store s e)) ∙ level_of in
      record {
        level = omega (arith, l, below s.level k, eq);
        count = n;
        transactions = subst Low (sym ex) (all_in _ (sorted os) (λ x i. in_all (λ y. y < transaction_limit) x os (sym (in_sorted x os) ∙ i) low));
      }
    where
      below : (i : ℕ) → eqb i most_number ≡ false → i ≡ most_number → ⊥
      below i q z = lie (sym q ∙ eq-eqb i most_number z)
