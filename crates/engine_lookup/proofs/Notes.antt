-- One row noted, by what the code finds there.
use Rattle.basics.proofs.Kit.{◌≡◌, refl, sym, ap, ◌∙◌, ⊎_elim, [], ◌∷◌, ℕ, arith}
use types.Run.{OneOf}
use denote.Enum.Declared.{tag_of}
use Rattle.basics.specs.Basics.{if'◌then◌else◌}
use Rattle.block_forms.specs.Tuple.{Owner, Tuple}
use Rattle.model.specs.State as model
use Rattle.model.specs.State.{Held}
use Rattle.model.specs.Rules.{is_removing, is_committing, applied, as_committed}
use Rattle.memory_rows.specs.Rows.{pending_is}
use Rattle.memory_rows.specs.declared.Pending.{Pending}
use Rattle.memory_rows.specs.declared.Pending.TheVariants.{Nothing, Adding, Committing, Removing}
use Rattle.memory_rows.specs.contracts.Pending.{the_type}
use Rattle.engine_lookup.specs.Lookup.{note_committed, note_owner, note}
use Rattle.engine_lookup.specs.declared.Visibility.{Visibility}

-- a row noted by its pending operation
abbrev by_pending : ℕ → ℕ → model.Pending → Owner → Visibility → Visibility
by_pending tx i model.nothing o l = note_owner tx i o l
by_pending tx i model.adding o l = note_owner tx i o l
by_pending tx i model.committing o l = note_committed i l
by_pending tx i model.removing o l = l

module _ (tx i : ℕ) (h : Held) (l : Visibility) where
  note_is : note tx i h l ≡ by_pending tx i h.pending h.tuple.owner l
  unfolding note note_owner applied as_committed is_removing is_committing if'◌then◌else◌
  note_is = by_pending_lem h.tuple h.pending
    where
      by_pending_lem : (x : Tuple) (p : model.Pending) → note tx i (record { tuple = x; pending = p }) l ≡ by_pending tx i p x.owner l
      by_pending_lem x model.nothing = refl
      by_pending_lem x model.adding = refl
      by_pending_lem x model.committing = refl
      by_pending_lem x model.removing = refl

  module _ (p : Pending) (e : pending_is p ≡ h.pending) where
    note_by : note tx i h l ≡ by_pending tx i (pending_is p) h.tuple.owner l
    note_by = note_is ∙ ap (λ (q : model.Pending). by_pending tx i q h.tuple.owner l) (sym e)

    pub note_removed : p ≡ Removing → l ≡ note tx i h l
    note_removed q = sym (note_by ∙ ap (λ (z : Pending). by_pending tx i (pending_is z) h.tuple.owner l) q)

    pub note_committing : p ≡ Committing → note_committed i l ≡ note tx i h l
    note_committing q = sym (note_by ∙ ap (λ (z : Pending). by_pending tx i (pending_is z) h.tuple.owner l) q)

    pub note_other : OneOf (0 ∷ 1 ∷ []) (tag_of the_type p) → note_owner tx i h.tuple.owner l ≡ note tx i h l
    note_other k = sym (note_by ∙ others p k)
      where
        others : (q : Pending) → OneOf (0 ∷ 1 ∷ []) (tag_of the_type q) → by_pending tx i (pending_is q) h.tuple.owner l ≡ note_owner tx i h.tuple.owner l
        others Nothing k = refl
        others Adding k = refl
        others Committing k = absurd (⊎_elim (λ z. omega arith) (λ z. omega arith) k)
        others Removing k = absurd (⊎_elim (λ z. omega arith) (λ z. omega arith) k)
