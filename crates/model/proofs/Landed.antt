-- The header that is recovered after a cut: the one of the start, or that of the checkpoint whose header landed last.
use Rattle.basics.proofs.Kit.{◌≡◌, sym, ap, ◌∙◌, subst, true, List, [], ℕ, suc, eqb}
use Rattle.basics.specs.Basics.{if'◌then◌else◌}
use Rattle.basics.proofs.Facts.{by, AllOf}
use Rattle.basics.proofs.Elements.{all_two, some_eq}
use Rattle.block_forms.specs.Block.{Block, header, as_header}
use Rattle.block_forms.specs.declared.Header.{Header}
use Rattle.image.specs.View.{View, view}
use Rattle.image.specs.Stages.{holds}
use Rattle.model.specs.State.{Store}
use Rattle.model.specs.Calls.{Call, AllTyped, after_calls}
use Rattle.model.specs.Recover.{recover, recovered_store}
use Rattle.model.specs.CrashRecovery.{Start, Logged, is_header, landed, log, Cut}
use Rattle.model.proofs.Views.{put, CutV, stop, torn, whole}
use Rattle.model.proofs.Recovery.{found}
use Rattle.model.proofs.Steps.{Top}
use Rattle.model.proofs.Bytes.{view_sane, accepted_recovery}
use Rattle.model.proofs.Claim.{writes_ok, claims_ok}
use Rattle.model.proofs.Line.{started, cut_view}

-- R: what is known of a header's capacity and level, and of the calls before the begin of its checkpoint
module _ (R : ℕ → ℕ → List Call → Type 0) where
  -- of a block that is a header
  abbrev Heads : Block → List Call → Type 0
  Heads x base = (h : Header) → x ≡ header h → R h.capacity h.level base

  -- of a store that is a header's
  abbrev Landing : Logged → Type 0
  Landing w = is_header w ≡ true → Heads w.write.what w.before

  cut_heads : {v : View} {base : List Call} {ws : List Logged} {v' : View} {base' : List Call} → CutV v base ws v' base' → Heads (v 0) base
      → AllOf Landing ws → Heads (v' 0) base'
  unfolding put is_header landed if'◌then◌else◌
  cut_heads stop a b = a
  cut_heads (torn h x) a b = rw h a
  cut_heads (whole {w = w} c) a b = cut_heads c (by (eqb w.write.at 0) (λ h. rw h (b.0 h)) (λ h. rw h a)) b.1

  same_header : (h k : Header) → header h ≡ header k → h ≡ k
  same_header h k e = some_eq (ap as_header e)

  top_heads : (x : Block) (b : Store) (base : List Call) → Top x b → R b.capacity (suc b.level) base → Heads x base
  top_heads x b base t r h e =
      let k = same_header t.head h (sym t.is ∙ e) in
      subst (λ y. R y.capacity y.level base) k (subst (λ c. R c t.head.level base) (sym t.capacity) (subst (λ l. R b.capacity l base) (sym t.level) r))

  -- what is recovered of an image after a cut
  pub recovered_header : (img : List ℕ) (s : Store) → Start img s → (calls : List Call) → AllTyped calls → R s.capacity s.level []
      → AllOf (λ w. is_header w ≡ true → R (after_calls w.before s).capacity (suc (after_calls w.before s).level) w.before) (log [] [] s calls)
      → (img' : List ℕ) (base : List Call) → Cut img [] (log [] [] s calls) img' base → (m : ℕ) (r : Store) → recover m img' ≡ holds r
      → R r.capacity r.level base
  unfolding recovered_store
  recovered_header img s start calls typed r₀ rs img' base cut m r e =
      let a = started img s start in
      let sane = view_sane img in
      let c = cut_view s.blocks cut a.long (writes_ok (view img) sane s a.least a.most a.seen calls typed) in
      let f = found s.blocks (view img) s a.seen in
      let g = found r.blocks (view img') r (accepted_recovery m img' r e).seen in
      let tops = (claims_ok (view img) sane s a.least a.most a.seen calls).1 in
      let start-heads : Heads (view img 0) [] = λ h k.
      subst (λ y. R y.capacity y.level []) (same_header f.head h (sym f.top ∙ k))
      (subst (λ t. R t.capacity t.level []) (sym f.store) r₀) in
      let all : AllOf Landing (log [] [] s calls) = all_two (λ w. is_header w ≡ true → Top w.write.what (after_calls w.before s))
      (λ w. is_header w ≡ true → R (after_calls w.before s).capacity (suc (after_calls w.before s).level) w.before) Landing
      (λ w t q i. top_heads w.write.what (after_calls w.before s) w.before (t i) (q i)) (log [] [] s calls) tops rs in
      subst (λ t. R t.capacity t.level base) g.store (cut_heads c.0 start-heads all g.head g.top)
