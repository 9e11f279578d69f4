-- Recovery's answers: by the stage that refused, or with the store recovered.
use Rattle.basics.proofs.Kit.{◌≡◌, refl, sym, ap, ◌∙◌, List, map, ℕ, ◌≤◌, ◌<◌, length, take, take_at, lt-ltb, le-ltb}
use Rattle.basics.specs.Lists.{over}
use Rattle.basics.specs.Basics.{if'◌then◌else◌}
use Rattle.block_forms.specs.declared.Header.{Header}
use Rattle.image.specs.View.{view}
use Rattle.image.specs.Stages.{refuses, holds, StoredPage}
use Rattle.image.specs.Whole.{header_stage, pages_stage}
use Rattle.image.specs.Answers.{entries_in, pages_answer}
use Rattle.image.proofs.Staged.{pages_accepted}
use Rattle.model.specs.Recover.{memory_for, recovered_store, recover_pages, recover_below, recover}
use Rattle.memory_layout.specs.Store.{HoldsNow}
use Rattle.call_recovery.specs.Loading.{pages_at, blocks_in}
use Rattle.call_recovery.proofs.Tested.{sure, pages_there}
use Rattle.call_contracts.specs.Shape.{RecoveredBy, Recovered}
use Rattle.call_contracts.specs.declared.Reply.TheVariants.{Done}
use Rattle.refusals.specs.declared.Refusal.{Refusal}
use Rattle.refusals.specs.declared.Refusal.TheVariants.{MemoryShort}
use Rattle.refusals.specs.Numbers.{number}
use Rattle.std.specs.Prelude.{Ok, Err}

-- ---- what the tests answered

-- the entries that are in use
pub in_use : (ps : List StoredPage) (l : List ℕ) (n : ℕ) → l ≡ entries_in ps → length (blocks_in ps) ≡ n → take n l ≡ blocks_in ps
unfolding entries_in over blocks_in
in_use ps l n e k = ap (take n) e ∙ take_at (map (λ p. p.block) ps) _ n k

-- what the loading is given
pub record Ready (img : List ℕ) (h : Header) (es : List ℕ) : Type 0 where
  pub pages : List StoredPage
  pub passed : pages_stage (view img) h ≡ holds pages
  pub there : pages_at (view img) (take h.pages es) ≡ pages
  pub blocks : blocks_in pages ≡ take h.pages es
  pub count : length (take h.pages es) ≡ h.pages

pub ready : (img : List ℕ) (h : Header) (es : List ℕ) → holds h ≡ header_stage img → holds es ≡ pages_answer (pages_stage (view img) h) → Ready img h es
ready img h es e q =
    let a = pages_accepted (pages_stage (view img) h) q in
    let s = sure img h (blocks_in a.pages) a.pages (sym e) a.is refl in
    let b = in_use a.pages es h.pages a.entries s.count in
    record { pages = a.pages; passed = a.is; there = pages_there (view img) h (take h.pages es) a.pages a.is (sym b); blocks = sym b; count = ap length b ∙ s.count }

-- ---- the returns

module _ (img m : List ℕ) where
  pub refused_header : (k : Refusal) → refuses (number k) ≡ header_stage img → Recovered img m (Err k) m
  unfolding RecoveredBy recover recover_below
  refused_header k e = rw (← e) (refl, refl)

  module _ (h : Header) (e : holds h ≡ header_stage img) where
    pub refused_memory : length m < memory_for h.capacity → Recovered img m (Err MemoryShort) m
    unfolding RecoveredBy recover recover_below if'◌then◌else◌
    refused_memory l = rw (← e, lt-ltb (length m) (memory_for h.capacity) l) (refl, refl)

    module _ (l : memory_for h.capacity ≤ length m) where
      pub refused_pages : (k : Refusal) → pages_stage (view img) h ≡ refuses (number k) → Recovered img m (Err k) m
      unfolding RecoveredBy recover recover_below recover_pages if'◌then◌else◌
      refused_pages k q = rw (← e, le-ltb (length m) (memory_for h.capacity) l, q) (refl, refl)

      pub all_recovered : (ps : List StoredPage) (m' : List ℕ) → pages_stage (view img) h ≡ holds ps
          → HoldsNow m m' (recovered_store h ps) → Recovered img m (Ok Done) m'
      unfolding RecoveredBy recover recover_below recover_pages if'◌then◌else◌
      all_recovered ps m' q k = rw (← e, le-ltb (length m) (memory_for h.capacity) l, q) (refl, k)
