-- An accepted begin keeps what holds, and its base is the store before it.
use Rattle.basics.proofs.Kit.{◌≡◌, refl, subst, false, List, [], ◌∷◌, map, ℕ, suc, eqb, arith}
use Rattle.basics.specs.Basics.{if'◌then◌else◌}
use Rattle.basics.proofs.Facts.{AllOf, by, lie}
use Rattle.image.specs.View.{View}
use Rattle.model.specs.State.{Page, Store, idle, running}
use Rattle.model.specs.Rules.{shown, freeze, is_dirty}
use Rattle.model.specs.Checkpoint.{with_progress}
use Rattle.model.specs.CrashRecovery.{content}
use Rattle.basics.proofs.Elements.{eqb-true, not_zero, le_true}
use Rattle.model.proofs.Frozen.{images}
use Rattle.model.proofs.Stored.{Stored, end, todo, stands}
use Rattle.model.proofs.Inv.{Tied, is_clean, Inv, Ready, Phase, named_self}
use Rattle.model.proofs.Shown.{bare}

abbrev NothingPending : Page → Type 0
NothingPending p = (p.frozen ≡ false) × (shown p.tuples ≡ bare p.tuples)

stored_begin : (img : View) (l : ℕ) (ps : List Page) → AllOf (Tied img l) ps → AllOf NothingPending ps
    → Stored img (suc l) (map (λ p. p.block) ps) (map content ps) (images (map freeze ps))
unfolding images freeze is_dirty if'◌then◌else◌ content is_clean
stored_begin img l [] t c = end
stored_begin img l (p ∷ ps) t c =
    by (eqb p.block 0)
    (λ h. let z = eqb-true p.block 0 h in rw (h, z, c.0.1) (todo (stored_begin img l ps t.1 c.1)))
    (λ h. let pos = not_zero p.block h in
    let u = t.0 (rw (c.0.0, le_true 1 p.block pos)) in
    rw h (stands u.0 pos u.1 u.2 (omega (arith, u.3)) (stored_begin img l ps t.1 c.1)))

tied_begin : (img : View) (l : ℕ) (ps : List Page) → AllOf (Tied img l) ps → AllOf NothingPending ps → AllOf (Tied img (suc l)) (map freeze ps)
unfolding freeze is_dirty is_clean
tied_begin img l [] t c = tt
tied_begin img l (p ∷ ps) t c = (
  λ e. by (eqb p.block 0) (λ h. lie (rw h at e))
      (λ h. let u = t.0 (rw (c.0.0, le_true 1 p.block (not_zero p.block h))) in (u.0, u.1, u.2, omega (arith, u.3))),
  tied_begin img l ps t.1 c.1,
)

pub begin_inv : (n : ℕ) (img : View) (s b b₀ : Store) → Inv n img s b b₀ → s.checkpoint ≡ idle → Ready s
    → Inv n img (with_progress s s.level (map freeze s.pages) s.used s.taken (running s.next (map (λ p. p.block) s.pages) [])) s b₀
unfolding with_progress
begin_inv n img s b b₀ inv cp rd =
    let ph : AllOf (Tied img s.level) s.pages = subst (λ c. Phase img s b c) cp inv.phase in
    record {
      blocks = inv.blocks;
      good = inv.good;
      phase = record {
        base = record { next = refl; ready = rd; capacity = refl; level = refl; blocks = refl };
        stored = stored_begin img s.level s.pages ph rd.thawed;
        dirs = tt;
        used = λ c h. h;
        names = named_self s.used (map (λ p. p.block) s.pages);
        tied = tied_begin img s.level s.pages ph rd.thawed;
      };
    }
