-- Images as views, that is what each block is: recovery, a cut and the claim on views, and what is said of every block written.
use Rattle.block_forms.specs.Limits.{block_limit}
use Rattle.basics.proofs.Kit.{◌≡◌, false, List, [], ◌∷◌, ℕ, ◌≤◌, ◌<◌, eqb}
use Rattle.basics.specs.Basics.{if'◌then◌else◌}
use Rattle.basics.proofs.Facts.{AllOf}
use Rattle.block_forms.specs.Block.{Block, malformed, as_header, InRange}
use Rattle.block_forms.specs.declared.Header.{Header}
use Rattle.image.specs.Whole.{pages_stage}
use Rattle.image.specs.Stages.{Stage, refuses, holds, header_test}
use Rattle.image.specs.View.{View}
use Rattle.model.specs.State.{Store}
use Rattle.model.specs.Calls.{Call, AllTyped}
use Rattle.model.specs.Recover.{recover_pages}
use Rattle.model.specs.CrashRecovery.{Logged, is_header, landed, log, Same}

-- block b of a view exchanged
unfoldable pub put : View → ℕ → Block → View
put v b x i = if' eqb b i then x else v i

-- ---- recovery, with memory enough

unfoldable pub recover_from : View → Stage Header → Stage Store
recover_from v (refuses n) = refuses n
recover_from v (holds h) = recover_pages h (pages_stage v h)

-- from a view of n blocks
unfoldable pub recover_view : ℕ → View → Stage Store
recover_view n v = recover_from v (header_test n (as_header (v 0)))

-- ---- the cut: as `Cut`, on views

pub data CutV : View → List Call → List Logged → View → List Call → Type 0 where
  stop : {v : View} {base : List Call} {ws : List Logged} → CutV v base ws v base
  torn : {v : View} {base : List Call} {w : Logged} {ws : List Logged} → is_header w ≡ false → (x : Block)
      → CutV v base (w ∷ ws) (put v w.write.at x) base
  whole : {v : View} {base : List Call} {w : Logged} {ws : List Logged} {v' : View} {base' : List Call}
      → CutV (put v w.write.at w.write.what) (landed w base) ws v' base' → CutV v base (w ∷ ws) v' base'

-- ---- blocks in range

-- a block as it is read: malformed, or every field in its range
abbrev pub Sane : Block → Type 0
Sane b = (b ≡ malformed → ⊥) → InRange b

abbrev pub AllSane : View → Type 0
AllSane v = (i : ℕ) → Sane (v i)

-- a block written to a view of n blocks: within it, and every field in its range
abbrev pub WriteOk : ℕ → Logged → Type 0
WriteOk n w = (w.write.at < n) × InRange w.write.what

-- ---- the claims

-- wherever the stores of a list of calls are cut, recovery gives what the run of the calls before the last landed begin had
abbrev pub CrashViews : Type 0
CrashViews =
    (v : View) → AllSane v → (s : Store) → 2 ≤ s.blocks → s.blocks ≤ block_limit → recover_view s.blocks v ≡ holds s → (calls : List Call)
    → (v' : View) (base : List Call) → CutV v [] (log [] [] s calls) v' base
    → (r : Store) × (recover_view s.blocks v' ≡ holds r) × Same r s base

-- every block written is in range
abbrev pub WritesOk : Type 0
WritesOk =
    (v : View) → AllSane v → (s : Store) → 2 ≤ s.blocks → s.blocks ≤ block_limit → recover_view s.blocks v ≡ holds s
    → (calls : List Call) → AllTyped calls → AllOf (WriteOk s.blocks) (log [] [] s calls)
