-- What the functions of the tests answer.
use Rattle.std.specs.Prelude.{ℕ, ◌≤◌, ◌≡◌, Bool, true, false, List, length, map, Option, Some, None, Result, Ok, Err}
use Rattle.std.proofs.Math.Option.{none, some}
use Rattle.std.proofs.Math.Option as math
use Rattle.basics.specs.Basics.{all}
use Rattle.basics.specs.Lists.{over}
use Rattle.block_forms.specs.Spell.{zeros}
use Rattle.image_rows.specs.Columns.{ColumnsHold}
use Rattle.image.specs.View.{block_count}
use Rattle.image.specs.Stages.{Stage, refuses, holds, capacity_limit, block_ok, StoredPage}
use Rattle.image.specs.Whole.{Contents}
use Rattle.image.specs.declared.Image.{Image}
use Rattle.refusals.specs.declared.Refusal.{Refusal}
use Rattle.refusals.specs.Numbers.{number}

-- ---- parts of the tests

-- numbers are put over those of out from a place on, if there are any to put; r says how many
abbrev pub Filled : math.Option (List ℕ) → ℕ → List ℕ → Option ℕ → List ℕ → Type 0
Filled none at out r out' = r ≡ None
Filled (some es) at out r out' = (r ≡ Some (length es)) × (out' ≡ over out at es)

-- the pages named may be tested: their blocks stand in the image, and the columns have room for every tuple
pub record Testable (img es : List ℕ) (capacity : ℕ) (ps ns os ms : List ℕ) : Type 0 where
  pub inside : all (block_ok (block_count img)) es ≡ true
  pub few : capacity ≤ capacity_limit
  pub columns : ColumnsHold ps ns os ms capacity

-- the stage passed
unfoldable pub accepts : {A : Type 0} → Stage A → Bool
accepts (refuses n) = false
accepts (holds a) = true

-- ---- the answers

-- the stage that an answer stands for
abbrev pub stage_of : {A : Type 0} → Result A Refusal → Stage A
stage_of (Ok a) = holds a
stage_of (Err e) = refuses (number e)

-- 1,024 zeros: the entries where there is no page
unfoldable pub no_entries : List ℕ
no_entries = zeros capacity_limit

-- the blocks of the pages, then zeros
unfoldable pub entries_in : List StoredPage → List ℕ
entries_in ps = over no_entries 0 (map (λ p. p.block) ps)

-- the answer of tests 23 and 24
unfoldable pub pages_answer : Stage (List StoredPage) → Stage (List ℕ)
pages_answer (refuses n) = refuses n
pages_answer (holds ps) = holds (entries_in ps)

-- the answer of all tests
unfoldable pub image_answer : Stage Contents → Stage Image
image_answer (refuses n) = refuses n
image_answer (holds c) = holds (record { header = c.header; entries = entries_in c.pages })
