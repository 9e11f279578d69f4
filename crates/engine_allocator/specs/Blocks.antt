-- What is counted and searched for the blocks that a checkpoint takes.
use Rattle.std.specs.Prelude.{◌≡◌, ℕ, ◌-◌, ◌≤◌, ◌<◌, Bool, not, List, length, Option as Found, Some, None}
use Rattle.std.proofs.Math.Option.{none, some}
use Rattle.basics.specs.Basics.{first, from}
use Rattle.block_forms.specs.Limits.{block_limit}
use Rattle.model.specs.Checkpoint.{blocks_left}
use Rattle.memory_layout.specs.Places.{head_size}
use Rattle.memory_layout.specs.Flat.{flat_of}
use Rattle.engine_pages.specs.Pages.{pages_of}
use Rattle.engine_allocator.specs.declared.Allocator.{Allocator}

-- the allocator of the checkpoint that runs in the memory m: the block last taken, and how many are still to be taken
abbrev pub allocator_in : List ℕ → Allocator
allocator_in m = record { taken = (flat_of m).head.taken; left = blocks_left (flat_of m).named (flat_of m).directories (pages_of m) }

-- the memory has a head, and the blocks from a up to e are blocks of an image
pub record BlockRange (m : List ℕ) (a e : ℕ) : Type 0 where
  pub head : head_size ≤ length m
  pub order : a ≤ e
  pub most : e ≤ block_limit

-- o is the first block from a up to, not including, e that is not in use
abbrev pub FirstFree : (ℕ → Bool) → ℕ → ℕ → Found ℕ → Type 0
FirstFree used a e (Some b) = (first (λ b. not (used b)) (from a (e - a)) ≡ some b) × (b < e)
FirstFree used a e None = first (λ b. not (used b)) (from a (e - a)) ≡ none
