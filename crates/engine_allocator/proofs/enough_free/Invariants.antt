use Rattle.basics.proofs.Kit.{◌≡◌, not, ℕ, ◌+◌, ◌≤◌, ◌-◌}
use Rattle.memory_layout.specs.Flat.{Flat, flat_of}
use Rattle.basics.specs.Basics.{how_many, from}
use Rattle.engine_allocator.proofs.enough_free.Given as goal

-- k of the blocks from 1 up to, not including, b are free
pub record Tallied (f : Flat) (n k b : ℕ) : Type 0 where
  pub whole : n ≡ f.head.blocks
  pub few : k ≤ b
  pub rest : k + how_many (λ b. not (f.used b)) (from b (n - b)) ≡ how_many (λ b. not (f.used b)) (from 1 (n - 1))

abbrev pub invariant-loop-b : goal.invariant-loop-b
invariant-loop-b l = Tallied (flat_of l.m) l.n l.k l.b
