-- `memory_pages::table_start` meets its contract: table 0 starts at page 0, and table t where table t - 1 ends (`from_end`).
use Rattle.basics.proofs.Kit.{◌≡◌, subst, ℕ, ◌+◌, ◌-◌, arith}
use Rattle.memory_layout.specs.Flat.{flat_of}
use Rattle.memory_pages.specs.Pages.{TableFrom}
use Rattle.memory_pages.proofs.Tables.{from_end}
use Rattle.memory_pages.proofs.table_start.Goals as goal

pub returns-else-t-eq0 : goal.returns-else-t-eq0
returns-else-t-eq0 c = let m = c.args.m.now in let t = c.args.t in let e : t - 1 + 1 ≡ t = omega arith in
    subst (λ (z : ℕ). TableFrom (flat_of m) z c.get2.result) e (from_end c.requires.0 (t - 1) (omega arith) c.get2.ensures)
