-- All that a run of rows shows is in the ranges of a block.
use Rattle.basics.proofs.Kit.{◌≡◌, List, ℕ, suc, ◌+◌, ◌≤◌, zero, ◌-◌, length, get_or, arith}
use mir.Syntax.{w8}
use mir.Val as val
use Rattle.basics.specs.Basics.{if'◌then◌else◌}
use Rattle.basics.proofs.Facts.{by}
use Rattle.block_forms.specs.Tuple.{AllFit}
use Rattle.model.specs.Rules.{is_adding, shown}
use Rattle.memory_layout.specs.Flat.{flat_of, rows_of, row_in}
use Rattle.memory_rows.proofs.Fitting.{tuple_fits}
use Rattle.engine_writer.proofs.Showing.{run, run_next}

module _ (m : List ℕ) (small : (k : ℕ) → val.Fits w8 (get_or m k 0)) where
  pub shown_fits : (i n : ℕ) → i + n ≤ length (rows_of m) → AllFit (shown (run (rows_of m) i (i + n)))
  unfolding shown if'◌then◌else◌
  shown_fits i zero h = let k : i + zero - i ≡ 0 = omega arith in rw k tt
  shown_fits i (suc n) h =
      let r = row_in (flat_of m) i in
      let e : i + 1 + n ≡ i + suc n = omega arith in
      let more = rw e at (shown_fits (i + 1) n (omega arith)) in
      rw (run_next (rows_of m) i (i + suc n) (omega arith) h)
      (by (is_adding r.pending) (λ a. rw a more) (λ a. rw a (tuple_fits m small i (omega arith), more)))
