-- `memory_pages::count_dirty` meets its contract. The invariant (`Counted`): the answer is k plus the count of the entries from page p on.
use Rattle.basics.proofs.Kit.{ap, ◌∙◌, cond, ℕ, eqb, arith}
use Rattle.memory_bytes.proofs.Scans.{as_number}
use Rattle.basics.proofs.Searches.{one_most}
use Rattle.memory_layout.specs.Flat.{flat_of, no_entry}
use Rattle.memory_layout.proofs.Laws.{entries_length}
use Rattle.memory_pages.specs.Pages.{dirty_entry}
use Rattle.memory_pages.proofs.Ranges.{ranges}
use Rattle.basics.proofs.Counting.{counted_start, counted_iteration, counted_end}
use Rattle.memory_pages.proofs.count_dirty.Goals as goal

pub loop-p-init : goal.loop-p-init
loop-p-init c = (omega (arith, c.page_count-n.ensures, entries_length c.args.m.now), counted_start dirty_entry (flat_of c.args.m.now).entries 0 (omega arith))

pub block_at-requires : goal.block_at-requires
block_at-requires c = (c.requires, omega (arith, c.loop-p.invariant.0))

pub overflow_add-k : goal.overflow_add-k
overflow_add-k c = omega (arith, one_most (eqb c.block_at.result 0) (as_number (eqb c.block_at.result 0) c.from-k.ensures), c.loop-p.invariant.0, c.loop-p.invariant.1.few, ranges c.requires, entries_length c.args.m.now)

pub loop-p-preserved : goal.loop-p-preserved
loop-p-preserved c = let e = (as_number (eqb c.block_at.result 0) c.from-k.ensures) ∙ ap (λ (z : ℕ). cond (eqb z 0) 1 0) c.block_at.ensures in
    let few = one_most (eqb c.block_at.result 0) (as_number (eqb c.block_at.result 0) c.from-k.ensures) in
    (c.loop-p.invariant.0, counted_iteration dirty_entry (flat_of c.args.m.now).entries c.loop-p.invariant.1 no_entry (omega (arith, c.loop-p.invariant.0)) e few)

pub returns : goal.returns
returns c = c.from.ensures ∙ counted_end dirty_entry (flat_of c.args.m.now).entries c.loop-p.invariant.1 (omega (arith, c.loop-p.invariant.0))
