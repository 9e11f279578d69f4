-- `memory_pages::start_at` meets its contract: a page's start is stored (`start_stored`); behind the last page it is the number of rows (`start_behind`).
use Rattle.memory_layout.proofs.Laws.{rows_length}
use Rattle.memory_layout.specs.Flat.{capacity_of}
use Rattle.memory_bytes.specs.Bytes.{le2}
use Rattle.basics.proofs.Kit.{sym, ap, ◌∙◌, ℕ, ◌+◌, ◌*◌, arith}
use Rattle.memory_pages.proofs.Ranges.{ranges, start_stored, start_behind}
use Rattle.memory_pages.proofs.start_at.Goals as goal

pub overflow_mul-p : goal.overflow_mul-p
overflow_mul-p c = omega (arith, ranges c.requires)

pub overflow_add-starts : goal.overflow_add-starts
overflow_add-starts c = omega (arith, ranges c.requires)

pub get2-requires : goal.get2-requires
get2-requires c = omega (arith, ranges c.requires)

pub returns-then-p-page_count : goal.returns-then-p-page_count
returns-then-p-page_count c = let m = c.args.m.now in
    c.get2.ensures ∙ ap (λ (z : ℕ). le2 m (z + c.args.p * 2)) c.starts.ensures ∙ sym (start_stored m (capacity_of m) c.args.p (omega arith))

pub returns-else-p-page_count : goal.returns-else-p-page_count
returns-else-p-page_count c = let m = c.args.m.now in
    c.row_count.ensures ∙ rows_length m ∙ sym (start_behind m (capacity_of m) c.args.p (omega arith))
