-- `engine_writer::write_directory` meets its contract: a full run of entries or the last one (`run_most`).
use Rattle.basics.proofs.Kit.{◌≡◌, ap, ◌∙◌, List, ℕ, ◌-◌, take, length-take, arith}
use Rattle.block_forms.specs.Block.{directory, encode_block}
use Rattle.engine_writer.proofs.Numbered.{run_most}
use Rattle.memory_layout.proofs.Laws.{sizes}
use Rattle.memory_layout.proofs.Laws.{named_read}
use Rattle.engine_writer.proofs.write_directory.Goals as goal

pub overflow_mul-first : goal.overflow_mul-first
overflow_mul-first c = omega (arith, c.requires.1.start, (sizes c.requires.0).named)

pub overflow_sub-c : goal.overflow_sub-c
overflow_sub-c c = omega (arith, c.requires.1.start, named_read c.args.m.now c.get_counts-c.ensures)

pub named_from-entries-requires : goal.named_from-entries-requires
named_from-entries-requires c = let run = run_most c.requires.1.start (omega (arith, c.min-count.ensures)) (named_read c.args.m.now c.get_counts-c.ensures) in (c.requires.0, record { few = run.few; inside = run.inside })

pub slice_bounds-write_directory-end : goal.slice_bounds-write_directory-end
slice_bounds-write_directory-end c = omega (arith, (run_most {count = c.min-count.result} c.requires.1.start (omega (arith, c.min-count.ensures)) (named_read c.args.m.now c.get_counts-c.ensures)).few)

pub write_directory-requires : goal.write_directory-requires
write_directory-requires c = (omega arith, simp length-take (omega (arith, (run_most {count = c.min-count.result} c.requires.1.start (omega (arith, c.min-count.ensures)) (named_read c.args.m.now c.get_counts-c.ensures)).few)))

pub returns : goal.returns
returns c = let f = c.named_from-entries in
    let n : ℕ = c.min-count.result in
    let e : n - 0 ≡ n = omega arith in
    c.write_directory.ensures
    ∙ ap (λ (l : List ℕ). encode_block (directory c.args.level l))
    (ap (λ (z : ℕ). take z f.result) e ∙ f.ensures ∙ (run_most c.requires.1.start (omega (arith, c.min-count.ensures)) (named_read c.args.m.now c.get_counts-c.ensures)).whole)
