-- `call_checkpoint::run` meets its contract. The invariant: the stores made so far and those of the n steps to come are those of the model's run (`Repeats`).
use Rattle.basics.proofs.Kit.{refl, ap, ◌∙◌, List, ℕ, ◌+◌, min, length, rules, arith}
use Rattle.std.proofs.lemmas.Result.{err_from_is_err_and}
use Rattle.model.specs.Checkpoint.{run_call}
use Rattle.memory_layout.specs.Flat.{flat_of}
use Rattle.memory_layout.proofs.Laws.{holds_room}
use Rattle.call_checkpoint.specs.Keeping.{Ready}
use Rattle.call_checkpoint.proofs.Running.{left_is}
use Rattle.call_checkpoint.proofs.Stepping.{frozen_all, stopped, passed_ready, step_taken}
use Rattle.call_checkpoint.proofs.Repeating.{run_5, run_18, repeats_start, repeats_ready, repeats_iteration, repeats_end}
use Rattle.call_checkpoint.proofs.run.Goals as goal

pub returns-in_err-check_step : goal.returns-in_err-check_step
returns-in_err-check_step c = let img : List ℕ = c.args.image.now in
    let p = err_from_is_err_and c.from_residual.result c.from_residual.ensures.1 in
    rw (p.1, p.2) (stopped (length img) _ _ c.in_err-check_step.ensures (run_call _ (length img)) (run_5 _ (length img)) (run_18 _ (length img)) img)

pub count_frozen-requires : goal.count_frozen-requires
count_frozen-requires c = let ready : Ready c.args.image.now c.args.m.now = passed_ready _ _ c.in_ok-check_step.ensures in
    (holds_room _ ready.runs.has_store, omega arith)

pub blocks_left-left-requires : goal.blocks_left-left-requires
blocks_left-left-requires c = let ready : Ready c.args.image.now c.args.m.now = passed_ready _ _ c.in_ok-check_step.ensures in
    (holds_room _ ready.runs.has_store, frozen_all c.args.m.now c.count_frozen.ensures)

pub overflow_add-left : goal.overflow_add-left
overflow_add-left c = record { fits = omega (arith, c.blocks_left-left.ensures.1) }

pub loop-due-init : goal.loop-due-init
loop-due-init c = let ready : Ready c.args.image.now c.args.m.now = passed_ready _ _ c.in_ok-check_step.ensures in
    repeats_start _ _ _ _ (omega arith) ready (omega (arith, c.min-k.ensures, c.blocks_left-left.ensures.0, left_is (flat_of _) ready.runs.on))

pub loop-due-preserved : goal.loop-due-preserved
loop-due-preserved c = let l = c.loop-due in repeats_iteration l.invariant (omega arith) (search rules) (step_taken (repeats_ready l.invariant (omega (arith, c.loop-due-test.true))) _ c.step.ensures)

pub returns : goal.returns
returns c = let ready : Ready c.args.image.now c.args.m.now = passed_ready _ _ c.in_ok-check_step.ensures in
    let l = ap (λ (n : ℕ). n + 1) c.blocks_left-left.ensures.0 ∙ left_is (flat_of _) ready.runs.on in
    repeats_end c.loop-due.invariant (omega (arith, c.loop-due-test.false)) _ ready (c.min-k.ensures ∙ ap (min _) l) _ refl
