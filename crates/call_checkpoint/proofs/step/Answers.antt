-- `call_checkpoint::step` meets its contract: 5 and 18 by the model's tests, else one store as the model makes it (`step_done`).
use Rattle.basics.proofs.Kit.{List, ℕ, length}
use Rattle.std.proofs.lemmas.Result.{err_from_is_err_and}
use Rattle.model.specs.Checkpoint.{step_call}
use Rattle.call_checkpoint.proofs.Stepping.{stopped, step_5, step_18, passed_ready, step_done}
use Rattle.call_checkpoint.proofs.step.Goals as goal

pub returns-in_err-check_step : goal.returns-in_err-check_step
returns-in_err-check_step c = let img : List ℕ = c.args.image.now in
    let p = err_from_is_err_and c.from_residual.result c.from_residual.ensures.1 in
    rw (p.1, p.2) (stopped (length img) _ _ c.in_err-check_step.ensures (step_call (length img)) (step_5 (length img)) (step_18 (length img)) img)

pub store_next-n-requires : goal.store_next-n-requires
store_next-n-requires c = passed_ready _ _ c.in_ok-check_step.ensures

pub returns : goal.returns
returns c = let d = c.store_next-n.ensures in step_done (passed_ready _ _ c.in_ok-check_step.ensures) d.0 d.1
