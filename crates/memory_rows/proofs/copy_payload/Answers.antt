-- `memory_rows::copy_payload` meets its contract, by those of `payload_at` and `copy_out`.
use Rattle.basics.proofs.Kit.{ap, ◌∙◌, List, ◌++◌, ℕ, drop}
use Rattle.memory_rows.proofs.copy_payload.Goals as goal

pub returns : goal.returns
returns c = let p = c.payload_at-p in
    record { count = p.ensures.count; first = c.copy_out.ensures ∙ ap (λ (y : List ℕ). y ++ drop p.result.len c.args.out.now) p.ensures.here }
