-- `memory_rows::shifts::take_eight` meets its contract: each array holds the bytes of its column.
use Rattle.basics.proofs.Kit.{ap, ◌∙◌, ℕ, ◌+◌, ◌*◌}
use Rattle.memory_bytes.specs.Bytes.{bytes}
use Rattle.memory_bytes.proofs.Bytes.{copied_whole}
use Rattle.memory_rows.proofs.shifts.take_eight.Goals as goal

pub returns : goal.returns
returns c = let a = c.args in let m = a.m.now in let k = c.keys_at in let r = c.refs_at in let t = c.states_at in
    record {
      keys = copied_whole m (k.result + a.i * 4) 32 c.copy_out.ensures
          ∙ ap (λ (z : ℕ). bytes m (z + a.i * 4) 32) k.ensures;
      refs = copied_whole m (r.result + a.i * 2) 16 c.copy_out-2.ensures
          ∙ ap (λ (z : ℕ). bytes m (z + a.i * 2) 16) r.ensures;
      states = copied_whole m (t.result + a.i) 8 c.copy_out-3.ensures
          ∙ ap (λ (z : ℕ). bytes m (z + a.i) 8) t.ensures;
    }
