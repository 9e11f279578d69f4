-- `memory_rows::owner_at` meets its contract: the owner is read from the row's state and from its slot (`owner_is_lem`).
use Rattle.memory_rows.proofs.Access.{owner_is_lem}
use Rattle.block_forms.specs.Decode.{read_owner}
use Rattle.block_forms.specs.Bytes.{owner_is}
use Rattle.block_forms.proofs.ReadTuples.{owner_same}
use Rattle.memory_bytes.specs.Bytes.{le4}
use Rattle.basics.proofs.Kit.{sym, ap, ◌∙◌, ℕ, ◌+◌}
use Rattle.memory_rows.proofs.owner_at.Goals as goal

pub returns : goal.returns
returns c = let m = c.args.m.now in
    let w = c.get4-w.ensures ∙ ap (λ (z : ℕ). le4 m (z + 4)) c.slot_place.ensures.0 in
    ap owner_is c.owner_of.ensures ∙ owner_same _ ∙ (λ i. read_owner (c.state_at.ensures i) (w i)) ∙ sym (owner_is_lem m c.args.i c.requires.1)
