-- `memory_rows::size_at` meets its contract: the size depends on the state alone (`size_is`).
use Rattle.memory_rows.proofs.Fields.{size_is, owner_most}
use Rattle.basics.proofs.Kit.{sym, ◌∙◌, ap, ltb, arith}
use Rattle.block_forms.specs.Limits.{committed_value}
use Rattle.block_forms.specs.Tuple.{record_size}
use Rattle.memory_rows.proofs.size_at.Goals as goal

pub returns : goal.returns
returns c = let s = c.state_at-s.result in let n = c.length_of in
    let e = c.record_size.ensures ∙ ap (record_size (ltb s committed_value)) n.ensures.0 in
    (e ∙ sym (size_is c.args.m.now c.args.i c.requires.1 s c.state_at-s.ensures), omega (arith, c.record_size.ensures, owner_most (ltb s committed_value)))
