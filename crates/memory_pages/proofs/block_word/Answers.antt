-- `memory_pages::block_word` meets its contract: the word is read at its place in the column that `blocks` answers.
use Rattle.memory_bytes.specs.Bytes.{le2}
use Rattle.memory_layout.proofs.Laws.{entries_length}
use Rattle.basics.proofs.Kit.{ap, ◌∙◌, ℕ, ◌+◌, ◌*◌, arith}
use Rattle.memory_pages.proofs.Ranges.{ranges}
use Rattle.memory_pages.proofs.block_word.Goals as goal

pub overflow_mul-p : goal.overflow_mul-p
overflow_mul-p c = omega (arith, ranges c.requires.0, entries_length c.args.m.now)

pub overflow_add-blocks : goal.overflow_add-blocks
overflow_add-blocks c = omega (arith, ranges c.requires.0, entries_length c.args.m.now)

pub get2-requires : goal.get2-requires
get2-requires c = omega (arith, ranges c.requires.0, entries_length c.args.m.now)

pub returns : goal.returns
returns c = c.get2.ensures ∙ ap (λ (z : ℕ). le2 c.args.m.now (z + c.args.p * 2)) c.blocks-2.ensures
