-- `block_reader::read_block` meets its contract: the kind decides which of the three is read; of any other kind there is no block (`reads_other`).
use Rattle.basics.proofs.Kit.{sym, ap, ◌∙◌, arith}
use Rattle.block_reader.specs.Answers.{reading}
use Rattle.block_reader.proofs.Answering.{kind_header, kind_page, kind_directory, reads_other}
use Rattle.block_reader.proofs.read_block.Goals as goal

pub returns-in-1 : goal.returns-in-1
returns-in-1 c = c.read_header.ensures ∙ ap reading (sym (kind_header c.args.block.now c.get32-kind.ensures (omega arith)))

pub returns-in-2 : goal.returns-in-2
returns-in-2 c = c.read_page.ensures ∙ ap reading (sym (kind_page c.args.block.now c.get32-kind.ensures (omega arith)))

pub returns-in-3 : goal.returns-in-3
returns-in-3 c = c.read_directory.ensures ∙ ap reading (sym (kind_directory c.args.block.now c.get32-kind.ensures (omega arith)))

pub returns-in_default : goal.returns-in_default
returns-in_default c = sym (reads_other c.args.block.now c.get32-kind.ensures (λ h. omega arith) (λ h. omega arith) (λ h. omega arith))

pub returns-in-0 : goal.returns-in-0
returns-in-0 c = sym (reads_other c.args.block.now c.get32-kind.ensures (λ h. omega arith) (λ h. omega arith) (λ h. omega arith))

pub returns-in-0-2 : goal.returns-in-0-2
returns-in-0-2 c = sym (reads_other c.args.block.now c.get32-kind.ensures (λ h. omega arith) (λ h. omega arith) (λ h. omega arith))
