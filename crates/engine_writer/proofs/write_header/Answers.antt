-- `engine_writer::write_header` meets its contract: the header's fields are those of the memory (`header_is`).
use Rattle.engine_writer.proofs.Headers.{header_is}
use Rattle.memory_layout.specs.declared.Head.{Head}
use Rattle.block_forms.specs.declared.Header.{Header}
use Rattle.block_forms.specs.Block.{header, encode_block}
use Rattle.basics.proofs.Kit.{ap, ◌∙◌, arith}
use Rattle.engine_writer.proofs.write_header.Goals as goal

pub overflow_add-block : goal.overflow_add-block
overflow_add-block c = omega (arith, c.requires.1.level, ap (λ (x : Head). x.level) c.get_head-h.ensures)

pub returns : goal.returns
returns c = let m = c.args.m.now in
    c.write_header.ensures
    ∙ ap (λ (x : Header). encode_block (header x)) (header_is m c.get_counts-c.ensures c.get_head-h.ensures c.directory_number.ensures
    c.directory_number-2.ensures c.directory_number-3.ensures c.directory_number-4.ensures)
