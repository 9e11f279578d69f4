-- `block_reader::known_page` meets its contract: of a block that is a page the head says table and count (`known`).
use Rattle.std.specs.Prelude.{Some}
use Rattle.basics.proofs.Kit.{sym, ◌∙◌}
use Rattle.block_forms.specs.Decode.{page_table, page_count, page_level}
use Rattle.block_reader.specs.declared.Block.TheVariants.{Page}
use Rattle.block_reader.proofs.Known.{known}
use Rattle.block_reader.proofs.known_page.Goals as goal

pub returns : goal.returns
unfolding page_table page_count page_level
returns c =
    (λ i. Some (Page (record { table = c.get32.ensures i; count = c.get32-2.ensures i; level = c.get32-3.ensures i }))) ∙ sym (known c.args.block.now c.requires)
