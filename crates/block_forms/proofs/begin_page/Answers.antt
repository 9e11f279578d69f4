-- `block_forms::begin_page` meets its contract: the head's eight bytes over zeros are a page without records yet (`part_start`).
use Rattle.basics.proofs.Kit.{◌∙◌, ap, List, ℕ, arith}
use Rattle.basics.specs.Lists.{over}
use Rattle.block_forms.specs.Bytes.{page_head}
use Rattle.block_forms.proofs.Stores.{put_head}
use Rattle.block_forms.proofs.Built.{part_start}
use Rattle.block_forms.proofs.begin_page.Goals as goal

pub returns : goal.returns
returns c = let a = c.args in
    rw (c.put4-2.ensures, c.put4.ensures)
    (put_head a.block.now a.table a.count a.bytes a.level (omega arith)
    ∙ ap (λ (z : List ℕ). over z 0 (page_head a.table a.count a.bytes a.level)) c.requires.zero
    ∙ part_start a.table a.level a.count a.bytes)
