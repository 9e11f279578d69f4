-- `image_header::in_blocks` meets its contract: the library's test of all elements is `all` (`all_listed`).
use Rattle.basics.proofs.Kit.{◌∙◌, rules}
use Rattle.basics.proofs.Iterators.{all_listed}
use Rattle.std.proofs.lemmas.Iterator.{YieldsList-from_slice}
use Rattle.std.proofs.lemmas.Iterator.Search.{all_from_yields_List}
use Rattle.image_header.specs.Names.{block_ok}
use Rattle.image_header.proofs.in_blocks.Goals as goal

pub returns : goal.returns
returns c = let f = block_ok c.args.n in
    all_from_yields_List f _ _ c.all.result c.all.ensures.ran (YieldsList-from_slice c.args.s.now c.iter.ensures.rest) (λ x b q k. search rules) ∙ all_listed f _
