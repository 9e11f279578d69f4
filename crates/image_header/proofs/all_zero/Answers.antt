-- `image_header::all_zero` meets its contract: the library's test of all elements is `all` (`all_listed`).
use Rattle.basics.proofs.Kit.{◌∙◌, rules}
use Rattle.basics.proofs.Iterators.{all_listed}
use Rattle.std.proofs.lemmas.Iterator.{YieldsList-from_slice}
use Rattle.std.proofs.lemmas.Iterator.Search.{all_from_yields_List}
use Rattle.image_header.specs.Names.{is_zero}
use Rattle.image_header.proofs.all_zero.Goals as goal

pub returns : goal.returns
unfolding is_zero
returns c = all_from_yields_List is_zero _ _ c.all.result c.all.ensures.ran (YieldsList-from_slice c.args.s.now c.iter.ensures.rest) (λ x b q k. search rules) ∙ all_listed is_zero _
