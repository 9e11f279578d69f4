-- `image_rows::is_in` meets its contract: the library's test of some element is `any` (`any_listed`).
use Rattle.basics.proofs.Kit.{◌∙◌, ap, eqb, rules}
use Rattle.std.specs.Slice.Iter.{iter_rest}
use Rattle.basics.proofs.Iterators.{any_listed}
use Rattle.std.proofs.lemmas.Iterator.{YieldsList-from_slice}
use Rattle.std.proofs.lemmas.Iterator.Adapters.{YieldsList-from_skip}
use Rattle.std.proofs.lemmas.Iterator.Search.{any_from_yields_List}
use Rattle.basics.specs.Basics.{is_in}
use Rattle.image_rows.proofs.is_in.Goals as goal

pub returns : goal.returns
unfolding is_in
returns c = let ys = YieldsList-from_skip c.args.from (YieldsList-from_slice c.args.s.now (ap iter_rest c.skip.ensures.source ∙ c.iter.ensures.rest)) c.skip.ensures.count in
    any_from_yields_List (eqb c.args.x) _ _ c.any.result c.any.ensures.ran ys (λ y b q k. search rules) ∙ any_listed (eqb c.args.x) _
