-- `image_header::apart` meets its contract: the library's test of all elements is `all` (`all_listed`).
use Rattle.basics.proofs.Kit.{◌∙◌, Bool, not, ℕ, rules}
use Rattle.basics.specs.Basics.{is_in}
use Rattle.basics.proofs.Iterators.{all_listed}
use Rattle.std.proofs.lemmas.Iterator.{YieldsList-from_slice}
use Rattle.std.proofs.lemmas.Iterator.Search.{all_from_yields_List}
use Rattle.image_header.proofs.apart.Goals as goal

pub returns : goal.returns
returns c = let f : ℕ → Bool = λ e. not (is_in e c.args.t.now) in
    all_from_yields_List f _ _ c.all.result c.all.ensures.ran (YieldsList-from_slice c.args.s.now c.iter.ensures.rest) (λ x b q k. search rules) ∙ all_listed f _
