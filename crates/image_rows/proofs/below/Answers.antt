-- `image_rows::below` meets its contract: the library's test of all numbers is `all` (`all_listed`), and theirs is that of the rows (`all_below`).
use Rattle.basics.proofs.Kit.{◌∙◌, Bool, ℕ, ltb, rules}
use Rattle.basics.proofs.Iterators.{all_listed}
use Rattle.std.proofs.lemmas.Iterator.{YieldsList-from_slice}
use Rattle.std.proofs.lemmas.Iterator.Search.{all_from_yields_List}
use Rattle.image_rows.proofs.Parts.{all_below}
use Rattle.image_rows.proofs.below.Goals as goal

pub returns : goal.returns
returns c = let f : ℕ → Bool = λ v. ltb v c.args.next in
    all_from_yields_List f _ _ c.all.result c.all.ensures.ran (YieldsList-from_slice _ c.iter.ensures.rest) (λ x b q k. search rules)
    ∙ all_listed f _ ∙ all_below c.args.numbers.now c.args.count c.args.next c.requires
