-- `image_rows::starts` meets its contract: what the library leaves of the codes is as long as `how_many` says (`count_listed`).
use Rattle.basics.proofs.Kit.{◌∙◌, ap, rules}
use Rattle.basics.proofs.Iterators.{count_listed}
use Rattle.std.specs.Slice.Iter.{iter_rest}
use Rattle.std.proofs.lemmas.Iterator.{YieldsList-from_slice}
use Rattle.std.proofs.lemmas.Iterator.Consumers.{YieldsList-from_filter, count_from_yields_List}
use borrow.Author.Tests.{tests}
use Rattle.image_rows.specs.Chains.{is_start}
use Rattle.image_rows.proofs.Parts.{starts_taken}
use Rattle.image_rows.proofs.starts.Goals as goal

pub returns : goal.returns
returns c = count_from_yields_List _ c.count.result c.count.ensures.ran
    (YieldsList-from_filter _ is_start (YieldsList-from_slice _ (ap iter_rest c.filter.ensures.source ∙ c.iter.ensures.rest)) c.filter.ensures.closure (λ x b q k. search (rules, tests)))
    ∙ count_listed is_start _ ∙ starts_taken c.args.owners.now c.args.count c.requires
