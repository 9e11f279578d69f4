-- `memory_pages::word` meets its contract, for a frozen page and for one that is not.
use Rattle.block_forms.specs.Limits.{block_limit}
use Rattle.basics.proofs.Kit.{sym, ap, ◌∙◌, Bool, cond, ◌+◌, add-zero}
use Rattle.memory_pages.specs.Pages.{word_of}
use Rattle.memory_pages.proofs.word.Goals as goal

pub returns-then-frozen : goal.returns-then-frozen
unfolding word_of
returns-then-frozen c = let b = c.args.block in ap (λ (z : Bool). b + cond z block_limit 0) (sym c.if-frozen.true)

pub returns-else-frozen : goal.returns-else-frozen
unfolding word_of
returns-else-frozen c = let b = c.args.block in sym (add-zero b) ∙ ap (λ (z : Bool). b + cond z block_limit 0) (sym c.if-frozen.false)
