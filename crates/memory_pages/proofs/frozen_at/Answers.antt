-- `memory_pages::frozen_at` meets its contract: the page's word says whether it is frozen (`entry_frozen`).
use Rattle.block_forms.specs.Limits.{block_limit}
use Rattle.basics.proofs.Kit.{sym, ap, ◌∙◌, ℕ, ◌%◌, ◌/◌, eqb, arith}
use Rattle.memory_layout.proofs.Laws.{entries_length}
use Rattle.memory_pages.proofs.Ranges.{entry_frozen}
use Rattle.memory_pages.proofs.frozen_at.Goals as goal

pub returns : goal.returns
returns c = let m = c.args.m.now in
    ap (λ (z : ℕ). eqb (z / block_limit % 2) 1) c.block_word.ensures ∙ sym (entry_frozen m c.args.p (omega (arith, entries_length m)))
