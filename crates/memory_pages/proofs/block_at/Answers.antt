-- `memory_pages::block_at` meets its contract: the page's word modulo 4,096 is its block (`entry_block`).
use Rattle.block_forms.specs.Limits.{block_limit}
use Rattle.basics.proofs.Kit.{sym, ap, ◌∙◌, ℕ, ◌%◌, arith}
use Rattle.memory_layout.proofs.Laws.{entries_length}
use Rattle.memory_pages.proofs.Ranges.{entry_block}
use Rattle.memory_pages.proofs.block_at.Goals as goal

pub returns : goal.returns
returns c = let m = c.args.m.now in
    ap (λ (z : ℕ). z % block_limit) c.block_word.ensures ∙ sym (entry_block m c.args.p (omega (arith, entries_length m)))
