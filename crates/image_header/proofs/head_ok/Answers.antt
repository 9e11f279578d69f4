-- `image_header::head_ok` meets its contract: the counts and the three tests of the directory numbers.
use Rattle.basics.proofs.Kit.{sym, ◌∙◌, arith}
use Rattle.std.proofs.lemmas.Grind.{common_steps}
use Rattle.basics.specs.Basics.{every}
use Rattle.image_header.specs.Names.{directory_blocks, unused_numbers, header_ok}
use Rattle.image_header.proofs.Heads.{counts_are}
use Rattle.image_header.proofs.head_ok.Goals as goal

pub returns-then-not-counts_ok : goal.returns-then-not-counts_ok
unfolding header_ok every
returns-then-not-counts_ok c = grind (arith, common_steps)

pub split_at-requires : goal.split_at-requires
split_at-requires c = (counts_are _ _ (sym c.counts_ok.ensures ∙ c.if-not-counts_ok.false)).four

pub returns-then-distinct : goal.returns-then-distinct
unfolding header_ok directory_blocks unused_numbers every
returns-then-distinct c = grind (arith, common_steps)

pub returns-else-distinct : goal.returns-else-distinct
unfolding header_ok directory_blocks unused_numbers every
returns-else-distinct c = grind (arith, common_steps)
