-- `image_rows::distinct` meets its contract: the numbers are distinct exactly if each key is there once (`keys_distinct`), which `link_all` answers.
use Rattle.image_rows.proofs.Chains.{empty_table}
use Rattle.image_rows.proofs.Keys.{keys_distinct}
use Rattle.basics.proofs.Kit.{◌∙◌, arith}
use Rattle.image_rows.proofs.distinct.Goals as goal

pub link_all-requires : goal.link_all-requires
link_all-requires c = record { few = omega arith; rows = omega arith; linked = omega arith; empty = empty_table _ _ }

pub returns : goal.returns
returns c = c.link_all.ensures.once ∙ keys_distinct c.to_keys.new.keys _ c.to_keys.ensures
