-- `engine_close::is_live` meets its contract: the row is that of the memory.
use Rattle.model.specs.Rules.{is_removing}
use Rattle.model.specs.State.{Held}
use Rattle.engine_close.specs.Close.{is_live}
use Rattle.engine_close.proofs.Memory.{tagged_length, row_is}
use Rattle.basics.proofs.Kit.{sym, ap, ◌∙◌, not, arith}
use Rattle.engine_close.proofs.is_live.Goals as goal

pub is_removing-requires : goal.is_removing-requires
is_removing-requires c = (c.requires.0, omega (arith, c.requires.1, tagged_length _ c.requires.0))

pub returns : goal.returns
unfolding is_live
returns c = ap not (c.is_removing.ensures ∙ ap (λ (h : Held). is_removing h.pending) (sym (row_is _ c.requires.0 _)))
