use Rattle.image_rows.proofs.Chains.{Linking}
use Rattle.image_rows.proofs.link_all.Given as goal

abbrev pub invariant-loop-i : goal.invariant-loop-i
invariant-loop-i l = Linking l.keys l.count l.heads l.links l.i
