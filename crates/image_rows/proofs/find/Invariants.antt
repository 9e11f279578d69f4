use Rattle.image_rows.specs.Chains.{Chain, last_by}
use Rattle.basics.proofs.Kit.{◌≡◌, eqb}
use Rattle.image_rows.proofs.find.Given as goal

abbrev pub invariant-loop-j : goal.invariant-loop-j
invariant-loop-j l = Chain l.keys l.links l.j l.x × (last_by (eqb l.x) l.keys l.head ≡ last_by (eqb l.x) l.keys l.j)

abbrev pub decreases-loop-j : goal.decreases-loop-j
decreases-loop-j l = l.j
