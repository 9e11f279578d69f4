-- `image_rows::link_all` meets its contract. The invariant: the table is that of the first i rows, and the answer is whether each key from row i on is new.
use Rattle.basics.proofs.Kit.{refl, sym, ◌∙◌, inl, inr, arith}
use Rattle.image_rows.proofs.Chains.{table_chain, found_some, found_none, linking_start, linking_end, linking_stop, linking_iteration}
use Rattle.image_rows.proofs.link_all.Goals as goal
use Rattle.image_rows.proofs.link_all.Goals.{else-x-gt0-via-then-x-gt0+else-is_some, else-x-gt0-via-else-x-gt0}

pub loop-i-init : goal.loop-i-init
loop-i-init c = linking_start _ _ c.requires.empty

pub find-requires : goal.find-requires
find-requires c = rw c.from.ensures (table_chain c.loop-i.invariant.table _ c.bucket-b.ensures.0)

pub returns-then-is_some-clause-once : goal.returns-then-is_some-clause-once
returns-then-is_some-clause-once c = let found = found_some _ c.find.result c.find.ensures (sym c.is_some.ensures ∙ c.if-is_some.true) in
    linking_stop _ c.args.count c.loop-i.invariant c.loop-i-test.true c.bucket-b.ensures.0 refl c.if-x-gt0.true (rw c.from.ensures at found)

pub loop-i-preserved : goal.loop-i-preserved
loop-i-preserved c = let linked = linking_iteration _ c.args.count c.loop-i.invariant c.loop-i-test.true c.bucket-b.ensures.0 refl in elim c.else-x-gt0.branch [
  | else-x-gt0-via-then-x-gt0+else-is_some w ↦
      let found = found_none _ w.find.result w.find.ensures (sym w.is_some.ensures ∙ w.if-is_some.false) in
      linked (inr (rw w.from.ensures at found)) (omega arith) (omega arith)
  | else-x-gt0-via-else-x-gt0 w ↦ linked (inl (omega (arith, w.if-x-gt0.false))) (omega arith) (omega arith)
]

pub returns-clause-once : goal.returns-clause-once
returns-clause-once c = (linking_end _ _ c.loop-i.invariant (omega arith)).0

pub returns-clause-made : goal.returns-clause-made
returns-clause-made c = (linking_end _ _ c.loop-i.invariant (omega arith)).1
