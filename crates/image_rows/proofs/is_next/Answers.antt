-- `image_rows::is_next` meets its contract: `find` answers the last row of the statement before, or none.
use Rattle.basics.proofs.Kit.{refl, sym, ap, ◌∙◌, ◌-◌, eqb, get_or, arith}
use Rattle.image_rows.specs.Chains.{last_by}
use Rattle.image_rows.proofs.Chains.{last_le, table_chain, table_finds, next_first, next_none, next_found}
use Rattle.image_rows.proofs.is_next.Goals as goal
use Rattle.image_rows.proofs.is_next.Goals.{then-o-eq0-via-then-o-eq0, then-o-eq0-via-else-o-eq0+then-o-eq0-2}

pub returns-then-o-eq0 : goal.returns-then-o-eq0
returns-then-o-eq0 c = elim c.then-o-eq0.branch [
  | then-o-eq0-via-then-o-eq0 w ↦ next_first _ _ _ _ (omega (arith, w.if-o-eq0.true))
  | then-o-eq0-via-else-o-eq0+then-o-eq0-2 w ↦ next_first _ _ _ _ w.if-o-eq0-2.true
]

pub find-requires : goal.find-requires
find-requires c = rw c.from.ensures (table_chain c.requires.table _ c.bucket-b.ensures.0)

pub offset_bounds-numbers-before : goal.offset_bounds-numbers-before
offset_bounds-numbers-before c = let a = c.args in
    let o = get_or a.owners.now a.i 0 - 1 in
    let there = table_finds c.requires.table o c.bucket-b.ensures.0 (ap (last_by (eqb o) a.owners.now) c.from.ensures) in
    omega (arith, c.in-Some.ensures, there, last_le (eqb o) a.owners.now a.count)

pub bounds-numbers-before : goal.bounds-numbers-before
bounds-numbers-before c = let a = c.args in
    let o = get_or a.owners.now a.i 0 - 1 in
    let there = table_finds c.requires.table o c.bucket-b.ensures.0 (ap (last_by (eqb o) a.owners.now) c.from.ensures) in
    omega (arith, c.in-Some.ensures, there, last_le (eqb o) a.owners.now a.count)

pub returns-in-Some : goal.returns-in-Some
returns-in-Some c = let a = c.args in
    let o = get_or a.owners.now a.i 0 - 1 in
    let there = table_finds c.requires.table o c.bucket-b.ensures.0 (ap (last_by (eqb o) a.owners.now) c.from.ensures) in
    next_found a.numbers.now _ a.count a.i c.if-o-eq0-2.false refl c.in-Some.before (sym there ∙ c.in-Some.ensures)

pub returns-in-None : goal.returns-in-None
returns-in-None c = let a = c.args in
    let o = get_or a.owners.now a.i 0 - 1 in
    let there = table_finds c.requires.table o c.bucket-b.ensures.0 (ap (last_by (eqb o) a.owners.now) c.from.ensures) in
    next_none a.numbers.now _ a.count a.i c.if-o-eq0-2.false refl (sym there ∙ c.in-None.ensures)
