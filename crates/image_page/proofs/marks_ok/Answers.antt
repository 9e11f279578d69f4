-- `image_page::marks_ok` meets its contract. The invariant: the cursor is behind the first tuples; the answer is whether the marks of the others are right.
use Rattle.basics.proofs.Kit.{refl, sym, ◌∙◌, drop, arith}
use Rattle.block_reader.proofs.Walk.{read_count, walk_read, walk_found, walk_bad, walk_end}
use Rattle.image_page.proofs.Walk.{mark_right, mark_wrong, marks_end}
use Rattle.block_forms.specs.Limits.{page_head_size}
use Rattle.image_page.proofs.marks_ok.Goals as goal

pub loop-init : goal.loop-init
loop-init c = λ t ts e. (rw c.first-cursor.ensures (walk_read c.args.count c.requires e), refl)

pub returns-in_default : goal.returns-in_default
returns-in_default c = let a = c.args in
    λ t ts e. let n = read_count a.count (drop page_head_size a.block.now) ts e in
    absurd (walk_bad (c.loop.invariant t ts e).0 (omega (arith, c.loop-test.true)) (sym c.in_default.is ∙ c.next.ensures))

pub returns-then-not-mark_ok : goal.returns-then-not-mark_ok
returns-then-not-mark_ok c = let a = c.args in let k = c.loop.invariant in
    λ t ts e. let n = read_count a.count (drop page_head_size a.block.now) ts e in
    let f = walk_found (k t ts e).0 (omega (arith, c.loop-test.true)) (sym c.in-Some.is ∙ c.next.ensures) in
    sym ((k t ts e).1 ∙ mark_wrong f t c.mark_ok.ensures c.if-not-mark_ok.true)

pub loop-preserved : goal.loop-preserved
loop-preserved c = let a = c.args in let k = c.loop.invariant in
    λ t ts e. let n = read_count a.count (drop page_head_size a.block.now) ts e in
    let f = walk_found (k t ts e).0 (omega (arith, c.loop-test.true)) (sym c.in-Some.is ∙ c.next.ensures) in
    (f.walk, (k t ts e).1 ∙ mark_right f t c.mark_ok.ensures c.if-not-mark_ok.false)

pub returns : goal.returns
returns c = let a = c.args in let p = c.loop in
    λ t ts e. let n = read_count a.count (drop page_head_size a.block.now) ts e in
    sym ((p.invariant t ts e).1 ∙ marks_end t (drop p.counter ts) (walk_end (p.invariant t ts e).0 (omega (arith, c.loop-test.false))))
