-- `memory_bytes::search::first_where` meets its contract. The invariant of both loops: the search from index k on has the answer of the search from i on.
use Rattle.memory_bytes.proofs.Scans.{any_group4}
use Rattle.basics.proofs.Searches.{first_skip, first_pass, first_hit, first_end}
use Rattle.basics.proofs.Kit.{◌∙◌, sym, arith}
use Rattle.memory_bytes.proofs.search.first_where.Goals as goal

-- a group without a hit
pub loop-k-preserved : goal.loop-k-preserved
loop-k-preserved g c = let a = c.args in
    let k = c.loop-k.k in (
      omega arith,
      λ f t. first_skip f _ k a.n (c.loop-k.invariant.1 f t) 16 (omega arith) (any_group4 a.m.now a.base k 16 f (c.any16.ensures f t) c.if-any16.false),
    )

pub returns-then-p : goal.returns-then-p
returns-then-p g c = λ f t.
    first_hit f _ c.loop-j.j c.args.n (c.loop-j.invariant f t) (omega arith) c.get4.ensures (sym (t _ _ (omega arith) c.p.ensures) ∙ c.if-p.true)

pub loop-j-preserved : goal.loop-j-preserved
loop-j-preserved g c = λ f t.
    first_pass f _ c.loop-j.j c.args.n (c.loop-j.invariant f t) (omega arith) c.get4.ensures (sym (t _ _ (omega arith) c.p.ensures) ∙ c.if-p.false)

pub returns : goal.returns
returns g c = λ f t. first_end f _ c.loop-j.j c.args.n (c.loop-j.invariant f t) (omega arith) (omega arith)
