-- `memory_bytes::search::last_where` meets its contract. The invariant of both loops: the search below index k has the answer of the search below e.
use Rattle.basics.proofs.Searches.{last_skip, last_pass, last_hit, last_end}
use Rattle.memory_bytes.proofs.Scans.{any_group4}
use Rattle.basics.proofs.Kit.{◌≡◌, ◌+◌, ◌-◌, ◌∙◌, sym, arith}
use Rattle.memory_bytes.proofs.search.last_where.Goals as goal

-- a group without a hit
pub loop-k-preserved : goal.loop-k-preserved
loop-k-preserved g c = let a = c.args in
    let k = c.loop-k.k in (
      omega arith,
      omega arith,
      λ f t. last_skip f _ a.s a.e k (c.loop-k.invariant.2 f t) 16 (omega arith) (any_group4 a.m.now a.base (k - 16) 16 f (c.any16.ensures f t) c.if-any16.false),
    )

pub returns-then-p : goal.returns-then-p
returns-then-p g c = λ f t.
    let up : c.loop-j.j - 1 + 1 ≡ c.loop-j.j = omega arith in
    up ∙ last_hit f _ c.args.s c.args.e c.loop-j.j (c.loop-j.invariant f t) (omega arith) c.get4.ensures (sym (t _ _ (omega arith) c.p.ensures) ∙ c.if-p.true)

pub loop-j-preserved : goal.loop-j-preserved
loop-j-preserved g c = λ f t.
    last_pass f _ c.args.s c.args.e c.loop-j.j (c.loop-j.invariant f t) (omega arith) c.get4.ensures (sym (t _ _ (omega arith) c.p.ensures) ∙ c.if-p.false)

pub returns : goal.returns
returns g c = λ f t. last_end f _ c.args.s c.args.e c.loop-j.j (c.loop-j.invariant f t) (omega arith)
