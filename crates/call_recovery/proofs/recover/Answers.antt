-- `call_recovery::recover` meets its contract: the tests in order, each refusal with the memory as found, then the store that the image holds (`all_recovered`).
use Rattle.basics.proofs.Kit.{sym, ap, ◌∙◌, take, length-take, arith}
use Rattle.std.proofs.lemmas.Result.{err_from_is_err_and}
use Rattle.image.proofs.Staged.{pages_stopped}
use Rattle.image.specs.Stages.{holds}
use Rattle.image.specs.View.{view}
use Rattle.call_recovery.specs.Loading.{pages_at, blocks_in}
use Rattle.call_recovery.proofs.Answered.{ready, refused_header, refused_memory, refused_pages, all_recovered}
use Rattle.call_recovery.proofs.recover.Goals as goal

pub returns-in_err-h : goal.returns-in_err-h
returns-in_err-h c = let p = err_from_is_err_and c.from_residual.result c.from_residual.ensures.1 in rw (p.1, p.2) (refused_header _ c.args.m.now _ c.in_err-h.ensures)

pub returns-then-m-space : goal.returns-then-m-space
returns-then-m-space c = refused_memory _ c.args.m.now _ c.in_ok-h.ensures (omega (arith, c.if-m-space.true))

pub test_pages-requires : goal.test_pages-requires
test_pages-requires c = sym c.in_ok-h.ensures

pub returns-in_err-entries : goal.returns-in_err-entries
returns-in_err-entries c = let p = err_from_is_err_and c.from_residual-in_err-entries.result c.from_residual-in_err-entries.ensures.1 in
    rw (p.1, p.2) (refused_pages _ c.args.m.now _ c.in_ok-h.ensures (omega (arith, c.if-m-space.false)) _ (pages_stopped _ c.in_err-entries.ensures))

pub slice_bounds-entries-end : goal.slice_bounds-entries-end
slice_bounds-entries-end c = let r = ready _ c.in_ok-h.h _ c.in_ok-h.ensures c.in_ok-entries.ensures in
    omega (arith, r.count, length-take c.in_ok-h.h.pages c.in_ok-entries.entries)

pub slice_bounds-lay_out-end : goal.slice_bounds-lay_out-end
slice_bounds-lay_out-end c = sym (ready _ c.in_ok-h.h _ c.in_ok-h.ensures c.in_ok-entries.ensures).count

pub lay_out-requires : goal.lay_out-requires
lay_out-requires c = let r = ready _ c.in_ok-h.h _ c.in_ok-h.ensures c.in_ok-entries.ensures in
    record {
      header = sym c.in_ok-h.ensures;
      memory = omega (arith, c.if-m-space.false);
      pages = r.passed ∙ ap holds (sym r.there);
      blocks = ap blocks_in r.there ∙ r.blocks;
    }

pub returns : goal.returns
returns c = let r = ready _ c.in_ok-h.h _ c.in_ok-h.ensures c.in_ok-entries.ensures in
    let es = take c.in_ok-h.h.pages c.in_ok-entries.entries in
    all_recovered _ _ _ c.in_ok-h.ensures (omega (arith, c.if-m-space.false)) (pages_at (view _) es) _ (r.passed ∙ ap holds (sym r.there)) c.lay_out.ensures
