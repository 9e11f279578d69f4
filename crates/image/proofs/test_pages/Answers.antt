-- `image::test_pages` meets its contract: a lemma of Staged for each return; `passing` has what is known of a header that passed, `got` of entries that were read.
use Rattle.std.specs.Prelude.{Result, Err}
use Rattle.std.proofs.lemmas.Result.{err_from_is_err_and}
use Rattle.basics.proofs.Kit.{◌≡◌, sym, ap, length-take, ℕ, arith}
use Rattle.refusals.specs.declared.Refusal.{Refusal}
use Rattle.refusals.specs.declared.Refusal.TheVariants.{BadDirectory}
use Rattle.image.proofs.Staged.{passing, four, within_none, none_read, named, not_read, got, not_ok, in_image, wrong_pages, right_pages}
use Rattle.image.specs.Answers.{pages_answer}
use Rattle.image.proofs.test_pages.Goals as goal

pub slice_bounds-directories-end : goal.slice_bounds-directories-end
slice_bounds-directories-end c = four (passing _ _ c.requires)

pub slice_bounds-gather-end : goal.slice_bounds-gather-end
slice_bounds-gather-end c = simp length-take (omega (arith, four (passing _ _ c.requires)))

pub gather-requires-clause-directories_value : goal.gather-requires-clause-directories_value
gather-requires-clause-directories_value c = named (passing _ _ c.requires)

pub gather-requires-clause-pages_in_bounds : goal.gather-requires-clause-pages_in_bounds
gather-requires-clause-pages_in_bounds c = within_none (passing _ _ c.requires)

pub returns-in_err-ok_or : goal.returns-in_err-ok_or
unfolding pages_answer
returns-in_err-ok_or c = let e = c.in_err-ok_or in
    let p = err_from_is_err_and c.from_residual.result c.from_residual.ensures.1 in
    let v : ◌≡◌ {A = Result ℕ Refusal} (Err e.field-0.0) (Err BadDirectory) = rw e.ensures.ok_part at e.ensures.value in
    let bad : e.field-0.0 ≡ BadDirectory = cc in
    rw (p.1, p.2, bad) (ap pages_answer (sym (not_read (passing _ _ c.requires) none_read c.gather.new.out c.gather.ensures e.ensures.ok_part)))

pub slice_bounds-entries-end : goal.slice_bounds-entries-end
slice_bounds-entries-end c = omega (arith, within_none (passing _ _ c.requires), c.gather.auto.out)

pub slice_bounds-entries_ok-end : goal.slice_bounds-entries_ok-end
slice_bounds-entries_ok-end c = simp length-take (omega (arith, within_none (passing _ _ c.requires), c.gather.auto.out))

pub slice_bounds-directories-end-2 : goal.slice_bounds-directories-end-2
slice_bounds-directories-end-2 c = four (passing _ _ c.requires)

pub slice_bounds-entries_ok-end-2 : goal.slice_bounds-entries_ok-end-2
slice_bounds-entries_ok-end-2 c = simp length-take (omega (arith, four (passing _ _ c.requires)))

pub returns-then-not-entries_ok : goal.returns-then-not-entries_ok
unfolding pages_answer
returns-then-not-entries_ok c = let g = got (passing _ _ c.requires) none_read c.gather.new.out c.gather.ensures c.in_ok-ok_or.ensures.ok_part in
    ap pages_answer (sym (not_ok g c.entries_ok.ensures c.if-not-entries_ok.true))

pub slice_bounds-entries-end-2 : goal.slice_bounds-entries-end-2
slice_bounds-entries-end-2 c = omega (arith, within_none (passing _ _ c.requires), c.gather.auto.out)

pub slice_bounds-pages_ok-end : goal.slice_bounds-pages_ok-end
slice_bounds-pages_ok-end c = simp length-take (omega (arith, within_none (passing _ _ c.requires), c.gather.auto.out))

pub pages_ok-requires-clause-entries_value : goal.pages_ok-requires-clause-entries_value
pages_ok-requires-clause-entries_value c = let g = got (passing _ _ c.requires) none_read c.gather.new.out c.gather.ensures c.in_ok-ok_or.ensures.ok_part in
    in_image g c.entries_ok.ensures c.if-not-entries_ok.false

pub pages_ok-requires-clause-capacity_le_capacity_limit : goal.pages_ok-requires-clause-capacity_le_capacity_limit
pages_ok-requires-clause-capacity_le_capacity_limit c = (passing _ _ c.requires).counts.high

pub returns-then-not-pages_ok : goal.returns-then-not-pages_ok
unfolding pages_answer
returns-then-not-pages_ok c = let g = got (passing _ _ c.requires) none_read c.gather.new.out c.gather.ensures c.in_ok-ok_or.ensures.ok_part in
    ap pages_answer (sym (wrong_pages g c.entries_ok.ensures c.if-not-entries_ok.false c.pages_ok.ensures c.if-not-pages_ok.true))

pub returns : goal.returns
returns c = let g = got (passing _ _ c.requires) none_read c.gather.new.out c.gather.ensures c.in_ok-ok_or.ensures.ok_part in
    right_pages g c.entries_ok.ensures c.if-not-entries_ok.false c.pages_ok.ensures c.if-not-pages_ok.false
