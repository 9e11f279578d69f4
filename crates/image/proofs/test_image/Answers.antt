-- `image::test_image` meets its contract: the lemmas of Staged join the answers of `test_header` and `test_pages`.
use Rattle.std.proofs.lemmas.Result.{err_from_is_err_and}
use Rattle.image.proofs.Staged.{image_refused, image_stopped, image_holds}
use Rattle.image.proofs.test_image.Goals as goal

pub returns-in_err-header : goal.returns-in_err-header
returns-in_err-header c = let p = err_from_is_err_and c.from_residual.result c.from_residual.ensures.1 in
    rw (p.1, p.2) (image_refused _ c.in_err-header.ensures)

pub returns-in_err-entries : goal.returns-in_err-entries
returns-in_err-entries c = let f = c.from_residual-in_err-entries in let p = err_from_is_err_and f.result f.ensures.1 in
    rw (p.1, p.2) (image_stopped _ _ c.in_ok-header.ensures c.in_err-entries.ensures)

pub returns : goal.returns
returns c = image_holds _ _ c.in_ok-header.ensures c.in_ok-entries.ensures
