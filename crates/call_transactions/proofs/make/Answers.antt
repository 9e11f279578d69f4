-- `call_transactions::make` meets its contract: refused as `check_make` says, or header and memory are those of a fresh store (`made_done`).
use Rattle.block_forms.specs.Limits.{block_size}
use Rattle.basics.proofs.Kit.{refl, ℕ, ◌/◌, length, arith}
use Rattle.model.specs.Recover.{fresh_store}
use Rattle.call_transactions.proofs.Making.{made_refused, made_done, make_refused, make_fits, make_accepts, image_made}
use Rattle.std.proofs.lemmas.Result.{err_from_is_err_and}
use Rattle.call_transactions.proofs.make.Goals as goal

pub returns-in_err-check_make : goal.returns-in_err-check_make
returns-in_err-check_make c = let a = c.args in let p = err_from_is_err_and c.from_residual.result c.from_residual.ensures.1 in
    rw (p.1, p.2) (made_refused _ a.image.now a.m.now _ (make_refused (length a.image.now) (length a.m.now) a.capacity _ c.in_err-check_make.ensures))

pub overflow_cast-b : goal.overflow_cast-b
overflow_cast-b c = let fits = let a = c.args in make_fits (length a.image.now) (length a.m.now) a.capacity c.in_ok-check_make.ensures in
    omega (arith, fits.room.many)

pub overflow_cast-c : goal.overflow_cast-c
overflow_cast-c c = let fits = let a = c.args in make_fits (length a.image.now) (length a.m.now) a.capacity c.in_ok-check_make.ensures in
    omega (arith, fits.room.most)

pub slice_bounds-write_header-end : goal.slice_bounds-write_header-end
slice_bounds-write_header-end c = let fits = let a = c.args in make_fits (length a.image.now) (length a.m.now) a.capacity c.in_ok-check_make.ensures in
    omega (arith, fits.room.few)

pub fresh-requires : goal.fresh-requires
fresh-requires c = let fits = let a = c.args in make_fits (length a.image.now) (length a.m.now) a.capacity c.in_ok-check_make.ensures in
    fits.room

pub returns : goal.returns
returns c = let fits = let a = c.args in make_fits (length a.image.now) (length a.m.now) a.capacity c.in_ok-check_make.ensures in
    let a = c.args in
    let b : ℕ = length a.image.now / block_size in
    let f = c.fresh.ensures in
    made_done a.capacity a.image.now a.m.now (fresh_store b a.capacity) _ _ (make_accepts fits)
    (image_made a.image.now _ b a.capacity _ refl refl c.write_header.ensures) (record { size = f.0.size; store = f.1 })
