-- `log_records::append_mark` meets its contract: as `append`.
use Rattle.basics.proofs.Kit.{◌∙◌, length-append, length-take, length-drop, arith}
use Rattle.log_records.specs.Records.{mark_of}
use Rattle.log_records.specs.Entries.{mark_size}
use Rattle.log_records.proofs.Spelling.{mark_size_lem, length_encoded}
use Rattle.log_records.proofs.Stores.{two_stores}
use Rattle.log_records.proofs.append_mark.Goals as goal

pub slice_bounds-put_mark_behind-count : goal.slice_bounds-put_mark_behind-count
unfolding mark_size
slice_bounds-put_mark_behind-count c = omega (arith, c.mark_size.ensures)

pub slice_bounds-put_mark_behind-start : goal.slice_bounds-put_mark_behind-start
unfolding mark_size
slice_bounds-put_mark_behind-start c = omega (arith, c.mark_size.ensures, c.requires.room)

pub put_mark_behind-first-requires : goal.put_mark_behind-first-requires
unfolding mark_size
put_mark_behind-first-requires c = record {
  fits = c.requires.fits;
  size = simp (length-take, length-drop) (omega (arith, c.mark_size.ensures, c.requires.room));
}

pub slice_bounds-put_first-end : goal.slice_bounds-put_first-end
unfolding mark_size
slice_bounds-put_first-end c = simp (length-append, length-take, length-drop) (omega (arith, c.put_mark_behind-first.auto.part, c.mark_size.ensures, c.requires.room))

pub returns : goal.returns
returns c = let a = c.args in
    let l = length_encoded (mark_of a.level a.transactions.now) ∙ mark_size_lem a.level a.transactions.now in
    two_stores a.log.now a.end _ (omega (arith, c.requires.room)) (omega (arith, c.mark_size.ensures)) c.put_mark_behind-first.ensures c.put_first.ensures

pub mark_size-requires : goal.mark_size-requires
mark_size-requires c = omega (arith, c.requires.fits.count)

pub overflow_add-behind : goal.overflow_add-behind
overflow_add-behind c = omega (arith, c.mark_size.ensures, c.requires.room)

pub slice_bounds-put_mark_behind-end : goal.slice_bounds-put_mark_behind-end
slice_bounds-put_mark_behind-end c = omega (arith, c.mark_size.ensures, c.requires.room)
