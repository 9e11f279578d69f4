-- `log_records::append` meets its contract: what is lent is just the record's bytes, and its two stores are the record (`two_stores`).
use Rattle.basics.proofs.Kit.{◌∙◌, length-append, length-take, length-drop, arith}
use Rattle.log_records.specs.Entries.{change_is}
use Rattle.log_records.proofs.Spelling.{size_of_change, length_encoded}
use Rattle.log_records.proofs.Stores.{two_stores}
use Rattle.log_records.proofs.Changes.{small_change, change_two}
use Rattle.log_records.proofs.append.Goals as goal

pub change_size-requires : goal.change_size-requires
change_size-requires c = small_change c.args.c c.args.payload.now c.requires.fits c.requires.told

pub slice_bounds-put_behind-start : goal.slice_bounds-put_behind-start
slice_bounds-put_behind-start c = omega (arith, c.change_size.ensures, change_two c.args.c, c.requires.room)

pub put_behind-first-requires : goal.put_behind-first-requires
put_behind-first-requires c = record {
  fits = c.requires.fits;
  told = c.requires.told;
  size = simp (length-take, length-drop) (omega (arith, c.change_size.ensures, change_two c.args.c, c.requires.room));
}

pub slice_bounds-put_first-end : goal.slice_bounds-put_first-end
slice_bounds-put_first-end c = simp (length-append, length-take, length-drop) (omega (arith, c.put_behind-first.auto.part, c.change_size.ensures, change_two c.args.c, c.requires.room))

pub returns : goal.returns
returns c = let a = c.args in
    let l = length_encoded (change_is a.c a.payload.now) ∙ size_of_change a.c a.payload.now c.requires.told in
    two_stores a.log.now a.end _ (omega (arith, c.requires.room)) (omega (arith, c.change_size.ensures)) c.put_behind-first.ensures c.put_first.ensures

pub overflow_add-behind : goal.overflow_add-behind
overflow_add-behind c = omega (arith, c.change_size.ensures, c.requires.room)

pub slice_bounds-put_behind-count : goal.slice_bounds-put_behind-count
slice_bounds-put_behind-count c = omega (arith, c.change_size.ensures, change_two c.args.c)

pub slice_bounds-put_behind-end : goal.slice_bounds-put_behind-end
slice_bounds-put_behind-end c = omega (arith, c.change_size.ensures, c.requires.room)
