-- `image::pages_ok` meets its contract, which is that of `test_rows`, with four columns of 1,024 zeros.
use Rattle.basics.proofs.Kit.{refl}
use Rattle.image.proofs.pages_ok.Goals as goal

pub test_rows-requires : goal.test_rows-requires
test_rows-requires c = let few = c.requires.capacity_le_capacity_limit in
    record { inside = c.requires.entries_value; few = few; columns = record { places = few; numbers = few; owners = few; marks = few } }

pub returns : goal.returns
returns c = c.test_rows.ensures

pub slice_bounds-test_rows-end : goal.slice_bounds-test_rows-end
slice_bounds-test_rows-end c = refl

pub slice_bounds-test_rows-end-2 : goal.slice_bounds-test_rows-end-2
slice_bounds-test_rows-end-2 c = refl

pub slice_bounds-test_rows-end-3 : goal.slice_bounds-test_rows-end-3
slice_bounds-test_rows-end-3 c = refl

pub slice_bounds-test_rows-end-4 : goal.slice_bounds-test_rows-end-4
slice_bounds-test_rows-end-4 c = refl
