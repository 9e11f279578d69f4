-- The record of each change: what its part of the log must be, and its bytes.
use Rattle.basics.proofs.Kit.{◌≡◌, refl, List, ◌++◌, ℕ, ◌<◌, length, arith}
use Rattle.log_records.specs.Records.{inserted_by, replaced_by, opened_by, committed_by, aborted_by, RecordFits, log_fields, encode_record}
use Rattle.log_records.specs.Bytes.{short_bytes, place_bytes}
use Rattle.log_records.specs.Entries.{change_is, entry_as, Small, change_size, ChangePart, ShortPart, TuplePart}
use Rattle.log_records.specs.declared.Change.{Change}
use Rattle.log_records.specs.declared.Change.TheVariants.{Open, Insert, Replace, Delete, Commit, Abort}
use Rattle.log_records.specs.declared.Entry.TheVariants.{Call}
use Rattle.log_records.proofs.Bytewise.{short_bytes_lem, tuple_bytes, delete_bytes}

-- a change and the bytes that its record has
pub record Written (c : Change) (bs xs : List ℕ) (Asked : Type 0) : Type 0 where
  pub asked : Asked
  pub bytes : encode_record (change_is c bs) ≡ xs

module _ {part bs : List ℕ} {tx : ℕ} where
  pub open_part : ChangePart part (Open tx) bs → Written (Open tx) bs (short_bytes 1 tx) (ShortPart part tx)
  unfolding change_is change_size log_fields
  open_part p = record {
    asked = record { transaction = p.fits; size = omega (arith, p.size) };
    bytes = short_bytes_lem (opened_by tx) 1 tx refl (omega arith) p.fits;
  }

  pub commit_part : ChangePart part (Commit tx) bs → Written (Commit tx) bs (short_bytes 5 tx) (ShortPart part tx)
  unfolding change_is change_size log_fields
  commit_part p = record {
    asked = record { transaction = p.fits; size = omega (arith, p.size) };
    bytes = short_bytes_lem (committed_by tx) 5 tx refl (omega arith) p.fits;
  }

  pub abort_part : ChangePart part (Abort tx) bs → Written (Abort tx) bs (short_bytes 6 tx) (ShortPart part tx)
  unfolding change_is change_size log_fields
  abort_part p = record {
    asked = record { transaction = p.fits; size = omega (arith, p.size) };
    bytes = short_bytes_lem (aborted_by tx) 6 tx refl (omega arith) p.fits;
  }

module _ {part bs : List ℕ} {tx t k n : ℕ} where
  pub insert_part : ChangePart part (Insert tx t k n) bs
      → Written (Insert tx t k n) bs (place_bytes 2 tx t (length bs) k ++ bs) (TuplePart part tx t (length bs))
  unfolding change_is change_size log_fields entry_as
  insert_part p =
      let l : length bs ≡ n = let e = p.told in cc in record {
        asked = record {
          transaction = p.fits.0.transaction;
          table = p.fits.0.table;
          limit = p.fits.1.limit;
          size = omega (arith, p.size);
        };
        bytes = tuple_bytes (inserted_by tx t k bs) 2 tx t k bs refl (omega arith) p.fits.0 p.fits.1;
      }

  pub replace_part : ChangePart part (Replace tx t k n) bs
      → Written (Replace tx t k n) bs (place_bytes 3 tx t (length bs) k ++ bs) (TuplePart part tx t (length bs))
  unfolding change_is change_size log_fields entry_as
  replace_part p =
      let l : length bs ≡ n = let e = p.told in cc in record {
        asked = record {
          transaction = p.fits.0.transaction;
          table = p.fits.0.table;
          limit = p.fits.1.limit;
          size = omega (arith, p.size);
        };
        bytes = tuple_bytes (replaced_by tx t k bs) 3 tx t k bs refl (omega arith) p.fits.0 p.fits.1;
      }

module _ {part bs : List ℕ} {tx t k : ℕ} where
  pub delete_part : ChangePart part (Delete tx t k) bs → Written (Delete tx t k) bs (place_bytes 4 tx t 0 k) (TuplePart part tx t 0)
  unfolding change_is change_size
  delete_part p = record {
    asked = record { transaction = p.fits.transaction; table = p.fits.table; limit = omega arith; size = omega (arith, p.size) };
    bytes = delete_bytes tx t k p.fits;
  }

-- a change's length is that of its payload, which is within the limit
pub small_change : (c : Change) (bs : List ℕ) → RecordFits (change_is c bs) → entry_as (change_is c bs) ≡ Call c → Small c
unfolding change_is entry_as
small_change (Open tx) bs f e = tt
small_change (Insert tx t k n) bs f e = let l : length bs ≡ n = cc in omega (arith, f.1.limit)
small_change (Replace tx t k n) bs f e = let l : length bs ≡ n = cc in omega (arith, f.1.limit)
small_change (Delete tx t k) bs f e = tt
small_change (Commit tx) bs f e = tt
small_change (Abort tx) bs f e = tt

-- a change's record has two bytes at least
pub change_two : (c : Change) → 1 < change_size c
unfolding change_size
change_two (Open tx) = omega arith
change_two (Insert tx t k n) = omega arith
change_two (Replace tx t k n) = omega arith
change_two (Delete tx t k) = omega arith
change_two (Commit tx) = omega arith
change_two (Abort tx) = omega arith
