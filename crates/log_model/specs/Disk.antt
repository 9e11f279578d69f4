-- What is on disk, image and log: the stores that calls make there in turn, and what a cut may leave of them.
use Rattle.std.specs.Prelude.{ℕ, ◌+◌, ◌-◌, ◌≡◌, false, List, [], ◌∷◌, ◌++◌, length, take, drop, ◌⊎◌, eqb}
use Rattle.basics.specs.Lists.{over}
use Rattle.block_forms.specs.Limits.{block_size}
use Rattle.block_forms.specs.Tuple.{AllBytes}
use Rattle.block_forms.specs.Spell.{zeros}
use Rattle.model.specs.State.{Write, stored_bytes}
use Rattle.model.specs.Recover.{put_block}
use Rattle.log_records.specs.Records.{LogRecord, log_size, encode_record}

-- one store: a block of the image, or bytes of the log from a place on
pub data DiskStore : Type 0 where
  block_store : Write → DiskStore
  log_store : ℕ → List ℕ → DiskStore

-- a record at place e: all behind its first byte, then that byte
unfoldable pub record_stores : ℕ → LogRecord → List DiskStore
record_stores e r = log_store (e + 1) (drop 1 (encode_record r)) ∷ log_store e (take 1 (encode_record r)) ∷ []

-- records one after another from place e on
unfoldable pub records_stores : ℕ → List LogRecord → List DiskStore
records_stores e [] = []
records_stores e (r ∷ rs) = record_stores e r ++ records_stores (e + log_size r) rs

-- the stores of roll-forward, in a log of n bytes: zeros behind the last whole record, which ends at e, then the aborts
unfoldable pub forward_stores : ℕ → ℕ → List LogRecord → List DiskStore
forward_stores n e rs = log_store e (zeros (n - e)) ∷ records_stores e rs

-- each byte of xs is the old or the new one
pub data Mixed : List ℕ → List ℕ → List ℕ → Type 0 where
  none : Mixed [] [] []
  more : {x y z : ℕ} {xs ys zs : List ℕ} → (x ≡ y) ⊎ (x ≡ z) → Mixed xs ys zs → Mixed (x ∷ xs) (y ∷ ys) (z ∷ zs)

-- `Cuts img log ws img' log'`: power fails somewhere in the stores ws, which hold in order; it leaves img' and log'
pub data Cuts : List ℕ → List ℕ → List DiskStore → List ℕ → List ℕ → Type 0 where
  -- the next store, if there is one, is not begun; or it is a header's, is cut and leaves the old one
  stop : {img log : List ℕ} {ws : List DiskStore} → Cuts img log ws img log
  -- the next block store is cut and leaves any 512 bytes, and it is no header's
  torn_block : {img log : List ℕ} {w : Write} {ws : List DiskStore} → eqb w.at 0 ≡ false → (xs : List ℕ) → length xs ≡ block_size → AllBytes xs
      → Cuts img log (block_store w ∷ ws) (put_block img w.at xs) log
  -- the next log store is cut and leaves each of its bytes old or new
  torn_log : {img log : List ℕ} {e : ℕ} {bs : List ℕ} {ws : List DiskStore} (xs : List ℕ) → Mixed xs (take (length bs) (drop e log)) bs
      → Cuts img log (log_store e bs ∷ ws) img (over log e xs)
  -- the next store is whole; or it is a header's, is cut and leaves the new one
  whole_block : {img log : List ℕ} {w : Write} {ws : List DiskStore} {img' log' : List ℕ} → Cuts (put_block img w.at (stored_bytes w)) log ws img' log'
      → Cuts img log (block_store w ∷ ws) img' log'
  whole_log : {img log : List ℕ} {e : ℕ} {bs : List ℕ} {ws : List DiskStore} {img' log' : List ℕ} → Cuts img (over log e bs) ws img' log'
      → Cuts img log (log_store e bs ∷ ws) img' log'
