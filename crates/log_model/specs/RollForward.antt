-- Roll-forward: the image is recovered, the calls logged since its checkpoint began are repeated, and what is left open is aborted.
use Rattle.std.specs.Prelude.{ℕ, zero, suc, ◌+◌, ◌-◌, min, List, [], ◌∷◌, ◌++◌, map, length, take, ltb}
use Rattle.std.proofs.Math.Option.{Option, none, some}
use Rattle.basics.specs.Basics.{if'◌then◌else◌, sorted}
use Rattle.basics.specs.Lists.{over}
use Rattle.block_forms.specs.Spell.{zeros}
use Rattle.image.specs.Stages.{Stage, refuses, holds}
use Rattle.model.specs.State.{Store}
use Rattle.model.specs.Transactions.{open_numbers}
use Rattle.model.specs.Recover.{recover}
use Rattle.log_records.specs.Records.{LogRecord, opened_by, committed_by, aborted_by, inserted_by, replaced_by, deleted_by, mark_of, encode_records, read_log, end_of, from_mark}
use Rattle.log_model.specs.Repeats.{repeat_all, all_accepted}

-- ---- what is repeated

-- the opens of the transactions that a mark carries
unfoldable pub opens_of : LogRecord → List LogRecord
opens_of (opened_by tx) = []
opens_of (committed_by tx) = []
opens_of (aborted_by tx) = []
opens_of (inserted_by tx t k bs) = []
opens_of (replaced_by tx t k bs) = []
opens_of (deleted_by tx t k) = []
opens_of (mark_of l txs) = map opened_by txs

-- from a mark on: its opens, and the records after it
unfoldable pub behind_mark : Option (List LogRecord) → Option (List LogRecord)
behind_mark none = none
behind_mark (some []) = none
behind_mark (some (r ∷ rs)) = some (opens_of r ++ rs)

-- at level 0 all records, whatever marks there are; else from the last mark of the header's level on, if there is one
unfoldable pub to_repeat : ℕ → List LogRecord → Option (List LogRecord)
to_repeat zero rs = some rs
to_repeat (suc l) rs = behind_mark (from_mark (suc l) rs)

-- ---- what is left open

-- the aborts of what is open, by rising number
unfoldable pub aborts_of : Store → List LogRecord
aborts_of s = map aborted_by (sorted (open_numbers s.active))

-- the log, zeroed from e on
unfoldable pub zeroed_from : ℕ → List ℕ → List ℕ
zeroed_from e log = take e log ++ zeros (length log - e)

-- what roll-forward gives: the store, the whole records that the log had and the aborts behind them, the log, its end
pub record Forward : Type 0 where
  pub store : Store
  pub whole : List LogRecord
  pub aborts : List LogRecord
  pub log : List ℕ
  pub end : ℕ

-- s with what is open aborted, and the aborts behind the records rs
unfoldable pub with_aborts : List ℕ → List LogRecord → Store → Forward
with_aborts log rs s =
    let qs = aborts_of s in
    record { store = repeat_all qs s; whole = rs; aborts = qs; log = over (zeroed_from (end_of rs) log) (end_of rs) (encode_records qs); end = end_of rs + end_of qs }

-- ---- the refusals, in the order in which they are tested

-- 29 the aborts do not fit behind the last whole record
unfoldable pub end_forward : List ℕ → List LogRecord → Store → Stage Forward
end_forward log rs s = if' ltb (length log) (end_of rs + end_of (aborts_of s)) then refuses 29 else holds (with_aborts log rs s)

-- 31 an open of the mark or a repeated call is refused; 30 no mark of the header's level
unfoldable pub forward_of : List ℕ → List LogRecord → Option (List LogRecord) → Store → Stage Forward
forward_of log rs none s = refuses 30
forward_of log rs (some qs) s = if' all_accepted qs s then end_forward log rs (repeat_all qs s) else refuses 31

-- 31 a record is malformed
unfoldable pub forward_from : List ℕ → Option (List LogRecord) → Store → Stage Forward
forward_from log none s = refuses 31
forward_from log (some rs) s = forward_of log rs (to_repeat s.level rs) s

-- recover's refusals come first
unfoldable pub forward_below : List ℕ → Stage Store → Stage Forward
forward_below log (refuses n) = refuses n
forward_below log (holds s) = forward_from log (read_log log) s

-- 1; 22; 3 either memory, of m and of second bytes, is too short; 23; 24; then the log's
unfoldable pub roll_forward : ℕ → ℕ → List ℕ → List ℕ → Stage Forward
roll_forward m second img log = forward_below log (recover (min m second) img)
