-- What the cursor finds at a place of a block.
use Rattle.basics.proofs.Kit.{◌≡◌, sym, ap, ◌∙◌, Bool, true, false, List, ℕ, ◌+◌, ◌%◌, ◌≤◌, ◌<◌, ◌-◌, leb, ltb, length, drop, get_or, length-drop, get_or-drop, le-leb, lt-leb, arith}
use Rattle.std.specs.Prelude.{Some, None}
use Rattle.basics.specs.Basics.{if'◌then◌else◌}
use Rattle.basics.proofs.Facts.{by}
use Rattle.block_forms.specs.Limits.{payload_limit, record_head, owner_width, mark_value, committed_value, block_size}
use Rattle.block_forms.specs.Numbers.{num4}
use Rattle.block_forms.specs.Tuple.{owner_size, record_size}
use Rattle.block_forms.specs.Decode.{read_owner, read_mark, record_length, is_record}
use Rattle.block_forms.specs.Bytes.{owner_as}
use Rattle.block_forms.specs.declared.Owner.{Owner}
use Rattle.block_forms.proofs.ReadTuples.{owner_part, owner_size_lem}
use Rattle.block_reader.specs.Answers.{record_at, next_at}

-- the ninth byte of the record at a place
abbrev pub flags_at : List ℕ → ℕ → ℕ
flags_at xs at = get_or xs (at + 8) 0

pub part_small : (f : ℕ) → owner_part f ≤ owner_width
unfolding if'◌then◌else◌
part_small f = by (ltb f committed_value) (λ h. rw h (omega arith)) (λ h. rw h (omega arith))

pub part_tentative : (f : ℕ) → ltb f committed_value ≡ true → owner_part f ≡ owner_width
unfolding if'◌then◌else◌
part_tentative f h = rw h

pub word_tentative : (f n : ℕ) → ltb f committed_value ≡ true → n ≡ (if' ltb f committed_value then n else 0)
unfolding if'◌then◌else◌
word_tentative f n h = rw h

pub word_committed : (f n : ℕ) → ltb f committed_value ≡ false → 0 ≡ (if' ltb f committed_value then n else 0)
unfolding if'◌then◌else◌
word_committed f n h = rw h

word_read : (f n : ℕ) → read_owner f (if' ltb f committed_value then n else 0) ≡ read_owner f n
unfolding read_owner if'◌then◌else◌
word_read f n = by (ltb f committed_value) (λ h. rw h) (λ h. rw h)

pub taken_at : (xs : List ℕ) (at : ℕ) → record_length (drop at xs) ≡ record_size (ltb (flags_at xs at) committed_value) (flags_at xs at % mark_value)
unfolding record_length
taken_at xs at = rw (get_or-drop at xs 8 0)

start_at : (f w at : ℕ) → at + (record_head + owner_size (read_owner f w)) ≡ at + record_size (ltb f committed_value) (f % mark_value) - f % mark_value
start_at f w at = rw (owner_size_lem f w) (omega arith)

module _ (xs : List ℕ) (at : ℕ) (l : length xs ≡ block_size) where
  left : length (drop at xs) ≡ block_size - at
  left = rw (length-drop at xs, l)

  pub none_far : block_size - record_head < at → next_at xs at ≡ None
  unfolding next_at is_record if'◌then◌else◌
  none_far h = rw (left, lt-leb record_head (block_size - at) (omega arith))

  module _ (n : at ≤ block_size - record_head) where
    pub none_long : payload_limit < flags_at xs at % mark_value → next_at xs at ≡ None
    unfolding next_at is_record if'◌then◌else◌
    none_long h = rw (left, le-leb record_head (block_size - at) (omega arith), get_or-drop at xs 8 0, lt-leb (flags_at xs at % mark_value) payload_limit h)

    module _ (p : flags_at xs at % mark_value ≤ payload_limit) (e : ℕ) (t : e ≡ record_size (ltb (flags_at xs at) committed_value) (flags_at xs at % mark_value)) where
      fits : is_record (drop at xs) ≡ leb e (block_size - at)
      unfolding is_record
      fits = rw (left, le-leb record_head (block_size - at) (omega arith), get_or-drop at xs 8 0, le-leb (flags_at xs at % mark_value) payload_limit p, taken_at xs at, t)

      pub none_short : block_size < at + e → next_at xs at ≡ None
      unfolding next_at if'◌then◌else◌
      none_short h = rw (fits, lt-leb e (block_size - at) (omega arith))

      found_whole : {o : Owner} {mark : Bool} → o ≡ owner_as (read_owner (flags_at xs at) (num4 xs (at + record_head))) → mark ≡ read_mark (flags_at xs at) → at + e ≤ block_size
          → next_at xs at ≡ Some (
            record {
              key = num4 xs at;
              number = num4 xs (at + 4);
              owner = o;
              mark = mark;
              start = at + e - flags_at xs at % mark_value;
              len = flags_at xs at % mark_value;
            },
            record { at = at + e },
          )
      unfolding next_at record_at if'◌then◌else◌
      found_whole eo em h = rw (fits, le-leb e (block_size - at) (omega arith), ← eo, ← em, start_at (flags_at xs at) (num4 xs (at + record_head)) at, taken_at xs at, t)

      pub found_as : {k n w : ℕ} {o : Owner} {mark : Bool} → k ≡ num4 xs at → n ≡ num4 xs (at + 4) → w ≡ (if' ltb (flags_at xs at) committed_value then num4 xs (at + record_head) else 0)
          → o ≡ owner_as (read_owner (flags_at xs at) w) → mark ≡ read_mark (flags_at xs at) → at + e ≤ block_size
          → Some (
            record {
              key = k;
              number = n;
              owner = o;
              mark = mark;
              start = at + e - flags_at xs at % mark_value;
              len = flags_at xs at % mark_value;
            },
            record { at = at + e },
          )
          ≡ next_at xs at
      found_as key number word owner marked h =
          rw (key, number) (sym (found_whole (owner ∙ ap owner_as (ap (read_owner (flags_at xs at)) word ∙ word_read (flags_at xs at) (num4 xs (at + record_head)))) marked h))
