-- The tuples that are read from bytes: their sizes and ranges.
use Rattle.basics.proofs.Kit.{◌≡◌, refl, true, ◌&&◌, some, none, List, [], ◌∷◌, ℕ, suc, ◌+◌, ◌%◌, ◌≤◌, ◌<◌, zero, leb, ltb, length, drop, get_or, length-take, length-drop, leb-true, arith}
use Rattle.basics.specs.Basics.{if'◌then◌else◌, sum}
use Rattle.basics.proofs.Facts.{by, by-option, never, and_true}
use Rattle.basics.proofs.Elements.{all_drop, all_take}
use Rattle.block_forms.specs.Limits.{payload_limit, record_head, owner_width, mark_value, committed_value}
use Rattle.block_forms.specs.Numbers.{num4}
use Rattle.block_forms.specs.Tuple.{Owner, committed, tentative, Tuple, owner_size, size, sizes, OwnerFits, Byte, AllBytes, Fits, AllFit}
use Rattle.block_forms.specs.Decode.{read_owner, read_tuple, record_length, is_record, read_tuples}
use Rattle.block_forms.specs.Bytes.{owner_is, owner_as}
use Rattle.block_forms.proofs.Spelled.{bytes_at}

-- four bytes more if tentative
abbrev pub owner_part : ℕ → ℕ
owner_part f = if' ltb f committed_value then owner_width else 0

pub whole_parts : (ys : List ℕ) → is_record ys ≡ true → (record_head ≤ length ys) × ((get_or ys 8 0 % mark_value ≤ payload_limit) × (record_length ys ≤ length ys))
unfolding is_record
whole_parts ys e =
    let n = get_or ys 8 0 % mark_value in
    let h = and_true (leb record_head (length ys)) (leb n payload_limit && leb (record_length ys) (length ys)) e in
    let g = and_true (leb n payload_limit) (leb (record_length ys) (length ys)) h.1 in
    (leb-true record_head (length ys) h.0, (leb-true (get_or ys 8 0 % mark_value) payload_limit g.0, leb-true (record_length ys) (length ys) g.1))

-- ---- one tuple

pub owner_size_lem : (f w : ℕ) → owner_size (read_owner f w) ≡ owner_part f
unfolding owner_size read_owner if'◌then◌else◌
owner_size_lem f w = by (ltb f committed_value) (λ h. rw h) (λ h. rw h)

pub owner_fits : (f v : ℕ) → v < 4294967296 → OwnerFits (read_owner f v)
unfolding read_owner if'◌then◌else◌
owner_fits f v h = by (ltb f committed_value) (λ e. rw e (omega arith, omega arith)) (λ e. rw e tt)

pub owner_same : (o : Owner) → owner_is (owner_as o) ≡ o
owner_same committed = refl
owner_same (tentative t s) = refl

module _ (ys : List ℕ) (w : is_record ys ≡ true) where
  payload_length : length (read_tuple ys).payload ≡ get_or ys 8 0 % mark_value
  unfolding read_tuple record_length
  payload_length =
      let h = whole_parts ys w in
      let o = owner_size_lem (get_or ys 8 0) (num4 ys record_head) in
      simp (length-take, length-drop) (omega arith)

  pub read_size : size (read_tuple ys) ≡ record_length ys
  unfolding size read_tuple record_length
  read_size = rw (payload_length, owner_size_lem (get_or ys 8 0) (num4 ys record_head))

  num4_small : (at : ℕ) → AllBytes ys → num4 ys at < 4294967296
  unfolding num4
  num4_small at b = omega (arith, bytes_at ys b at, bytes_at ys b (at + 1), bytes_at ys b (at + 2), bytes_at ys b (at + 3))

  pub read_fits : AllBytes ys → Fits (read_tuple ys)
  unfolding read_tuple
  read_fits b =
      let h = whole_parts ys w in
      let f = get_or ys 8 0 in
      let k = record_head + owner_size (read_owner (get_or ys 8 0) (num4 ys record_head)) in
      record {
        key = num4_small 0 b;
        number = num4_small 4 b;
        owner = owner_fits f (num4 ys record_head) (num4_small record_head b);
        payload = omega (arith, payload_length);
        bytes = all_take Byte (f % mark_value) (drop k ys) (all_drop Byte k ys b);
      }

-- ---- a list of tuples

-- what reading one more says
pub record Split (n : ℕ) (xs : List ℕ) (ts : List Tuple) : Type 0 where
  pub whole_first : is_record xs ≡ true
  pub others : List Tuple
  pub read : read_tuples n (drop (record_length xs) xs) ≡ some others
  pub is : ts ≡ read_tuple xs ∷ others

pub split : (n : ℕ) (xs : List ℕ) (ts : List Tuple) → read_tuples (suc n) xs ≡ some ts → Split n xs ts
unfolding read_tuples if'◌then◌else◌
split n xs ts e =
    by (is_record xs)
    (λ w. by-option (read_tuples n (drop (record_length xs) xs))
    (λ h. let k : none ≡ some ts = rw (w, h) at e in never k)
    (λ us h. let k : some (read_tuple xs ∷ us) ≡ some ts = rw (w, h) at e in record { whole_first = w; others = us; read = h; is = cc }))
    (λ w. let k : none ≡ some ts = rw w at e in never k)

pub none_is : (xs : List ℕ) (ts : List Tuple) → read_tuples 0 xs ≡ some ts → ts ≡ []
unfolding read_tuples
none_is xs ts e = cc

pub read_all_fit : (n : ℕ) (xs : List ℕ) (ts : List Tuple) → AllBytes xs → read_tuples n xs ≡ some ts → AllFit ts
read_all_fit zero xs ts b e = rw (none_is xs ts e) tt
read_all_fit (suc n) xs ts b e =
    let s = split n xs ts e in
    rw s.is (read_fits xs s.whole_first b, read_all_fit n (drop (record_length xs) xs) s.others (all_drop Byte (record_length xs) xs b) s.read)

pub read_room : (n : ℕ) (xs : List ℕ) (ts : List Tuple) → read_tuples n xs ≡ some ts → sizes ts ≤ length xs
unfolding sum
read_room zero xs ts e = rw (none_is xs ts e) (omega arith)
read_room (suc n) xs ts e =
    let s = split n xs ts e in
    let h = whole_parts xs s.whole_first in
    let d = length-drop (record_length xs) xs in
    rw s.is (omega (arith, read_size xs s.whole_first, read_room n (drop (record_length xs) xs) s.others s.read, h.1.1))
