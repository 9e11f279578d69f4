-- Records that are spelled are read back; the record of a tuple.
use Rattle.basics.proofs.Kit.{◌≡◌, refl, Bool, true, false, some, List, [], ◌∷◌, ◌++◌, append_assoc, ℕ, ◌+◌, ◌*◌, ◌%◌, ◌≤◌, ◌<◌, ◌/◌, ltb, length, take, drop, get_or, length-append}
use Rattle.basics.proofs.Kit.{take-append_seam, drop_at, le-leb, lt-ltb, le-ltb, lt-leb, arith}
use Rattle.basics.specs.Basics.{if'◌then◌else◌, one_if}
use Rattle.block_forms.specs.Limits.{payload_limit, record_head, mark_value, committed_value, statement_limit}
use Rattle.block_forms.specs.Numbers.{be4, num4}
use Rattle.block_forms.specs.Tuple.{Owner, committed, tentative, Tuple, owner_size, size, OwnerFits, Fits, AllFit}
use Rattle.block_forms.specs.Block.{committed_bit}
use Rattle.block_forms.specs.Decode.{read_owner, read_mark, read_tuple, record_length, is_record, read_tuples}
use Rattle.block_forms.specs.Bytes.{flags_of, owner_word, owner_bytes, record_bytes, records}
use Rattle.block_forms.proofs.Tuples.{length_record}

four : (v : ℕ) → v < 4294967296 → v / 16777216 % 256 * 16777216 + v / 65536 % 256 * 65536 + v / 256 % 256 * 256 + v % 256 ≡ v
four v h =
    let a : v / 65536 ≡ v / 256 / 256 = omega arith in
    let b : v / 16777216 ≡ v / 65536 / 256 = omega arith in
    let c : v / 16777216 % 256 ≡ v / 16777216 = omega arith in
    omega arith

-- ---- the ninth byte

module _ (o : Owner) (m : Bool) (n : ℕ) (h : n ≤ payload_limit) where
  pub flags_length : flags_of o m n % mark_value ≡ n
  unfolding flags_of committed_bit
  flags_length = elim o [
    | committed ↦ elim m [ true ↦ omega arith | false ↦ omega arith ]
    | tentative t s ↦ elim m [ true ↦ omega arith | false ↦ omega arith ]
  ]

  pub flags_mark : read_mark (flags_of o m n) ≡ m
  unfolding read_mark flags_of committed_bit
  flags_mark = elim o as (λ o. read_mark (flags_of o m n) ≡ m) [
    | committed ↦ elim m as (λ m. read_mark (flags_of committed m n) ≡ m) [
      | true ↦ le-leb mark_value ((committed_value + (mark_value + n)) % committed_value) (omega arith)
      | false ↦ lt-leb mark_value ((committed_value + (0 + n)) % committed_value) (omega arith)
    ]
    | tentative t s ↦ elim m as (λ m. read_mark (flags_of (tentative t s) m n) ≡ m) [ true ↦ le-leb mark_value ((0 + (mark_value + n)) % committed_value) (omega arith) | false ↦ lt-leb mark_value ((0 + (0 + n)) % committed_value) (omega arith) ]
  ]

flags_committed : (m : Bool) (n : ℕ) → ltb (flags_of committed m n) committed_value ≡ false
unfolding flags_of committed_bit
flags_committed m n = le-ltb (committed_value + (one_if m * mark_value + n)) committed_value (omega arith)

flags_tentative : (t s : ℕ) (m : Bool) (n : ℕ) → n ≤ payload_limit → ltb (flags_of (tentative t s) m n) committed_value ≡ true
unfolding flags_of committed_bit
flags_tentative t s true n h = lt-ltb (0 + (mark_value + n)) committed_value (omega arith)
flags_tentative t s false n h = lt-ltb (0 + (0 + n)) committed_value (omega arith)

pub flags_owner : (o : Owner) (m : Bool) (n : ℕ) → n ≤ payload_limit → OwnerFits o → read_owner (flags_of o m n) (owner_word o) ≡ o
unfolding read_owner owner_word if'◌then◌else◌
flags_owner committed m n h f = rw (flags_committed m n)
flags_owner (tentative t s) m n h f =
    let a : (t * statement_limit + s) / statement_limit ≡ t = omega arith in
    let b : (t * statement_limit + s) % statement_limit ≡ s = omega arith in
    rw (flags_tentative t s m n h, a, b)

-- ---- a record

-- a tuple of its fields
abbrev tuple : ℕ → ℕ → Owner → Bool → List ℕ → Tuple
tuple k n o m p = record { key = k; number = n; owner = o; mark = m; payload = p }

read_fields : (k n : ℕ) (o : Owner) (m : Bool) (p rest : List ℕ) → k < 4294967296 → n < 4294967296 → OwnerFits o → length p ≤ payload_limit
    → read_tuple (record_bytes (tuple k n o m p) ++ rest) ≡ tuple k n o m p
unfolding read_tuple record_bytes be4 num4 owner_bytes owner_word owner_size read_owner if'◌then◌else◌
read_fields k n committed m p rest hk hn ho hp =
    let a = four k hk in
    let b = four n hn in
    let d = flags_mark committed m (length p) hp in
    let q : take (flags_of committed m (length p) % mark_value) (p ++ rest) ≡ p = rw (flags_length committed m (length p) hp) (take-append_seam p rest) in
    rw (flags_committed m (length p)) (λ i. record { key = a i; number = b i; owner = committed; mark = d i; payload = q i })
read_fields k n (tentative t s) m p rest hk hn ho hp =
    let a = four k hk in
    let b = four n hn in
    let hw : t * statement_limit + s < 4294967296 = omega arith in
    let g = four (t * statement_limit + s) hw in
    let g1 : (t * statement_limit + s) / statement_limit ≡ t = omega arith in
    let g2 : (t * statement_limit + s) % statement_limit ≡ s = omega arith in
    let d = flags_mark (tentative t s) m (length p) hp in
    let q : take (flags_of (tentative t s) m (length p) % mark_value) (p ++ rest) ≡ p = rw (flags_length (tentative t s) m (length p) hp) (take-append_seam p rest) in
    rw (flags_tentative t s m (length p) hp, g) (λ i. record { key = a i; number = b i; owner = tentative (g1 i) (g2 i); mark = d i; payload = q i })

record_takes : (k n : ℕ) (o : Owner) (m : Bool) (p rest : List ℕ) → length p ≤ payload_limit → record_length (record_bytes (tuple k n o m p) ++ rest) ≡ size (tuple k n o m p)
unfolding record_length record_bytes be4 owner_size size if'◌then◌else◌
record_takes k n committed m p rest hp = rw (flags_committed m (length p), flags_length committed m (length p) hp)
record_takes k n (tentative t s) m p rest hp = rw (flags_tentative t s m (length p) hp, flags_length (tentative t s) m (length p) hp)

module _ (x : Tuple) (rest : List ℕ) (fit : Fits x) where
  at_least : record_head ≤ size x + length rest
  unfolding size
  at_least = omega arith

  limit : get_or (record_bytes x ++ rest) 8 0 % mark_value ≤ payload_limit
  unfolding record_bytes be4
  limit = omega (arith, flags_length x.owner x.mark (length x.payload) fit.payload, fit.payload)

  takes : record_length (record_bytes x ++ rest) ≡ size x
  takes = record_takes x.key x.number x.owner x.mark x.payload rest fit.payload

  whole_record : is_record (record_bytes x ++ rest) ≡ true
  unfolding is_record
  whole_record =
      let l : length (record_bytes x ++ rest) ≡ size x + length rest = rw (length-append (record_bytes x) rest, length_record x) in
      rw (l, takes, le-leb record_head (size x + length rest) at_least, le-leb (get_or (record_bytes x ++ rest) 8 0 % mark_value) payload_limit limit, le-leb (size x) (size x + length rest) (omega arith))

  read_record : read_tuple (record_bytes x ++ rest) ≡ x
  read_record = read_fields x.key x.number x.owner x.mark x.payload rest fit.key fit.number fit.owner fit.payload

pub read_records : (ts : List Tuple) (rest : List ℕ) → AllFit ts → read_tuples (length ts) (records ts ++ rest) ≡ some ts
unfolding read_tuples records if'◌then◌else◌
read_records [] rest fit = refl
read_records (x ∷ ts) rest fit =
    let R = records ts ++ rest in
    let d : drop (size x) (record_bytes x ++ R) ≡ R = drop_at (record_bytes x) R (size x) (length_record x) in
    rw (append_assoc (record_bytes x) (records ts) rest, whole_record x R fit.0, takes x R fit.0, d, read_record x R fit.0, read_records ts rest fit.1)
