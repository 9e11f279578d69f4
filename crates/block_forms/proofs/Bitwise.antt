-- The byte forms of a record and of a page's head are their fields, most significant bit first; so a page's block is known byte by byte.
use Rattle.basics.proofs.Kit.{◌≡◌, refl, sym, ap, ◌∙◌, Bool, true, false, List, [], ◌∷◌, ◌++◌, append_assoc, append-nil, ℕ, ◌+◌, ◌*◌, ◌%◌, ◌≤◌, ◌<◌, ◌/◌, ◌-◌, length}
use Rattle.basics.proofs.Kit.{length-append, arith}
use Rattle.block_forms.specs.Limits.{record_space, mark_value, committed_value, statement_limit, block_bits, block_size}
use Rattle.basics.proofs.Elements.{all_append}
use Rattle.basics.specs.Basics.{one_if}
use Rattle.block_bits.specs.Bits.{bits_of, bits_in}
use Rattle.block_bits.proofs.Numbers.{bits_of_add, bits_of_mod, bits_of_digits}
use Rattle.block_bits.proofs.Blocks.{bits_in_append, length_bits_in}
use Rattle.block_forms.specs.Numbers.{be4}
use Rattle.block_forms.specs.Tuple.{Owner, committed, tentative, Tuple, sizes, Byte, AllBytes, OwnerFits, Fits, AllFit}
use Rattle.block_forms.specs.Spell.{zeros, spell, padded}
use Rattle.block_forms.specs.Block.{page, committed_bit, owner_fields, payload_fields, record_fields, records_fields, page_fields, encode_block, PageFits}
use Rattle.block_forms.specs.Bytes.{flags_of, owner_word, owner_bytes, record_bytes, records, page_head}
use Rattle.block_forms.proofs.Spelled.{spell_append, zero_bits_in, length_zeros, bytes_zeros, block_is}
use Rattle.block_forms.proofs.Tuples.{length_records, count_sizes, be4_bytes, records_bytes}

-- a number's four bytes are its 32 bits
pub be4_bits : (v : ℕ) → bits_in (be4 v) ≡ bits_of 32 v
unfolding bits_in be4
be4_bits v =
    let a : bits_of 32 v ≡ bits_of 24 (v / 256) ++ bits_of 8 v = bits_of_add 24 8 v in
    let b : bits_of 24 (v / 256) ≡ bits_of 16 (v / 256 / 256) ++ bits_of 8 (v / 256) = bits_of_add 16 8 (v / 256) in
    let c : bits_of 16 (v / 256 / 256) ≡ bits_of 8 (v / 256 / 256 / 256) ++ bits_of 8 (v / 256 / 256) = bits_of_add 8 8 (v / 256 / 256) in
    let p : v / 256 / 256 ≡ v / 65536 = omega arith in
    let q : v / 256 / 256 / 256 ≡ v / 16777216 = omega arith in
    let m : (x : ℕ) → bits_of 8 (x % 256) ≡ bits_of 8 x = λ x. bits_of_mod 8 x in
    rw (a, b, c, q, p, m (v / 16777216), m (v / 65536), m (v / 256), m v, append-nil (bits_of 8 v))
    (simp append_assoc)

-- ---- a record

mark_low : (m : Bool) (n : ℕ) → n < mark_value → one_if m * mark_value + n < committed_value
mark_low true n h = omega arith
mark_low false n h = omega arith

flag_bits : (o : Owner) (m : Bool) (n : ℕ) → n < mark_value → bits_of 8 (flags_of o m n) ≡ bits_of 1 (committed_bit o) ++ (bits_of 1 (one_if m) ++ bits_of 6 n)
unfolding flags_of
flag_bits o m n h =
    bits_of_digits 1 7 (committed_bit o) (one_if m * mark_value + n) (mark_low m n h) ∙ ap (λ (l : List ℕ). bits_of 1 (committed_bit o) ++ l) (bits_of_digits 1 6 (one_if m) n h)

owner_bits : (o : Owner) → OwnerFits o → bits_in (owner_bytes o) ≡ spell (owner_fields o)
unfolding owner_bytes owner_word owner_fields spell bits_in
owner_bits committed f = refl
owner_bits (tentative t s) f = be4_bits (t * statement_limit + s) ∙ bits_of_digits 12 20 t s f.1 ∙ rw (append-nil (bits_of 20 s))

pub payload_bits : (p : List ℕ) → bits_in p ≡ spell (payload_fields p)
unfolding payload_fields spell bits_in
payload_bits [] = refl
payload_bits (b ∷ p) = rw (payload_bits p)

byte_then : (b : ℕ) (s : List ℕ) → bits_in (b ∷ s) ≡ bits_of 8 b ++ bits_in s
unfolding bits_in
byte_then b s = refl

-- key 32, number 32, committed 1, delete mark 1, payload length 6, if tentative transaction 12 and statement 20, payload
pub record_bits : (x : Tuple) → Fits x → bits_in (record_bytes x) ≡ spell (record_fields x)
unfolding record_bytes record_fields spell
record_bits x f =
    let h : length x.payload < mark_value = omega (arith, f.payload) in
    let O = owner_bytes x.owner in
    let F = flags_of x.owner x.mark (length x.payload) in
    rw (
      bits_in_append (be4 x.key) (be4 x.number ++ (F ∷ (O ++ x.payload))),
      bits_in_append (be4 x.number) (F ∷ (O ++ x.payload)),
      byte_then F (O ++ x.payload),
      bits_in_append O x.payload,
      be4_bits x.key,
      be4_bits x.number,
      flag_bits x.owner x.mark (length x.payload) h,
      owner_bits x.owner f.owner,
      payload_bits x.payload,
      spell_append (owner_fields x.owner) (payload_fields x.payload),
    )
    (simp append_assoc)

pub records_bits : (ts : List Tuple) → AllFit ts → bits_in (records ts) ≡ spell (records_fields ts)
unfolding records records_fields bits_in spell
records_bits [] f = refl
records_bits (x ∷ ts) f =
    rw (bits_in_append (record_bytes x) (records ts), record_bits x f.0, records_bits ts f.1) (sym (spell_append (record_fields x) (records_fields ts)))

-- ---- a page

module _ (t n b l : ℕ) (ht : t < 8) (hn : n < 64) (hb : b < 512) (hl : l < 4294967296) where
  first_word : bits_of 32 (536870912 + t * 33554432 + n * 524288 + b * 1024 + l / 4194304) ≡ bits_of 4 2 ++ (bits_of 3 t ++ (bits_of 6 n ++ (bits_of 9 b ++ bits_of 10 (l / 4194304))))
  first_word =
      let q = l / 4194304 in
      let z = 2 * 8 + t in
      let e : 536870912 + t * 33554432 + n * 524288 + b * 1024 + l / 4194304 ≡ (((2 * 8 + t) * 64 + n) * 512 + b) * 1024 + l / 4194304 = omega arith in
      let hq : l / 4194304 < 1024 = omega arith in
      rw (e, bits_of_digits 22 10 ((z * 64 + n) * 512 + b) q hq, bits_of_digits 13 9 (z * 64 + n) b hb, bits_of_digits 7 6 z n hn, bits_of_digits 4 3 2 t ht)
      (simp append_assoc)

  second_word : bits_of 32 (l % 4194304 * 1024) ≡ bits_of 22 l ++ bits_of 10 0
  second_word =
      let e : l % 4194304 * 1024 ≡ l % 4194304 * 1024 + 0 = omega arith in
      let h : 0 < 1024 = omega arith in
      ap (bits_of 32) e ∙ bits_of_digits 22 10 (l % 4194304) 0 h ∙ ap (λ (k : List ℕ). k ++ bits_of 10 0) (bits_of_mod 22 l)

  -- kind 4, table 3, tuple count 6, record bytes 9, level of writing 32, ten zero bits
  pub head_bits : (fs : List (ℕ × ℕ)) → bits_in (page_head t n b l) ++ spell fs ≡ spell ((4, 2) ∷ (3, t) ∷ (6, n) ∷ (9, b) ∷ (32, l) ∷ (10, 0) ∷ fs)
  unfolding page_head spell
  head_bits fs =
      let u = 536870912 + t * 33554432 + n * 524288 + b * 1024 + l / 4194304 in
      let level : bits_of 32 l ≡ bits_of 10 (l / 4194304) ++ bits_of 22 l = bits_of_add 10 22 l in
      rw (bits_in_append (be4 u) (be4 (l % 4194304 * 1024)), be4_bits u, be4_bits (l % 4194304 * 1024), first_word, second_word, level)
      (simp append_assoc)

pub length_head : (t n b l : ℕ) → length (page_head t n b l) ≡ 8
unfolding page_head be4
length_head t n b l = refl

head_bytes : (t n b l : ℕ) → AllBytes (page_head t n b l)
unfolding page_head
head_bytes t n b l =
    let u = 536870912 + t * 33554432 + n * 524288 + b * 1024 + l / 4194304 in
    all_append Byte (be4 u) (be4 (l % 4194304 * 1024)) (be4_bytes u) (be4_bytes (l % 4194304 * 1024))

-- the records of a page and the zeros after them
abbrev pub body : List Tuple → List ℕ
body ts = records ts ++ zeros (record_space - sizes ts)

pub length_body : (ts : List Tuple) → sizes ts ≤ record_space → length (body ts) ≡ record_space
length_body ts h = rw (length-append (records ts) (zeros (record_space - sizes ts)), length_records ts, length_zeros (record_space - sizes ts)) (omega arith)

module _ (t l : ℕ) (ts : List Tuple) (fit : PageFits t l ts) where
  page_bits : bits_in (page_head t (length ts) (sizes ts) l ++ body ts) ≡ padded (spell (page_fields t l ts))
  unfolding padded
  page_bits =
      let H = page_head t (length ts) (sizes ts) l in
      let k = record_space - sizes ts in
      let hr = fit.room in
      let hn : length ts < 64 = omega (arith, count_sizes ts, fit.room) in
      let hb : sizes ts < 512 = omega (arith, fit.room) in
      let R = spell (records_fields ts) in
      let lR : length (spell (records_fields ts)) ≡ 8 * sizes ts = ap length (sym (records_bits ts fit.tuples)) ∙ length_bits_in (records ts) ∙ ap (λ (m : ℕ). 8 * m) (length_records ts) in
      let lH : length (bits_in (page_head t (length ts) (sizes ts) l)) ≡ 64 = length_bits_in H ∙ ap (λ (m : ℕ). 8 * m) (length_head t (length ts) (sizes ts) l) in
      let z : 8 * (record_space - sizes ts) ≡ block_bits - (64 + 8 * sizes ts) = omega arith in
      rw (
        bits_in_append H (records ts ++ zeros k),
        bits_in_append (records ts) (zeros k),
        records_bits ts fit.tuples,
        zero_bits_in k,
        ← head_bits t (length ts) (sizes ts) l fit.table hn hb fit.level (records_fields ts),
        length-append (bits_in H) R,
        lH,
        lR,
        z,
      )
      (sym (append_assoc (bits_in H) R (zeros (block_bits - (64 + 8 * sizes ts)))))

  -- a page's block, byte by byte
  pub page_bytes_lem : encode_block (page t l ts) ≡ page_head t (length ts) (sizes ts) l ++ body ts
  unfolding encode_block
  page_bytes_lem =
      let H = page_head t (length ts) (sizes ts) l in
      let k : length (page_head t (length ts) (sizes ts) l ++ body ts) ≡ block_size = rw (length-append H (body ts), length_head t (length ts) (sizes ts) l, length_body ts fit.room) in
      let b : AllBytes (page_head t (length ts) (sizes ts) l ++ body ts) =
      all_append Byte H (body ts) (head_bytes t (length ts) (sizes ts) l)
      (all_append Byte (records ts) (zeros (record_space - sizes ts)) (records_bytes ts fit.tuples) (bytes_zeros (record_space - sizes ts))) in
      sym (block_is (page_fields t l ts) (H ++ body ts) k b page_bits)
