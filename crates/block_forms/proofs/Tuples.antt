-- A tuple's record and a page's records byte by byte, their sizes and bounds.
use Rattle.basics.proofs.Kit.{◌≡◌, refl, sym, Bool, true, false, List, [], ◌∷◌, ◌++◌, append_assoc, append-nil, ℕ, ◌+◌, ◌*◌, ◌≤◌, ◌<◌, length, length-append, arith}
use Rattle.basics.specs.Basics.{sum, one_if}
use Rattle.basics.proofs.Elements.{all_append}
use Rattle.block_forms.specs.Limits.{record_head, mark_value}
use Rattle.block_forms.specs.Numbers.{be4}
use Rattle.block_forms.specs.Tuple.{Owner, committed, tentative, Tuple, owner_size, size, sizes, Byte, AllBytes, Fits, AllFit}
use Rattle.block_forms.specs.Block.{committed_bit}
use Rattle.block_forms.specs.Bytes.{size_of, tuple_of, flags_of, owner_word, owner_bytes, record_bytes, records}
use Rattle.block_forms.specs.declared.Record.{Record}

-- ---- lengths

length_owner : (o : Owner) → length (owner_bytes o) ≡ owner_size o
unfolding owner_bytes owner_size be4
length_owner committed = refl
length_owner (tentative t s) = refl

pub length_record : (x : Tuple) → length (record_bytes x) ≡ size x
unfolding record_bytes size be4
length_record x = rw (length-append (owner_bytes x.owner) x.payload) (omega (arith, length_owner x.owner))

pub length_records : (ts : List Tuple) → length (records ts) ≡ sizes ts
unfolding records sum
length_records [] = refl
length_records (x ∷ ts) = rw (length-append (record_bytes x) (records ts), length_record x, length_records ts)

pub count_sizes : (ts : List Tuple) → record_head * length ts ≤ sizes ts
unfolding sum size
count_sizes [] = omega arith
count_sizes (x ∷ ts) = omega (arith, count_sizes ts)

pub records_more : (ts : List Tuple) (x : Tuple) → records (ts ++ (x ∷ [])) ≡ records ts ++ record_bytes x
unfolding records
records_more [] x = append-nil (record_bytes x)
records_more (y ∷ ts) x = rw (records_more ts x) (sym (append_assoc (record_bytes y) (records ts) (record_bytes x)))

pub sizes_more : (ts : List Tuple) (x : Tuple) → sizes (ts ++ (x ∷ [])) ≡ sizes ts + size x
unfolding sum
sizes_more [] x = omega arith
sizes_more (y ∷ ts) x = omega (arith, sizes_more ts x)

-- ---- bytes

bit_small : (o : Owner) (m : Bool) → (committed_bit o ≤ 1) × (one_if m ≤ 1)
unfolding committed_bit
bit_small committed true = (omega arith, omega arith)
bit_small committed false = (omega arith, omega arith)
bit_small (tentative t s) true = (omega arith, omega arith)
bit_small (tentative t s) false = (omega arith, omega arith)

flags_small : (o : Owner) (m : Bool) (n : ℕ) → n < mark_value → flags_of o m n < 256
unfolding flags_of
flags_small o m n h = omega (arith, bit_small o m)

pub be4_bytes : (v : ℕ) → AllBytes (be4 v)
unfolding be4
be4_bytes v = (omega arith, (omega arith, (omega arith, (omega arith, tt))))

owner_bytes_lem : (o : Owner) → AllBytes (owner_bytes o)
unfolding owner_bytes
owner_bytes_lem committed = tt
owner_bytes_lem (tentative t s) = be4_bytes (owner_word (tentative t s))

record_bytes_lem : (x : Tuple) → Fits x → AllBytes (record_bytes x)
unfolding record_bytes
record_bytes_lem x f =
    let h : length x.payload < mark_value = omega (arith, f.payload) in
    let rest : AllBytes (owner_bytes x.owner ++ x.payload) = all_append Byte (owner_bytes x.owner) x.payload (owner_bytes_lem x.owner) f.bytes in
    let flags : ℕ = flags_of x.owner x.mark (length x.payload) in
    all_append Byte (be4 x.key) (be4 x.number ++ (flags ∷ (owner_bytes x.owner ++ x.payload))) (be4_bytes x.key)
    (all_append Byte (be4 x.number) (flags ∷ (owner_bytes x.owner ++ x.payload)) (be4_bytes x.number) (flags_small x.owner x.mark (length x.payload) h, rest))

pub records_bytes : (ts : List Tuple) → AllFit ts → AllBytes (records ts)
unfolding records
records_bytes [] f = tt
records_bytes (x ∷ ts) f = all_append Byte (record_bytes x) (records ts) (record_bytes_lem x f.0) (records_bytes ts f.1)

-- ---- the record of a tuple

-- a record takes as many bytes as its tuple
pub record_size : (r : Record) (p : List ℕ) → length p ≡ r.len → size_of r ≡ size (tuple_of r p)
unfolding size_of size tuple_of
record_size r p l = rw l
