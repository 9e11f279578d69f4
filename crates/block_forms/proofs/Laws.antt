-- One reading and one spelling of a block (`decode_encode`, `encode_decode`); a block's length and bytes; what is read is in range, and
-- what a block holds that is read as a page or a directory (`page_read`, `directory_read`).
use Rattle.basics.proofs.Kit.{◌≡◌, refl, sym, ap, ◌∙◌, true, false, some, List, [], ◌∷◌, ◌++◌, append-nil, ℕ, suc, ◌+◌, ◌*◌, ◌≤◌, ◌<◌, zero, leb, eqb, length, drop, length-drop, drop_at}
use Rattle.basics.proofs.Kit.{le-leb, leb-true, arith}
use Rattle.basics.proofs.Facts.{by, by-option, never, clash}
use Rattle.basics.proofs.Elements.{some_eq, all_drop}
use Rattle.basics.specs.Basics.{if'◌then◌else◌}
use Rattle.block_forms.specs.Limits.{page_head_size, record_space, entries_per_block, block_size}
use Rattle.block_bits.specs.Bits.{bits_in, field}
use Rattle.block_bits.specs.Fields.{get_all, widths, values, total, Fit}
use Rattle.block_bits.proofs.Blocks.{bits_in_append, field_lt}
use Rattle.block_forms.specs.Numbers.{same}
use Rattle.block_forms.specs.Tuple.{Tuple, sizes, Byte, AllBytes}
use Rattle.block_forms.specs.Spell.{spell}
use Rattle.block_forms.specs.Block.{Block, malformed, header, page, directory, PageBlock, DirectoryBlock, as_header, as_page, as_directory, header_fields, entry_fields, directory_fields}
use Rattle.block_forms.specs.Block.{block_fields}
use Rattle.block_forms.specs.Block.{encode_block, EntriesFit, PageFits, DirectoryFits, InRange}
use Rattle.block_forms.specs.Decode.{kind, spelled_by, read_header, header_in, page_tuples, page_table, page_count, page_bytes, page_level, page_spelled, page_in}
use Rattle.block_forms.specs.Decode.{read_entries, directory_count, directory_level, directory_in, decode_block}
use Rattle.block_forms.specs.Laws.{DecodeOfEncode, EncodeOfDecode}
use Rattle.block_forms.specs.Bytes.{page_head}
use Rattle.block_forms.specs.declared.Header.{Header}
use Rattle.block_forms.proofs.Same.{same_eq, same_refl}
use Rattle.block_forms.proofs.Spelled.{block_fields_lem, get_spelled, length_block, block_bytes}
use Rattle.block_forms.proofs.Tuples.{count_sizes}
use Rattle.block_forms.proofs.Bitwise.{body, head_bits, length_head, page_bytes_lem}
use Rattle.block_forms.proofs.ReadTuples.{read_all_fit, read_room}
use Rattle.block_forms.proofs.ReadBack.{read_records}

-- ---- length and bytes

pub encode_length : (b : Block) → length (encode_block b) ≡ block_size
unfolding encode_block
encode_length b = length_block (block_fields b)

pub encode_bytes : (b : Block) → AllBytes (encode_block b)
unfolding encode_block
encode_bytes b = block_bytes (block_fields b)

-- ---- a block is what it spells

module _ (xs : List ℕ) (b : Block) where
  pub spelled_yes : same (encode_block b) xs ≡ true → spelled_by xs b ≡ b
  unfolding spelled_by if'◌then◌else◌
  spelled_yes s = rw s

  pub spelled_no : same (encode_block b) xs ≡ false → spelled_by xs b ≡ malformed
  unfolding spelled_by if'◌then◌else◌
  spelled_no s = rw s

spells_itself : (b : Block) → spelled_by (encode_block b) b ≡ b
spells_itself b = spelled_yes (encode_block b) b (same_refl (encode_block b))

-- ---- the header

module _ (h : Header) (fit : Fit (header_fields h)) where
  header_all : get_all (bits_in (encode_block (header h))) 0 (widths (header_fields h)) ≡ values (header_fields h)
  unfolding encode_block
  header_all = block_fields_lem (header_fields h) (omega arith) fit

  header_kind : kind (encode_block (header h)) ≡ 1
  unfolding kind
  header_kind = let e = header_all in cc

  header_back : read_header (encode_block (header h)) ≡ h
  unfolding read_header
  header_back =
      let e = header_all in
      let bits = bits_in (encode_block (header h)) in
      let a : field bits 4 13 ≡ h.blocks = cc in
      let b : field bits 17 11 ≡ h.capacity = cc in
      let c : field bits 28 32 ≡ h.level = cc in
      let d : field bits 60 32 ≡ h.next = cc in
      let f : field bits 92 11 ≡ h.pages = cc in
      let g : field bits 103 3 ≡ h.directories = cc in
      let k : field bits 106 12 ≡ h.d0 = cc in
      let l : field bits 118 12 ≡ h.d1 = cc in
      let m : field bits 130 12 ≡ h.d2 = cc in
      let n : field bits 142 12 ≡ h.d3 = cc in
      λ i. record { blocks = a i; capacity = b i; level = c i; next = d i; pages = f i; directories = g i; d0 = k i; d1 = l i; d2 = m i; d3 = n i }

-- ---- the directory

pub values_entries : (es : List ℕ) → values (entry_fields es) ≡ es
unfolding entry_fields
values_entries [] = refl
values_entries (e ∷ es) = ap (λ (l : List ℕ). e ∷ l) (values_entries es)

pub total_entries : (es : List ℕ) → total (entry_fields es) ≡ 12 * length es
unfolding entry_fields
total_entries [] = refl
total_entries (e ∷ es) = omega (arith, total_entries es)

pub fit_entries : (es : List ℕ) → EntriesFit es → Fit (entry_fields es)
unfolding entry_fields
fit_entries [] f = tt
fit_entries (e ∷ es) f = (f.0, fit_entries es f.1)

pub entries_all : (es xs : List ℕ) (at : ℕ) → read_entries xs at (length es) ≡ get_all (bits_in xs) at (widths (entry_fields es))
unfolding read_entries entry_fields
entries_all [] xs at = refl
entries_all (e ∷ es) xs at = ap (λ (l : List ℕ). field (bits_in xs) at 12 ∷ l) (entries_all es xs (at + 12))

module _ (l : ℕ) (es : List ℕ) (fit : DirectoryFits l es) where
  dir_all : get_all (bits_in (encode_block (directory l es))) 0 (widths (directory_fields l es)) ≡ values (directory_fields l es)
  unfolding encode_block
  dir_all =
      let c = fit.count in
      block_fields_lem (directory_fields l es) (omega (arith, total_entries es)) (omega arith, (omega arith, (fit.level, (omega arith, fit_entries es fit.entries))))

  dir_kind : kind (encode_block (directory l es)) ≡ 3
  unfolding kind
  dir_kind = let e = dir_all in cc

  dir_count : directory_count (encode_block (directory l es)) ≡ length es
  unfolding directory_count
  dir_count = let e = dir_all in cc

  dir_level : directory_level (encode_block (directory l es)) ≡ l
  unfolding directory_level
  dir_level = let e = dir_all in cc

  dir_entries : read_entries (encode_block (directory l es)) 64 (length es) ≡ es
  dir_entries =
      let e = dir_all in
      let q : get_all (bits_in (encode_block (directory l es))) 64 (widths (entry_fields es)) ≡ values (entry_fields es) = cc in
      entries_all es (encode_block (directory l es)) 64 ∙ q ∙ values_entries es

-- ---- the page

module _ (t l : ℕ) (ts : List Tuple) (fit : PageFits t l ts) where
  page_all : get_all (bits_in (encode_block (page t l ts))) 0 (4 ∷ 3 ∷ 6 ∷ 9 ∷ 32 ∷ []) ≡ 2 ∷ t ∷ length ts ∷ sizes ts ∷ l ∷ []
  unfolding spell
  page_all =
      let H = page_head t (length ts) (sizes ts) l in
      let hn : length ts < 64 = omega (arith, count_sizes ts, fit.room) in
      let hb : sizes ts < 512 = omega (arith, fit.room) in
      let head : List (ℕ × ℕ) = (4, 2) ∷ (3, t) ∷ (6, length ts) ∷ (9, sizes ts) ∷ (32, l) ∷ (10, 0) ∷ [] in
      let bits : bits_in H ≡ spell head = sym (append-nil (bits_in H)) ∙ head_bits t (length ts) (sizes ts) l fit.table hn hb fit.level [] in
      let got : get_all (spell head ++ bits_in (body ts)) 0 (widths head) ≡ values head =
      get_spelled head [] (bits_in (body ts)) (omega arith, (fit.table, (hn, (hb, (fit.level, (omega arith, tt)))))) in
      rw (page_bytes_lem t l ts fit, bits_in_append H (body ts), bits) (cc)

  page_kind : kind (encode_block (page t l ts)) ≡ 2
  unfolding kind
  page_kind = let e = page_all in cc

  pub page_table_lem : page_table (encode_block (page t l ts)) ≡ t
  unfolding page_table
  page_table_lem = let e = page_all in cc

  pub page_count_lem : page_count (encode_block (page t l ts)) ≡ length ts
  unfolding page_count
  page_count_lem = let e = page_all in cc

  pub page_level_lem : page_level (encode_block (page t l ts)) ≡ l
  unfolding page_level
  page_level_lem = let e = page_all in cc

  pub page_sizes : page_bytes (encode_block (page t l ts)) ≡ sizes ts
  unfolding page_bytes
  page_sizes = let e = page_all in cc

  pub page_tuples_lem : page_tuples (length ts) (encode_block (page t l ts)) ≡ some ts
  page_tuples_lem =
      let H = page_head t (length ts) (sizes ts) l in
      rw (page_bytes_lem t l ts fit, drop_at H (body ts) 8 (length_head t (length ts) (sizes ts) l)) (read_records ts _ fit.tuples)

-- ---- one reading

pub decode_encode : DecodeOfEncode
unfolding decode_block header_in page_in page_spelled directory_in if'◌then◌else◌
decode_encode malformed r = absurd r
decode_encode (header h) r = rw (header_kind h r, header_back h r) (spells_itself (header h))
decode_encode (page t l ts) r =
    rw (page_kind t l ts r, page_count_lem t l ts r, page_tuples_lem t l ts r, page_table_lem t l ts r, page_level_lem t l ts r) (spells_itself (page t l ts))
decode_encode (directory l es) r =
    rw (dir_kind l es r, dir_count l es r, dir_level l es r, dir_entries l es r, le-leb (length es) entries_per_block r.count) (spells_itself (directory l es))

-- ---- one spelling, and what is read is in range

pub entries_fit : (xs : List ℕ) (at n : ℕ) → EntriesFit (read_entries xs at n)
unfolding read_entries
entries_fit xs at zero = tt
entries_fit xs at (suc n) = (field_lt xs at 12, entries_fit xs (at + 12) n)

pub entries_count : (xs : List ℕ) (at n : ℕ) → length (read_entries xs at n) ≡ n
unfolding read_entries
entries_count xs at zero = refl
entries_count xs at (suc n) = ap suc (entries_count xs (at + 12) n)

-- these bytes spell b, and its fields are in range
pub record Read (xs : List ℕ) (b : Block) : Type 0 where
  pub spelling : encode_block b ≡ xs
  pub range : InRange b

-- b is malformed, or read
abbrev Reads : List ℕ → Block → Type 0
Reads xs b = (b ≡ malformed → ⊥) → Read xs b

read_spelled : (xs : List ℕ) (b : Block) → (encode_block b ≡ xs → InRange b) → Reads xs (spelled_by xs b)
read_spelled xs b f g =
    by (same (encode_block b) xs)
    (λ e. let q = same_eq (encode_block b) xs e in rw (spelled_yes xs b e) (record { spelling = q; range = f q }))
    (λ e. absurd (g (spelled_no xs b e)))

read_header_lem : (xs : List ℕ) → Reads xs (header_in xs)
unfolding header_in read_header
read_header_lem xs = read_spelled xs (header (read_header xs)) (λ q. (
  omega arith,
  (
    field_lt xs 4 13,
    (
      field_lt xs 17 11,
      (
        field_lt xs 28 32,
        (
          field_lt xs 60 32,
          (
            field_lt xs 92 11,
            (
              field_lt xs 103 3,
              (field_lt xs 106 12, (field_lt xs 118 12, (field_lt xs 130 12, (field_lt xs 142 12, tt)))),
            ),
          ),
        ),
      ),
    ),
  ),
))

read_page : (xs : List ℕ) → Reads xs (page_in xs)
unfolding page_in page_spelled page_table page_level
read_page xs g =
    by-option (page_tuples (page_count xs) xs)
    (λ h. absurd (g (rw h)))
    (λ ts h.
    let b = page (page_table xs) (page_level xs) ts in
    let fits : encode_block b ≡ xs → PageFits (page_table xs) (page_level xs) ts = λ q.
    let bytes : AllBytes xs = rw q at (encode_bytes b) in
    let k : length xs ≡ block_size = rw q at (encode_length b) in
    let d : length (drop page_head_size xs) ≡ record_space = rw (length-drop page_head_size xs, k) in
    record {
      table = field_lt xs 4 3;
      level = field_lt xs 22 32;
      tuples = read_all_fit (page_count xs) (drop page_head_size xs) ts (all_drop Byte page_head_size xs bytes) h;
      room = omega (arith, read_room (page_count xs) (drop page_head_size xs) ts h);
    } in
    rw h (read_spelled xs b fits (rw h at g)))

read_directory : (xs : List ℕ) → Reads xs (directory_in xs)
unfolding directory_in directory_level if'◌then◌else◌
read_directory xs g =
    let n = directory_count xs in
    let es = read_entries xs 64 n in
    by (leb n entries_per_block)
    (λ h.
    let le : n ≤ entries_per_block = leb-true n entries_per_block h in
    let fits : DirectoryFits (directory_level xs) es =
    record { level = field_lt xs 13 32; count = omega (arith, entries_count xs 64 n); entries = entries_fit xs 64 n } in
    rw h (read_spelled xs (directory (directory_level xs) es) (λ q. fits) (rw h at g)))
    (λ h. absurd (g (rw h)))

decode_read : (xs : List ℕ) → Reads xs (decode_block xs)
unfolding decode_block if'◌then◌else◌
decode_read xs g =
    by (eqb (kind xs) 1) (λ a. rw a (read_header_lem xs (rw a at g)))
    (λ a. by (eqb (kind xs) 2) (λ b. rw (a, b) (read_page xs (rw (a, b) at g)))
    (λ b. by (eqb (kind xs) 3) (λ c. rw (a, b, c) (read_directory xs (rw (a, b, c) at g)))
    (λ c. absurd (g (rw (a, b, c))))))

pub encode_decode : EncodeOfDecode
encode_decode xs g = (decode_read xs g).spelling

pub decode_in_range : (xs : List ℕ) → (decode_block xs ≡ malformed → ⊥) → InRange (decode_block xs)
decode_in_range xs g = (decode_read xs g).range

-- ---- a block of one kind

pub header_is : (b : Block) {h : Header} → as_header b ≡ some h → b ≡ header h
header_is malformed e = never e
header_is (header g) e = cc
header_is (page t l ts) e = never e
header_is (directory l es) e = never e

pub page_is : (b : Block) {p : PageBlock} → as_page b ≡ some p → b ≡ page p.table p.level p.tuples
page_is malformed e = never e
page_is (header h) e = never e
page_is (page t l ts) e = ap (λ (q : PageBlock). page q.table q.level q.tuples) (some_eq e)
page_is (directory l es) e = never e

pub directory_is : (b : Block) {d : DirectoryBlock} → as_directory b ≡ some d → b ≡ directory d.level d.entries
directory_is malformed e = never e
directory_is (header h) e = never e
directory_is (page t l ts) e = never e
directory_is (directory l es) e = ap (λ (q : DirectoryBlock). directory q.level q.entries) (some_eq e)

decode_is : (xs : List ℕ) (b : Block) → decode_block xs ≡ b → (b ≡ malformed → ⊥) → Read xs b
decode_is xs b e g = rw e at (decode_read xs (λ m. g (sym e ∙ m)))

pub page_read : (xs : List ℕ) {p : PageBlock} → as_page (decode_block xs) ≡ some p → Read xs (page p.table p.level p.tuples)
page_read xs e = decode_is xs _ (page_is (decode_block xs) e) (λ m. clash cc)

pub directory_read : (xs : List ℕ) {d : DirectoryBlock} → as_directory (decode_block xs) ≡ some d → Read xs (directory d.level d.entries)
directory_read xs e = decode_is xs _ (directory_is (decode_block xs) e) (λ m. clash cc)

-- the entries of a directory's block are those that are read from it
pub decode_entries : (xs : List ℕ) {d : DirectoryBlock} → as_directory (decode_block xs) ≡ some d → read_entries xs 64 (length d.entries) ≡ d.entries
decode_entries xs {d} e = let r = directory_read xs e in rw (← r.spelling) (dir_entries d.level d.entries r.range)
