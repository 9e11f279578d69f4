-- What reading a block answers, once its fields are read and spelled again.
use Rattle.basics.proofs.Kit.{◌≡◌, refl, ap, true, false, some, none, List, ℕ, ◌≤◌, ◌<◌, length, take, le-leb, lt-leb, ne_eqb}
use Rattle.std.specs.Prelude.{Some, None}
use Rattle.basics.proofs.Facts.{clash}
use Rattle.basics.specs.Basics.{if'◌then◌else◌}
use Rattle.block_forms.specs.Limits.{entries_per_block}
use Rattle.block_bits.specs.Bits.{bits_in, field}
use Rattle.block_forms.specs.Numbers.{same}
use Rattle.block_forms.specs.Tuple.{Tuple}
use Rattle.block_forms.specs.Block.{Block, malformed, header, page, directory, as_header, as_page, as_directory, encode_block}
use Rattle.block_forms.specs.Decode.{spelled_by, read_header, header_in, page_tuples, page_table, page_count, page_level, page_spelled, page_in}
use Rattle.block_forms.specs.Decode.{read_entries, directory_count, directory_level, directory_in, kind, decode_block}
use Rattle.block_forms.specs.declared.Header.{Header}
use Rattle.block_forms.proofs.Laws.{spelled_yes, spelled_no}
use Rattle.block_reader.specs.Answers.{reading}
use Rattle.block_reader.specs.declared.PageHead.{PageHead}
use Rattle.block_reader.specs.declared.Block.TheVariants as read

-- ---- header

module _ (xs : List ℕ) {h : Header} (e : h ≡ read_header xs) where
  pub header_yes : same (encode_block (header h)) xs ≡ true → reading (header_in xs) ≡ Some (read.Header h)
  unfolding header_in reading
  header_yes s = rw (← e, spelled_yes xs (header h) s)

  pub header_no : same (encode_block (header h)) xs ≡ false → reading (header_in xs) ≡ None
  unfolding header_in reading
  header_no s = rw (← e, spelled_no xs (header h) s)

-- ---- directory

module _ (xs : List ℕ) {n : ℕ} (en : n ≡ field (bits_in xs) 4 9) where
  pub directory_many : entries_per_block < n → reading (directory_in xs) ≡ None
  unfolding directory_in directory_count reading if'◌then◌else◌
  directory_many h = rw (← en, lt-leb n entries_per_block h)

  module _ {l : ℕ} (el : l ≡ field (bits_in xs) 13 32) (es : List ℕ) (h : n ≤ entries_per_block) (e : take n es ≡ read_entries xs 64 n) where
    here : directory_in xs ≡ spelled_by xs (directory l (take n es))
    unfolding directory_in directory_count directory_level if'◌then◌else◌
    here = rw (← en, ← el, le-leb n entries_per_block h, e)

    pub directory_yes : length (take n es) ≡ n → same (encode_block (directory l (take n es))) xs ≡ true → reading (directory_in xs) ≡ Some (read.Directory n l)
    unfolding reading
    directory_yes t s = rw (here, spelled_yes xs (directory l (take n es)) s, t)

    pub directory_no : same (encode_block (directory l (take n es))) xs ≡ false → reading (directory_in xs) ≡ None
    unfolding reading
    directory_no s = rw (here, spelled_no xs (directory l (take n es)) s)

-- ---- page

module _ (xs : List ℕ) {t n l : ℕ} (et : t ≡ field (bits_in xs) 4 3) (en : n ≡ field (bits_in xs) 7 6) (el : l ≡ field (bits_in xs) 22 32) where
  pub page_none : page_tuples n xs ≡ none → reading (page_in xs) ≡ None
  unfolding page_in page_spelled page_count reading
  page_none h = rw (← en, h)

  module _ {ts : List Tuple} (g : page_tuples n xs ≡ some ts) where
    there : page_in xs ≡ spelled_by xs (page t l ts)
    unfolding page_in page_spelled page_count page_table page_level
    there = rw (← en, g, ← et, ← el)

    pub page_yes : length ts ≡ n → same (encode_block (page t l ts)) xs ≡ true → reading (page_in xs) ≡ Some (read.Page (record { table = t; count = n; level = l }))
    unfolding reading
    page_yes c s = rw (there, spelled_yes xs (page t l ts) s, c)

    pub page_no : same (encode_block (page t l ts)) xs ≡ false → reading (page_in xs) ≡ None
    unfolding reading
    page_no s = rw (there, spelled_no xs (page t l ts) s)

-- ---- by the first four bits

module _ (xs : List ℕ) {k : ℕ} (e : k ≡ field (bits_in xs) 0 4) where
  pub kind_header : k ≡ 1 → decode_block xs ≡ header_in xs
  unfolding decode_block kind if'◌then◌else◌
  kind_header h = rw (← e, h)

  pub kind_page : k ≡ 2 → decode_block xs ≡ page_in xs
  unfolding decode_block kind if'◌then◌else◌
  kind_page h = rw (← e, h)

  pub kind_directory : k ≡ 3 → decode_block xs ≡ directory_in xs
  unfolding decode_block kind if'◌then◌else◌
  kind_directory h = rw (← e, h)

  kind_other : (k ≡ 1 → ⊥) → (k ≡ 2 → ⊥) → (k ≡ 3 → ⊥) → decode_block xs ≡ malformed
  unfolding decode_block kind if'◌then◌else◌
  kind_other a b c = rw (← e, ne_eqb k 1 a, ne_eqb k 2 b, ne_eqb k 3 c)

  pub reads_other : (k ≡ 1 → ⊥) → (k ≡ 2 → ⊥) → (k ≡ 3 → ⊥) → reading (decode_block xs) ≡ None
  unfolding reading
  reads_other a b c = rw (kind_other a b c)

-- ---- what an answer says of the block

pub is_header_lem : (b : Block) {h : Header} → Some (read.Header h) ≡ reading b → as_header b ≡ some h
unfolding reading
is_header_lem malformed e = clash cc
is_header_lem (header g) e = cc
is_header_lem (page t l ts) e = clash cc
is_header_lem (directory l es) e = clash cc

-- b is a page with this head
pub record PageIs (b : Block) (h : PageHead) : Type 0 where
  pub tuples : List Tuple
  pub is : as_page b ≡ some (record { table = h.table; level = h.level; tuples = tuples })
  pub count : length tuples ≡ h.count

pub is_page : (b : Block) {h : PageHead} → Some (read.Page h) ≡ reading b → PageIs b h
unfolding reading
is_page malformed e = clash cc
is_page (header k) e = clash cc
is_page (page t l ts) {h} e =
    let q : record { table = t; count = length ts; level = l } ≡ h = cc in
    record { tuples = ts; is = ap (λ (k : PageHead). some (record { table = k.table; level = k.level; tuples = ts })) q; count = ap (λ (k : PageHead). k.count) q }
is_page (directory l es) e = clash cc

-- b is a directory of n entries
pub record DirectoryIs (b : Block) (n l : ℕ) : Type 0 where
  pub entries : List ℕ
  pub is : as_directory b ≡ some (record { level = l; entries = entries })
  pub count : length entries ≡ n

pub is_directory : (b : Block) {n l : ℕ} → Some (read.Directory n l) ≡ reading b → DirectoryIs b n l
unfolding reading
is_directory malformed e = clash cc
is_directory (header h) e = clash cc
is_directory (page t l ts) e = clash cc
is_directory (directory l es) e = record { entries = es; is = cc; count = cc }

-- it is not of a kind that it is not read as
pub no_header : (b : Block) → ((h : Header) → reading b ≡ Some (read.Header h) → ⊥) → as_header b ≡ none
unfolding reading
no_header malformed n = refl
no_header (header h) n = absurd (n h refl)
no_header (page t l ts) n = refl
no_header (directory l es) n = refl

pub no_page : (b : Block) → ((h : PageHead) → reading b ≡ Some (read.Page h) → ⊥) → as_page b ≡ none
unfolding reading
no_page malformed n = refl
no_page (header h) n = refl
no_page (page t l ts) n = absurd (n (record { table = t; count = length ts; level = l }) refl)
no_page (directory l es) n = refl

pub no_directory : (b : Block) → ((n l : ℕ) → reading b ≡ Some (read.Directory n l) → ⊥) → as_directory b ≡ none
unfolding reading
no_directory malformed n = refl
no_directory (header h) n = refl
no_directory (page t l ts) n = refl
no_directory (directory l es) n = absurd (n (length es) l refl)
