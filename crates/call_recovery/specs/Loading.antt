-- What recovery puts into the memory: rows and page entries of the pages, and blocks in use.
use Rattle.std.specs.Prelude.{ℕ, ◌+◌, ◌*◌, ◌-◌, ◌≤◌, ◌<◌, ◌≡◌, Bool, true, ◌||◌, List, [], ◌∷◌, ◌++◌, map, length, take, leb}
use Rattle.std.proofs.Math.Option.{Option, none, some}
use Rattle.model.specs.Recover.{memory_for}
use Rattle.basics.specs.Basics.{all, is_in}
use Rattle.block_forms.specs.Limits.{payload_limit, block_size, block_limit}
use Rattle.block_forms.specs.Tuple.{Tuple, OwnerFits}
use Rattle.block_forms.specs.Block.{PageBlock, as_page}
use Rattle.block_forms.specs.Decode.{decode_block}
use Rattle.block_forms.specs.Bytes.{owner_is}
use Rattle.block_forms.specs.declared.Header.{Header}
use Rattle.block_forms.specs.declared.Record.{Record}
use Rattle.block_reader.specs.Answers.{is_page}
use Rattle.image.specs.View.{View, view, block_count}
use Rattle.image.specs.Stages.{holds, StoredPage, stored_page, block_ok}
use Rattle.image.specs.Whole.{header_stage, pages_stage}
use Rattle.model.specs.State.{Held}
use Rattle.model.specs.Rules.{without_pending}
use Rattle.memory_layout.specs.Flat.{Flat, flat_of, Room, Becomes, with_rows, with_entries}
use Rattle.memory_layout.specs.declared.Entry.{Entry}
use Rattle.memory_rows.specs.Cells.{InOrder}
use Rattle.memory_rows.specs.declared.Pending.TheVariants.{Nothing}
use Rattle.memory_rows.specs.declared.Row.{Row}
use Rattle.memory_pages.specs.Pages.{clean, with_count, entry_of}

-- ---- pages

-- the tuples of a page; a block of another kind has none
unfoldable pub tuples_in : Option PageBlock → List Tuple
tuples_in none = []
tuples_in (some p) = p.tuples

-- the page in block e: none, if the block is no page
unfoldable pub page_at : ℕ → Option PageBlock → List StoredPage
page_at e none = []
page_at e (some p) = stored_page e p ∷ []

-- the pages in the blocks es
unfoldable pub pages_at : View → List ℕ → List StoredPage
pages_at v [] = []
pages_at v (e ∷ es) = page_at e (as_page (v e)) ++ pages_at v es

-- ---- what they are in the memory

-- the row of a record, nothing pending
abbrev pub row_for : Record → Row
row_for r = record { key = r.key; number = r.number; owner = r.owner; mark = r.mark; pending = Nothing }

-- the tuples of all pages, in order, nothing pending
unfoldable pub helds_of : List StoredPage → List Held
helds_of [] = []
helds_of (p ∷ ps) = map without_pending p.tuples ++ helds_of ps

-- the page entry of a stored page: it is clean
unfoldable pub entry_for : StoredPage → Entry
entry_for p = clean p.table p.block (length p.tuples)

-- the blocks of pages
unfoldable pub blocks_in : List StoredPage → List ℕ
blocks_in ps = map (λ p. p.block) ps

-- the blocks bs are in use too
unfoldable pub used_by : List ℕ → (ℕ → Bool) → ℕ → Bool
used_by bs u c = is_in c bs || u c

-- the pages ps behind those that are there
abbrev pub with_pages : Flat → List StoredPage → Flat
with_pages f ps = with_entries (with_rows f (f.rows ++ helds_of ps)) (f.entries ++ map entry_for ps)

-- the last page has k rows more
unfoldable pub last_more : ℕ → List Entry → List Entry
last_more k es = take (length es - 1) es ++ with_count (entry_of es (length es - 1)) ((entry_of es (length es - 1)).count + k) ∷ []

-- ---- what the loading functions promise

-- the rows hs stand behind those that were there, on the last page
pub record Fills (hs : List Held) (m m' : List ℕ) : Type 0 where
  pub becomes : Becomes m m' (with_entries (with_rows (flat_of m) ((flat_of m).rows ++ hs)) (last_more (length hs) (flat_of m).entries))
  pub order : InOrder m'

-- the pages ps stand behind those that were there
pub record Loads (ps : List StoredPage) (m m' : List ℕ) : Type 0 where
  pub becomes : Becomes m m' (with_pages (flat_of m) ps)
  pub order : InOrder m'

-- no page of ps is of an earlier table than one before it, or than one of es
unfoldable pub TablesRise : List Entry → List StoredPage → Type 0
TablesRise es [] = Unit {0}
TablesRise es (p ∷ ps) = (all (λ e. leb e.table p.table) es ≡ true) × TablesRise (es ++ entry_for p ∷ []) ps

-- there is room for these pages behind those that are there
pub record RoomFor (ps : List StoredPage) (f : Flat) : Type 0 where
  pub rows : length f.rows + length (helds_of ps) ≤ f.head.capacity
  pub entries : length f.entries + length ps ≤ f.head.capacity
  pub tables : TablesRise f.entries ps

-- ---- what they ask

-- a record that stands in the bytes xs may become a row
pub record Loadable (r : Record) (xs : List ℕ) : Type 0 where
  pub limit : r.len ≤ payload_limit
  pub inside : r.start + r.len ≤ length xs
  pub owner : OwnerFits (owner_is r.owner)

-- n rows may stand behind the others, on the last page
pub record RowsFit (n : ℕ) (m : List ℕ) : Type 0 where
  pub room : Room m
  pub order : InOrder m
  pub page : 1 ≤ length (flat_of m).entries
  pub rows : length (flat_of m).rows + n ≤ (flat_of m).head.capacity

-- the bytes of a page of n tuples
pub record PageBytes (n : ℕ) (xs : List ℕ) : Type 0 where
  pub size : length xs ≡ block_size
  pub page : is_page (decode_block xs) ≡ true
  pub count : length (tuples_in (as_page (decode_block xs))) ≡ n

-- block e of an image is a page
pub record PageIn (img : List ℕ) (e : ℕ) : Type 0 where
  pub inside : block_size * e + block_size ≤ length img
  pub low : e < block_limit
  pub page : is_page (view img e) ≡ true

-- every block of es is a page of the image
pub record PagesIn (img es : List ℕ) : Type 0 where
  pub named : all (block_ok (block_count img)) es ≡ true
  pub few : block_count img ≤ block_limit
  pub pages : blocks_in (pages_at (view img) es) ≡ es

-- the pages ps may stand behind those that are there
pub record PagesFit (ps : List StoredPage) (m : List ℕ) : Type 0 where
  pub room : Room m
  pub order : InOrder m
  pub fit : RoomFor ps (flat_of m)

-- the image's tests passed with this header and pages in the blocks es, and there is memory enough
pub record MayLayOut (img : List ℕ) (h : Header) (es m : List ℕ) : Type 0 where
  pub header : header_stage img ≡ holds h
  pub memory : memory_for h.capacity ≤ length m
  pub pages : pages_stage (view img) h ≡ holds (pages_at (view img) es)
  pub blocks : blocks_in (pages_at (view img) es) ≡ es
