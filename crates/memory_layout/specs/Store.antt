-- The store that the memory holds, if it holds one.
use Rattle.std.specs.Prelude.{ℕ, suc, ◌*◌, ◌≤◌, ◌≡◌, Bool, false, not, ◌&&◌, ◌||◌, List, [], ◌∷◌, length, take, drop, leb, ltb, eqb}
use Rattle.std.proofs.Math.Option.{Option, none, some}
use Rattle.basics.specs.Basics.{if'◌then◌else◌, every, all, sum, from}
use Rattle.block_forms.specs.Limits.{most_number, block_limit}
use Rattle.image_rows.specs.Rows.{open_limit}
use Rattle.image.specs.Stages.{capacity_limit}
use Rattle.model.specs.State.{Held, Page, Checkpoint, idle, running, Store}
use Rattle.model.specs.Recover.{memory_for}
use Rattle.memory_bytes.specs.Bytes.{le4}
use Rattle.memory_layout.specs.Places.{signature, head_size}
use Rattle.memory_layout.specs.Views.{head_of, counts_of, row_count, table_end, page_count, start_at}
use Rattle.memory_layout.specs.Flat.{Flat, flat_of, capacity_of, entry_in}
use Rattle.memory_layout.specs.declared.Head.{Head}
use Rattle.memory_layout.specs.declared.Counts.{Counts}
use Rattle.memory_layout.specs.declared.Entry.{Entry}

-- ---- what the flat lists mean

-- a page by its entry and its tuples
unfoldable pub page_of : Entry → List Held → Page
page_of e hs = record { table = e.table; block = e.block; frozen = e.frozen; tuples = hs }

-- the pages of the entries, in order: each has the next rows, as many as its entry counts
unfoldable pub nest : List Entry → List Held → List Page
nest [] hs = []
nest (e ∷ es) hs = page_of e (take e.count hs) ∷ nest es (drop e.count hs)

-- all pages, in order
abbrev pub pages_in : Flat → List Page
pages_in f = nest f.entries f.rows

-- the running checkpoint, if one runs: none does at the last level, whatever the memory says, since a begin is refused there
unfoldable pub checkpoint_of : Bool → ℕ → ℕ → List ℕ → List ℕ → Checkpoint
checkpoint_of on l n es ds = if' not on || leb most_number l then idle else running n es ds

-- the store that the flat lists mean
unfoldable pub store_of : Flat → Store
store_of f =
    record {
      blocks = f.head.blocks;
      capacity = f.head.capacity;
      level = f.head.level;
      next = f.head.next;
      pages = pages_in f;
      active = f.opens;
      used = f.used;
      taken = f.head.taken;
      checkpoint = checkpoint_of f.head.running f.head.level f.head.begun f.named f.directories;
    }

-- ---- pages by place

-- how many rows the entries have
unfoldable pub total : List Entry → ℕ
total es = sum (λ e. e.count) es

-- the row with which page p starts
abbrev pub start_of : Flat → ℕ → ℕ
start_of f p = total (take p f.entries)

-- page p: a run of the rows
unfoldable pub page_in : Flat → ℕ → Page
page_in f p = page_of (entry_in f p) (take (entry_in f p).count (drop (start_of f p) f.rows))

-- ---- refusal 4

-- the ranges of the head's numbers, for a memory of size bytes
unfoldable pub in_range : ℕ → Head → Counts → Bool
in_range size h n =
    every (
    leb 1 h.capacity
    ∷ leb h.capacity capacity_limit
    ∷ leb (memory_for h.capacity) size
    ∷ leb 2 h.blocks
    ∷ leb h.blocks block_limit
    ∷ ltb h.taken h.blocks
    ∷ leb n.rows h.capacity
    ∷ leb n.pages (2 * h.capacity)
    ∷ leb n.opens open_limit
    ∷ leb n.named h.capacity
    ∷ leb n.directories 4
    ∷ [])

-- no table ends before the one below it
unfoldable pub tables_rise : List ℕ → Bool
tables_rise m = all (λ t. leb (table_end m t) (table_end m (suc t))) (from 0 7)

-- the pages start at row 0, and each has a row: it starts before the next, the last one before the end of the rows
unfoldable pub starts_rise : List ℕ → Bool
starts_rise m = eqb (start_at m (capacity_of m) 0) 0 && all (λ p. ltb (start_at m (capacity_of m) p) (start_at m (capacity_of m) (suc p))) (from 0 (page_count m))

-- c is the capacity, p how many pages and r how many rows there are, and the memory has room for the first rows of the pages
pub record StartsAt (m : List ℕ) (c p r : ℕ) : Type 0 where
  pub long : memory_for c ≤ length m
  pub capacity : c ≡ capacity_of m
  pub most : p ≤ 2 * c
  pub pages : p ≡ page_count m
  pub rows : r ≡ row_count m

-- length, signature, ranges, and the passes over the tables and the pages
unfoldable pub holds_store : List ℕ → Bool
holds_store m =
    every (
    leb head_size (length m)
    ∷ eqb (le4 m 0) signature
    ∷ in_range (length m) (head_of m) (counts_of m)
    ∷ tables_rise m
    ∷ starts_rise m
    ∷ [])

-- the store that the memory holds; if it holds none, refusal 4
unfoldable pub store_in : List ℕ → Option Store
store_in m = if' holds_store m then some (store_of (flat_of m)) else none

-- a page has a row
unfoldable pub has_rows : Entry → Bool
has_rows e = leb 1 e.count

-- ---- a fresh store

-- a memory of size bytes has room for a store of b blocks and capacity n
pub record FreshFits (size b n : ℕ) : Type 0 where
  pub least : 1 ≤ n
  pub most : n ≤ capacity_limit
  pub long : memory_for n ≤ size
  pub few : 2 ≤ b
  pub many : b ≤ block_limit

-- an empty store of b blocks and capacity n
unfoldable pub fresh_flat : ℕ → ℕ → Flat
fresh_flat b n =
    record {
      head = record { capacity = n; blocks = b; level = 0; next = 0; running = false; begun = 0; taken = 0 };
      opens = [];
      rows = [];
      entries = [];
      named = [];
      directories = [];
      used = λ c. false;
    }

-- ---- what a function that changes the store promises

-- the memory m' is as long as m, and holds the store s
pub record HoldsNow (m m' : List ℕ) (s : Store) : Type 0 where
  pub size : length m' ≡ length m
  pub store : store_in m' ≡ some s
