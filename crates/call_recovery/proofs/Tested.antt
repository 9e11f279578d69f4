-- What recovery's tests showed, where they passed.
use Rattle.block_forms.specs.Limits.{block_limit}
use Rattle.basics.proofs.Kit.{◌≡◌, sym, ap, ◌∙◌, true, some, Option, List, [], ◌∷◌, ◌++◌, map, ℕ, ◌≤◌, ◌<◌, ltb, length, length-take, leb-true, ltb-true, arith}
use Rattle.basics.specs.Basics.{if'◌then◌else◌, all, every, paired}
use Rattle.basics.proofs.Facts.{by, AllOf, and_true}
use Rattle.basics.proofs.Elements.{some_eq, every_all}
use Rattle.block_forms.specs.Tuple.{AllFit}
use Rattle.block_forms.specs.Block.{PageBlock, as_page}
use Rattle.block_forms.specs.declared.Header.{Header}
use Rattle.image_rows.specs.Rows.{Row, open_limit, rows_ok, transactions, follows}
use Rattle.image.specs.View.{View, view, block_count}
use Rattle.image.specs.Stages.{holds, whole_blocks, block_ok, directories_for, directory_blocks, read_directories, entries_ok, StoredPage, stored_page, read_pages, rows_of_pages}
use Rattle.image.specs.Whole.{header_stage, pages_stage}
use Rattle.image_header.proofs.Heads.{Counts}
use Rattle.image.proofs.Collect.{first_page}
use Rattle.image.proofs.Staged.{Passing, passing, entries_count, refuses-holds, read_blocks, tested}
use Rattle.model.proofs.Bytes.{view_sane, blocks_whole}
use Rattle.model.proofs.Start.{Read, pages_read}
use Rattle.model.proofs.Whole.{tested as read-tested}
use Rattle.call_recovery.specs.Loading.{page_at, pages_at, blocks_in, MayLayOut}

-- ---- as many entries as pages

pub listed_count : (n : ℕ) (v : View) (h : Header) (es : List ℕ) → Counts n h → read_directories v h.level h.pages (directory_blocks h) ≡ some es → length es ≡ h.pages
unfolding directory_blocks directories_for
listed_count n v h es c e = entries_count v h.level (directory_blocks h) h.pages es (simp length-take (omega (arith, c.four, c.directories))) e

-- ---- each page

pub pages_are : (v : View) (l : ℕ) (es : List ℕ) (ps : List StoredPage) → read_pages v l es ≡ some ps → pages_at v es ≡ ps
unfolding read_pages pages_at page_at
pages_are v l [] ps h = some_eq h
pages_are v l (e ∷ es) ps h =
    let f = first_page l e (as_page (v e)) (read_pages v l es) h in
    ap (λ (o : Option PageBlock). page_at e o ++ pages_at v es) f.is ∙ ap (λ (z : List StoredPage). stored_page e f.page ∷ z) (pages_are v l es f.others f.rest) ∙ sym f.are

-- ---- 1 and 22

pub record Whole (img : List ℕ) (h : Header) : Type 0 where
  pub passed : Passing img h
  pub few : 2 ≤ block_count img
  pub many : block_count img ≤ block_limit

pub whole : (img : List ℕ) (h : Header) → header_stage img ≡ holds h → Whole img h
unfolding header_stage block_count if'◌then◌else◌
whole img h e =
    by (whole_blocks (length img))
    (λ w. let c = blocks_whole (length img) w in record { passed = passing img h e; few = c.1; many = c.2 })
    (λ w. refuses-holds (rw w at e))

-- ---- all that the loading needs

-- a page may be loaded: its numbers fit an entry
pub record PageOk (p : StoredPage) : Type 0 where
  pub table : p.table < 8
  pub block : p.block < block_limit
  pub filled : 1 ≤ length p.tuples
  pub tuples : AllFit p.tuples

pub record Sure (img : List ℕ) (h : Header) (es : List ℕ) (ps : List StoredPage) : Type 0 where
  pub whole : Whole img h
  pub named : all (block_ok (block_count img)) es ≡ true
  pub count : length es ≡ h.pages
  pub pages : AllOf PageOk ps
  pub rows : length (rows_of_pages ps) ≤ h.capacity
  pub opens : length (transactions (rows_of_pages ps)) ≤ open_limit
  pub follow : paired follows (rows_of_pages ps) ≡ true

pages_fit : (img : List ℕ) (n l : ℕ) (ps : List StoredPage) → n ≤ block_limit → all (block_ok n) (map (λ p. p.block) ps) ≡ true → AllOf (Read (view img) l) ps → AllOf PageOk ps
unfolding all block_ok
pages_fit img n l [] h b r = tt
pages_fit img n l (p ∷ ps) h b r =
    let a = and_true (block_ok n p.block) (all (block_ok n) (map (λ q. q.block) ps)) b in
    let k = ltb-true p.block n (and_true (ltb 0 p.block) (ltb p.block n) a.0).1 in
    let t = read-tested (view img) l (view_sane img) p r.0 in
    (record { table = t.0; block = omega arith; filled = t.3; tuples = t.1 }, pages_fit img n l ps h a.1 r.1)

-- the count of the rows and of their transactions
rows_few : (cap next : ℕ) (rs : List Row) → rows_ok cap next rs ≡ true → (length rs ≤ cap) × ((length (transactions rs) ≤ open_limit) × (paired follows rs ≡ true))
unfolding rows_ok
rows_few cap next rs e =
    let a = every_all _ e in
    (leb-true (length rs) cap a.1.1.1.1.0, (leb-true (length (transactions rs)) open_limit a.1.1.1.1.1.0, a.0))

pub sure : (img : List ℕ) (h : Header) (es : List ℕ) (ps : List StoredPage) → header_stage img ≡ holds h → pages_stage (view img) h ≡ holds ps → blocks_in ps ≡ es
    → Sure img h es ps
unfolding entries_ok every blocks_in
sure img h es ps e q b =
    let w = whole img h e in
    let t = tested (view img) h ps q in
    let en : t.entries ≡ es = sym (read_blocks (view img) h.level t.entries ps t.read) ∙ b in
    let n0 = (and_true (all (block_ok h.blocks) t.entries) _ t.entries_ok).0 in
    let n1 : all (block_ok (block_count img)) es ≡ true =
    sym (λ i. all (block_ok (w.passed.counts.blocks i)) (en i)) ∙ n0 in
    let r = rows_few h.capacity h.next (rows_of_pages ps) t.rows_ok in
    record {
      whole = w;
      named = n1;
      count = sym (ap length en) ∙ listed_count (block_count img) (view img) h t.entries w.passed.counts t.listed;
      pages = pages_fit img (block_count img) h.level ps w.many (ap (all (block_ok (block_count img))) b ∙ n1) (pages_read (view img) h.level t.entries ps t.read);
      rows = r.0;
      opens = r.1.0;
      follow = r.1.1;
    }

-- what is asked where a store is laid out
pub laid_sure : {img : List ℕ} {h : Header} {es m : List ℕ} → MayLayOut img h es m → Sure img h es (pages_at (view img) es)
laid_sure p = sure _ _ _ _ p.header p.pages p.blocks

-- the pages of the entries are those that were tested
pub pages_there : (v : View) (h : Header) (es : List ℕ) (ps : List StoredPage) → pages_stage v h ≡ holds ps → blocks_in ps ≡ es → pages_at v es ≡ ps
unfolding blocks_in
pages_there v h es ps q b =
    let t = tested v h ps q in
    let en : t.entries ≡ es = sym (read_blocks v h.level t.entries ps t.read) ∙ b in
    ap (pages_at v) (sym en) ∙ pages_are v h.level t.entries ps t.read
