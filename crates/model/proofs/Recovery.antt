-- Recovery taken apart: what it finds in the header, directory and page blocks, and that it looks at no other block.
use Rattle.basics.proofs.Kit.{◌≡◌, refl, sym, ap, ◌∙◌, true, some, none, Option, List, [], ◌∷◌, ◌++◌, ℕ, ◌-◌}
use Rattle.basics.specs.Basics.{if'◌then◌else◌, is_in}
use Rattle.basics.proofs.Facts.{by, AllOf}
use Rattle.block_forms.specs.Block.{header, as_header}
use Rattle.block_forms.specs.Limits.{entries_per_block}
use Rattle.block_forms.specs.declared.Header.{Header}
use Rattle.image_rows.specs.Rows.{rows_ok}
use Rattle.image.specs.Whole.{pages_stage, pages_below}
use Rattle.image.specs.Stages.{Stage, refuses, holds, StoredPage, header_ok, read_directories, directory_blocks, entries_ok, read_pages, rows_of_pages, header_test, directory_test, tested_entries, page_test}
use Rattle.image.specs.Stages.{tested_pages}
use Rattle.image.specs.View.{View}
use Rattle.block_forms.proofs.Laws.{header_is}
pub use Rattle.image.proofs.Staged.{read_blocks, refuses-holds, holds_eq}
use Rattle.image.proofs.Staged.{tested}
use Rattle.model.specs.State.{Store}
use Rattle.model.specs.Recover.{recovered_store, recover_pages}
use Rattle.model.proofs.Views.{recover_view, recover_from}
use Rattle.basics.proofs.Elements.{all_parts, all_in}

-- what an accepted recovery finds in a view of n blocks
pub record Found (n : ℕ) (v : View) (s : Store) : Type 0 where
  pub head : Header
  pub entries : List ℕ
  pub pages : List StoredPage
  pub top : v 0 ≡ header head
  pub head_ok : header_ok n head ≡ true
  pub listed : read_directories v head.level head.pages (directory_blocks head) ≡ some entries
  pub entries_ok : entries_ok head.blocks (directory_blocks head) entries ≡ true
  pub read : read_pages v head.level entries ≡ some pages
  pub rows_ok : rows_ok head.capacity head.next (rows_of_pages pages) ≡ true
  pub store : recovered_store head pages ≡ s

-- what recovery below a header gives is the store of its pages
pub pages_store : (h : Header) (st : Stage (List StoredPage)) (s : Store) → recover_pages h st ≡ holds s → (ps : List StoredPage) × (st ≡ holds ps) × (recovered_store h ps ≡ s)
unfolding recover_pages
pages_store h (refuses n) s e = refuses-holds e
pages_store h (holds ps) s e = (ps, refl, holds_eq e)

pub found : (n : ℕ) (v : View) (s : Store) → recover_view n v ≡ holds s → Found n v s
unfolding recover_view recover_from header_test if'◌then◌else◌
found n v s e = go (as_header (v 0)) refl e
  where
    go : (x : Option Header) → as_header (v 0) ≡ x → recover_from v (header_test n x) ≡ holds s → Found n v s
    go none q e = refuses-holds e
    go (some h) q e =
        by (header_ok n h)
        (λ a.
        let k = pages_store h (pages_stage v h) s (rw a at e) in
        let t = tested v h k.0 k.1 in
        record {
          head = h;
          entries = t.entries;
          pages = k.0;
          top = header_is (v 0) q;
          head_ok = a;
          listed = t.listed;
          entries_ok = t.entries_ok;
          read = t.read;
          rows_ok = t.rows_ok;
          store = k.2;
        })
        (λ a. refuses-holds (rw a at e))

pub recovers : (n : ℕ) (v : View) (s : Store) → Found n v s → recover_view n v ≡ holds s
unfolding recover_view recover_from header_test pages_stage pages_below directory_test tested_entries page_test tested_pages recover_pages if'◌then◌else◌
recovers n v s f = rw (f.top, f.head_ok, f.listed, f.entries_ok, f.read, f.rows_ok) (ap holds f.store)

-- ---- the blocks named

pub found_used : {n : ℕ} {v : View} {s : Store} (f : Found n v s) (b : ℕ) → s.used b ≡ is_in b (f.entries ++ directory_blocks f.head)
unfolding recovered_store
found_used {n} {v} f b = ap (λ z. z.used b) (sym f.store)
    ∙ ap (λ es. is_in b (es ++ directory_blocks f.head)) (read_blocks v f.head.level f.entries f.pages f.read)

-- ---- a view that agrees on block 0 and the blocks named holds the same

module _ (v v' : View) where
  abbrev Agree : List ℕ → Type 0
  Agree ds = AllOf (λ d. v' d ≡ v d) ds

  dirs_frame : (l p : ℕ) (ds : List ℕ) → Agree ds → read_directories v' l p ds ≡ read_directories v l p ds
  unfolding read_directories
  dirs_frame l p [] a = refl
  dirs_frame l p (d ∷ ds) a = rw (a.0, dirs_frame l (p - entries_per_block) ds a.1)

  pages_frame : (l : ℕ) (es : List ℕ) → Agree es → read_pages v' l es ≡ read_pages v l es
  unfolding read_pages
  pages_frame l [] a = refl
  pages_frame l (e ∷ es) a = rw (a.0, pages_frame l es a.1)

  pub found_frame : (n : ℕ) (s : Store) → Found n v s → v' 0 ≡ v 0 → ((b : ℕ) → s.used b ≡ true → v' b ≡ v b) → Found n v' s
  found_frame n s f z a =
      let es = f.entries in
      let ds = directory_blocks f.head in
      let ag = all_parts (λ d. v' d ≡ v d) es ds (all_in (λ d. v' d ≡ v d) (es ++ ds) (λ b i. a b (found_used f b ∙ i))) in
      record {
        head = f.head;
        entries = es;
        pages = f.pages;
        top = z ∙ f.top;
        head_ok = f.head_ok;
        listed = dirs_frame f.head.level f.head.pages ds ag.1 ∙ f.listed;
        entries_ok = f.entries_ok;
        read = pages_frame f.head.level es ag.0 ∙ f.read;
        rows_ok = f.rows_ok;
        store = f.store;
      }
