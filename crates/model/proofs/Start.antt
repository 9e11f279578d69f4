-- A store just recovered.
use Rattle.basics.proofs.Kit.{◌≡◌, refl, sym, ap, ◌∙◌, subst, Bool, true, false, ◌&&◌, not, some, List, [], ◌∷◌, ◌++◌, map, ℕ, suc, ◌≤◌, ◌<◌, leb, eqb, ltb, arith}
use Rattle.basics.specs.Basics.{is_empty, all, distinct, is_in, any, how_many}
use Rattle.basics.proofs.Facts.{AllOf, and_true, lie, clash}
use Rattle.block_forms.specs.Block.{page, header, as_page, InRange}
use Rattle.block_forms.specs.Limits.{most_number, block_limit}
use Rattle.block_forms.specs.declared.Header.{Header}
use Rattle.image_rows.specs.Rows.{transactions, is_own}
use Rattle.image.specs.Stages.{StoredPage, read_pages, page_ok, block_ok, capacity_limit, directory_blocks, header_ok, entries_ok, rows_of_pages}
use Rattle.image.specs.View.{View}
use Rattle.block_forms.proofs.Laws.{page_is}
use Rattle.image_header.proofs.Heads.{counts_are}
use Rattle.image.proofs.Collect.{first_page}
use Rattle.model.specs.State.{Store, idle}
use Rattle.model.specs.Rules.{is_dirty}
use Rattle.model.specs.Sight.{held, rows}
use Rattle.model.specs.Transactions.{open_numbers}
use Rattle.model.specs.Recover.{loaded, recovered_store}
use Rattle.model.proofs.Views.{AllSane, Sane}
use Rattle.basics.proofs.Elements.{some_eq, leb-true, not-true, all_map, all_split, every_all, all_mapped, in_all, all_append, all_in, in_append}
use Rattle.basics.proofs.Members.{many_distinct}
use Rattle.model.proofs.Owners.{numbers_reopened, in_transactions, transactions_distinct}
use Rattle.model.proofs.BlockUse.{Booked, BlockUse, in_block_many}
use Rattle.model.proofs.Recovery.{Found, read_blocks}
use Rattle.model.proofs.Inv.{listed, listed_held, listed_read, Tied, Ready, Inv, named_self}
use Rattle.model.proofs.Steps.{loaded_content, bare_without_pending, loaded_blocks}

-- a page that was read stands in its block
abbrev pub Read : View → ℕ → StoredPage → Type 0
Read v l p = (k : ℕ) × (v p.block ≡ page p.table k p.tuples) × (0 < k) × (k ≤ l) × (is_empty p.tuples ≡ false)

pub pages_read : (v : View) (l : ℕ) (es : List ℕ) (ps : List StoredPage) → read_pages v l es ≡ some ps → AllOf (Read v l) ps
unfolding read_pages page_ok
pages_read v l [] ps e = subst (AllOf (Read v l)) (some_eq e) tt
pages_read v l (e ∷ es) ps h =
    let f = first_page l e (as_page (v e)) (read_pages v l es) h in
    let k = f.page.level in
    let a = and_true (not (is_empty f.page.tuples)) (leb 1 k && leb k l) f.right in
    let b = and_true (leb 1 k) (leb k l) a.1 in
    rw f.are ((k, page_is (v e) f.is, leb-true 1 k b.0, leb-true k l b.1, not-true (is_empty f.page.tuples) a.0), pages_read v l es f.others f.rest)

blocks_in : (n : ℕ) (ds : List ℕ) → all (block_ok n) ds ≡ true → AllOf (λ d. (0 < d) × (d < n)) ds
unfolding block_ok
blocks_in n ds e =
    all_map (λ d. block_ok n d ≡ true) (λ d. (0 < d) × (d < n)) (λ d u. let k = and_true (ltb 0 d) (ltb d n) u in (leb-true 1 d k.0, leb-true (suc d) n k.1)) ds
    (all_split (block_ok n) ds e)

-- what the header says
pub record Headed (n : ℕ) (h : Header) : Type 0 where
  pub blocks : h.blocks ≡ n
  pub cap : (1 ≤ h.capacity) × (h.capacity ≤ capacity_limit)
  pub dirs : AllOf (λ d. (0 < d) × (d < n)) (directory_blocks h)

pub headed : (n : ℕ) (h : Header) → header_ok n h ≡ true → Headed n h
unfolding header_ok
headed n h e =
    let a = every_all _ e in
    let c = counts_are n h a.0 in
    record { blocks = c.blocks; cap = (c.low, c.high); dirs = blocks_in n (directory_blocks h) a.1.0 }

pub entries_in : (n : ℕ) (ds es : List ℕ) → entries_ok n ds es ≡ true → AllOf (λ d. (0 < d) × (d < n)) es
unfolding entries_ok
entries_in n ds es e = blocks_in n es (every_all _ e).0

entries_apart : (n : ℕ) (ds es : List ℕ) → entries_ok n ds es ≡ true → distinct es ≡ true
unfolding entries_ok
entries_apart n ds es e = (every_all _ e).1.1.0

pub loaded_held : (ps : List StoredPage) → held (map loaded ps) ≡ rows_of_pages ps
loaded_held ps = sym (listed_held (map loaded ps)) ∙ ap listed (loaded_content ps) ∙ listed_read ps

-- the fields of the header are in range
pub head_range : (v : View) (h : Header) → AllSane v → v 0 ≡ header h → (h.level ≤ most_number) × (h.next ≤ most_number)
head_range v h a e = let f : InRange (header h) = subst Sane e (a 0) (λ m. clash cc) in (omega (arith, f.1.1.1.0), omega (arith, f.1.1.1.1.0))

start_tied : (v : View) (l : ℕ) (p : StoredPage) → Read v l p → Tied v l (loaded p)
unfolding loaded
start_tied v l p w c = (w.0, w.1 ∙ ap (page p.table w.0) (sym (bare_without_pending p.tuples)), w.2, w.3)

start_store : (n : ℕ) (v : View) (s : Store) (f : Found n v s) → Ready (recovered_store f.head f.pages)
    → Inv n v (recovered_store f.head f.pages) (recovered_store f.head f.pages) (recovered_store f.head f.pages)
unfolding recovered_store
start_store n v s f rd =
    let h = f.head in
    let ps = f.pages in
    record {
      blocks = (headed n h f.head_ok).blocks;
      good = record {
        back = recovered_store h ps;
        found = subst (Found n v) (sym f.store) f;
        like = record {
          pages = refl;
          next = refl;
          names = named_self (recovered_store h ps).used (map (λ p. p.block) (recovered_store h ps).pages);
          active = λ tx. ap (is_in tx) (numbers_reopened (rows_of_pages ps) (transactions (rows_of_pages ps))) ∙ in_transactions tx (rows_of_pages ps)
              ∙ ap (any (is_own tx)) (sym (rd.same ∙ loaded_held ps));
        };
        names = λ c u. u;
      };
      phase = all_mapped _ loaded ps (all_map _ _ (start_tied v h.level) ps (pages_read v h.level f.entries ps f.read));
    }

pub start_inv : (n : ℕ) (v : View) (s : Store) → Found n v s → Ready s → Inv n v s s s
start_inv n v s f rd = subst (λ z. Inv n v z z z) f.store (start_store n v s f (subst Ready (sym f.store) rd))

-- ---- the blocks that a recovered store uses

booked_loaded : (used : ℕ → Bool) (ps : List StoredPage) → AllOf (λ b. used b ≡ true) (map (λ p. p.block) ps) → AllOf (Booked used) (map loaded ps)
unfolding loaded is_dirty
booked_loaded used [] a = tt
booked_loaded used (p ∷ ps) a = ((λ h. lie h, λ h. a.0), booked_loaded used ps a.1)

read_use : (n : ℕ) (v : View) (h : Header) (es : List ℕ) (ps : List StoredPage) → 2 ≤ n → n ≤ block_limit → h.level ≤ most_number → Headed n h → map (λ p. p.block) ps ≡ es
    → entries_ok h.blocks (directory_blocks h) es ≡ true → BlockUse (recovered_store h ps)
unfolding recovered_store
read_use n v h es ps two most lvl g bs ok =
    let ds = directory_blocks h in
    let eok = subst (AllOf (λ d. (0 < d) × (d < h.blocks))) (sym bs) (entries_in h.blocks ds es ok) in
    let dok = subst (λ m. AllOf (λ d. (0 < d) × (d < m)) ds) (sym g.blocks) g.dirs in
    record {
      blocks = (omega (arith, g.blocks), omega (arith, g.blocks));
      cap = g.cap;
      level = lvl;
      taken = omega (arith, g.blocks);
      within = λ c u. in_all (λ d. (0 < d) × (d < h.blocks)) c (map (λ p. p.block) ps ++ ds) u (all_append _ (map (λ p. p.block) ps) ds eok dok);
      apart = λ b l. subst (λ z. z ≤ 1) (ap (how_many (eqb b)) (sym (loaded_blocks ps ∙ bs)) ∙ in_block_many b (map loaded ps))
          (many_distinct b es (entries_apart h.blocks ds es ok));
      phase = booked_loaded _ ps (all_in _ (map (λ p. p.block) ps) (λ b i. rw (in_append b (map (λ p. p.block) ps), i)));
    }

pub start_use : (n : ℕ) (v : View) (s : Store) → 2 ≤ n → n ≤ block_limit → AllSane v → Found n v s → BlockUse s
start_use n v s two most sane f =
    let h = f.head in
    subst BlockUse f.store (read_use n v h f.entries f.pages two most (head_range v h sane f.top).0 (headed n h f.head_ok)
    (read_blocks v h.level f.entries f.pages f.read) f.entries_ok)

-- the transactions of its rows are open, and nothing runs
pub start_active : (n : ℕ) (v : View) (s : Store) → Found n v s → rows s.pages ≡ held s.pages → (u : ℕ)
    → is_in u (open_numbers s.active) ≡ any (is_own u) (rows s.pages)
start_active n v s f e u = subst (λ z. rows z.pages ≡ held z.pages → is_in u (open_numbers z.active) ≡ any (is_own u) (rows z.pages)) f.store loaded_active e
  where
    loaded_active : rows (recovered_store f.head f.pages).pages ≡ held (recovered_store f.head f.pages).pages
        → is_in u (open_numbers (recovered_store f.head f.pages).active) ≡ any (is_own u) (rows (recovered_store f.head f.pages).pages)
    loaded_active = unfold recovered_store in λ e. ap (is_in u) (numbers_reopened (rows_of_pages f.pages) (transactions (rows_of_pages f.pages)))
        ∙ in_transactions u (rows_of_pages f.pages) ∙ ap (any (is_own u)) (sym (e ∙ loaded_held f.pages))

-- each open transaction is listed once
pub start_distinct : (n : ℕ) (v : View) (s : Store) → Found n v s → distinct (open_numbers s.active) ≡ true
unfolding recovered_store
start_distinct n v s f =
    let rs = rows_of_pages f.pages in
    ap (λ z. distinct (open_numbers z.active)) (sym f.store) ∙ ap distinct (numbers_reopened rs (transactions rs)) ∙ transactions_distinct rs

pub start_idle : (n : ℕ) (v : View) (s : Store) → Found n v s → s.checkpoint ≡ idle
unfolding recovered_store
start_idle n v s f = ap (λ z. z.checkpoint) (sym f.store)
