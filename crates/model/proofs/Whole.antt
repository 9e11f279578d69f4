-- The invariant makes an idle store ready for a checkpoint, and a recovered store has it.
use Rattle.basics.proofs.Kit.{◌≡◌, refl, sym, ap, ◌∙◌, subst, true, false, List, [], ◌∷◌, map, ℕ, suc, ◌+◌, ◌≤◌, ◌<◌, leb, length, length-append, length-map, arith}
use Rattle.basics.specs.Basics.{if'◌then◌else◌, all, is_empty, any, is_in, every, distinct, sum, paired, how_many}
use Rattle.basics.proofs.Facts.{AllOf, lie, by, clash}
use Rattle.block_forms.specs.Block.{PageFits}
use Rattle.block_forms.specs.Limits.{record_space, most_number}
use Rattle.block_forms.specs.Tuple.{Tuple, AllFit, size, sizes, Fits, Owner, owner_size, committed, tentative}
use Rattle.block_forms.specs.declared.Header.{Header}
use Rattle.image_rows.specs.Rows.{rows_of, Row, is_own, open_limit, rows_ok, transactions, mark_ok, statement_ok, number, is_below, is_by, follows, starts_well}
use Rattle.image.specs.Stages.{StoredPage, rows_of_pages, capacity_limit}
use Rattle.image.specs.View.{View}
use Rattle.image.proofs.Collect.{length_rows}
use Rattle.model.specs.State.{Held, Page, Store, idle}
use Rattle.model.specs.Rules.{applied, live, is_removing, is_committing, without_pending, shown, held_size}
use Rattle.model.specs.Sight.{rows, held}
use Rattle.model.specs.Transactions.{open_numbers}
use Rattle.model.specs.Recover.{loaded, recovered_store, reopened}
use Rattle.model.specs.CrashRecovery.{content}
use Rattle.model.proofs.Views.{AllSane, Sane}
use Rattle.basics.proofs.Elements.{all_two, nonempty, all_in, le_true, all_true, here, all_map, all_mapped, has_some, all_append, Mem, there, all_mem, eqb_self, every_all, leb-true, all_split}
use Rattle.basics.proofs.Members.{pigeon}
use Rattle.model.proofs.Owners.{transactions_distinct, in_transactions, numbers_length, numbers_reopened, count_reopened}
use Rattle.model.proofs.Frozen.{images}
use Rattle.model.proofs.Recovery.{Found}
use Rattle.model.proofs.Inv.{Ready}
use Rattle.model.proofs.Start.{Read, loaded_held, head_range, headed, pages_read}
use Rattle.model.proofs.Sound.{NothingPending, PageOk, small}
use Rattle.model.proofs.Placing.{page_full}
use Rattle.model.proofs.Valid.{Valid, Opened, HeldOk, LiveOk, Counted}
use Rattle.model.proofs.Closing.{own_owner}
use Rattle.model.proofs.Keeps.{nothing_pending, all_free}
use Rattle.model.proofs.Tests.{order_tests, differ_distinct, paired_pairs, distinct_differ, all_heads}
use Rattle.model.proofs.Shown.{bare, shown_without_pending}

-- ---- nothing pending: what is held is live

live_bare : (ts : List Held) → AllOf NothingPending ts → live ts ≡ bare ts
unfolding live if'◌then◌else◌ applied is_removing is_committing
live_bare [] a = refl
live_bare (x ∷ xs) a = rw (a.0.1, live_bare xs a.1)

rows_free : (ps : List Page) → AllOf (λ p. p.frozen ≡ false) ps → AllOf PageOk ps → rows ps ≡ held ps
unfolding rows held
rows_free [] a b = refl
rows_free (p ∷ ps) a b = rw (live_bare p.tuples (b.0.1 a.0).0, rows_free ps a.1 b.1)

-- ---- ready

free_without_pending : (ps : List Page) → AllOf (λ p. p.frozen ≡ false) ps → AllOf PageOk ps
    → AllOf (λ p. (p.frozen ≡ false) × (shown p.tuples ≡ bare p.tuples)) ps
free_without_pending ps a b = all_two (λ p. p.frozen ≡ false) PageOk _ (λ p h o. (h, shown_without_pending p.tuples (nothing_pending p.tuples (o.1 h).0))) ps a b

page_some : (p : Page) → PageOk p → is_empty (content p).1 ≡ false
unfolding content
page_some p o = nonempty (bare p.tuples) (let y = length-map p.tuples (λ h. h.tuple) in let l = page_full p o in omega arith)

pages_few : (ps : List Page) → AllOf PageOk ps → length ps ≤ length (held ps)
pages_few [] a = omega arith
pages_few (p ∷ ps) a =
    let l = pages_few ps a.1 in
    let h = page_full p a.0 in
    let y = length-map p.tuples (λ h. h.tuple) in
    let e : length (held (p ∷ ps)) ≡ length (bare p.tuples) + length (held ps)
    = unfold held in length-append (rows_of p.table (bare p.tuples)) (held ps) ∙ ap (λ z. z + length (held ps)) (length_rows p.table (bare p.tuples)) in
    omega arith

pub few_pages : (s : Store) → Valid s → length s.pages ≤ s.capacity
few_pages s v = omega (arith, pages_few s.pages v.pages, v.has.few)

-- an own row's transaction is open
open_own : (tx : ℕ) (os : List ℕ) (rs : List Row) → AllOf (λ r. Opened os r.1.owner) rs → any (is_own tx) rs ≡ true → is_in tx os ≡ true
unfolding any
open_own tx os [] a h = lie h
open_own tx os (r ∷ rs) a h =
    by (is_own tx r) (λ k. let o = own_owner tx r k in subst (Opened os) o.1 a.0) (λ k. open_own tx os rs a.1 (rw (k, any) at h))

pub rows_tests : (most nx : ℕ) (os : List ℕ) (rs : List Row) → HeldOk most nx rs → LiveOk os rs → length os ≤ open_limit → rows_ok most nx rs ≡ true
unfolding rows_ok every
rows_tests most nx os rs h l few =
    let o = order_tests rs h.rising l.chain l.heads in
    let p = pigeon (transactions rs) os (transactions_distinct rs) (all_in _ (transactions rs) (λ x i. open_own x os rs l.open' (sym (in_transactions x rs) ∙ i))) in
    rw (
      o.0,
      o.1,
      differ_distinct rs h.differ,
      all_below,
      le_true (length rs) most h.few,
      le_true (length (transactions rs)) open_limit (omega arith),
      all_true mark_ok rs l.marked,
      all_true (statement_ok rs) rs l.counted,
    )
  where
    below : (r : Row) → (r.1.number < nx) × (r.0 ≤ 7) → is_below nx r ≡ true
    below r k = unfold is_below number in le_true (suc r.1.number) nx k.0

    all_below : all (is_below nx) rs ≡ true
    all_below = all_true (is_below nx) rs (all_map _ _ below rs h.known)

pub ready : (s : Store) → Valid s → s.checkpoint ≡ idle → Ready s
ready s v e =
    let free = all_free s.pages (v.still e) in
    let same = rows_free s.pages free v.pages in
    record {
      thawed = free_without_pending s.pages free v.pages;
      some = all_mapped (λ c. is_empty c.1 ≡ false) content s.pages (all_map PageOk _ page_some s.pages v.pages);
      ok = rows_tests s.capacity s.next (open_numbers s.active) (held s.pages) v.has
          (subst (LiveOk (open_numbers s.active)) same v.sees) (omega (arith, numbers_length s.active, v.opened));
      few = few_pages s v;
      most = v.nx;
      same = same;
    }

-- ---- recovered

-- what recovery knows of a page: its block was read
abbrev pub Tested : StoredPage → Type 0
Tested p = (p.table < 8) × AllFit p.tuples × (sizes p.tuples ≤ record_space) × (0 < length p.tuples)

pub tested : (v : View) (l : ℕ) → AllSane v → (p : StoredPage) → Read v l p → Tested p
tested v l sane p r =
    let f : PageFits p.table r.0 p.tuples = subst Sane r.1 (sane p.block) (λ m. clash cc) in
    (f.table, f.tuples, f.room, has_some p.tuples r.4)

without_pending_size : (ts : List Tuple) → sum held_size (map without_pending ts) ≡ sizes ts
unfolding sum held_size without_pending
without_pending_size [] = refl
without_pending_size (x ∷ xs) = rw (without_pending_size xs)

pub owner_size_lem : (o : Owner) → owner_size o ≤ 4
unfolding owner_size
owner_size_lem committed = omega arith
owner_size_lem (tentative t s) = omega arith

without_pending_small : (ts : List Tuple) → AllFit ts → AllOf NothingPending (map without_pending ts)
unfolding without_pending held_size size
without_pending_small [] a = tt
without_pending_small (x ∷ xs) a = let o = owner_size_lem x.owner in ((omega (arith, a.0.payload), refl), without_pending_small xs a.1)

loaded_ok : (p : StoredPage) → Tested p → PageOk (loaded p)
unfolding loaded
loaded_ok p t =
    let c = without_pending_small p.tuples t.1 in
    let z = without_pending_size p.tuples in
    let y = length-map p.tuples without_pending in
    (small (map without_pending p.tuples) c, λ h. (c, omega (arith, t.2), omega (arith, t.3)), λ h. lie h)

images_loaded : (ps : List StoredPage) → images (map loaded ps) ≡ []
unfolding images loaded if'◌then◌else◌
images_loaded [] = refl
images_loaded (p ∷ ps) = images_loaded ps

free_loaded : (ps : List StoredPage) → AllOf (λ p. p.frozen ≡ false) (map loaded ps)
unfolding loaded
free_loaded [] = tt
free_loaded (p ∷ ps) = (refl, free_loaded ps)

all_rows : (P : Row → Type 0) (Q : Tuple → Type 0) (t : ℕ) → ((x : Tuple) → Q x → P (t, x)) → (ts : List Tuple) → AllOf Q ts → AllOf P (rows_of t ts)
unfolding rows_of
all_rows P Q t f [] a = tt
all_rows P Q t f (x ∷ xs) a = (f x a.0, all_rows P Q t f xs a.1)

all_fit : (ts : List Tuple) → AllFit ts → AllOf Fits ts
all_fit [] a = tt
all_fit (x ∷ xs) a = (a.0, all_fit xs a.1)

-- every row of the pages is of a table, and its fields are in range
rows_tested : (ps : List StoredPage) → AllOf Tested ps → AllOf (λ r. (r.0 ≤ 7) × Fits r.1) (rows_of_pages ps)
unfolding rows_of_pages
rows_tested [] a = tt
rows_tested (p ∷ ps) a =
    all_append _ (rows_of p.table p.tuples) (rows_of_pages ps)
    (all_rows (λ r. (r.0 ≤ 7) × Fits r.1) Fits p.table (λ x f. (omega (arith, a.0.0), f)) p.tuples (all_fit p.tuples a.0.1)) (rows_tested ps a.1)

mem_any : (tx : ℕ) {r : Row} {qs : List Row} → Mem r qs → is_by tx r.1.owner ≡ true → any (is_own tx) qs ≡ true
unfolding any is_own
mem_any tx here h = rw (h, any)
mem_any tx (there {y} m) h = by (is_own tx y) (λ k. rw (k, any)) (λ k. rw (k, any) (mem_any tx m h))

-- the transactions of the rows are open
own_in : (rs : List Row) (os : List ℕ) → ((tx : ℕ) → any (is_own tx) rs ≡ true → is_in tx os ≡ true) → AllOf (λ r. Opened os r.1.owner) rs
own_in rs os f = all_mem _ rs (λ r m. go r.1.owner (λ tx h. f tx (mem_any tx m h)))
  where
    go : (o : Owner) → ((tx : ℕ) → is_by tx o ≡ true → is_in tx os ≡ true) → Opened os o
    go committed g = tt
    go (tentative t s) g = g t (unfold is_by in eqb_self t)

-- the tests on the rows, as the invariant has them
module _ (most nx : ℕ) (rs : List Row) (ok : rows_ok most nx rs ≡ true) where
  tests : AllOf (λ b. b ≡ true) (paired follows rs ∷ starts_well rs ∷ distinct (map number rs) ∷ all (is_below nx) rs ∷ leb (length rs) most
      ∷ leb (length (transactions rs)) open_limit ∷ all mark_ok rs ∷ all (statement_ok rs) rs ∷ [])
  tests = unfold rows_ok in every_all _ ok

  rows_below : AllOf (λ r. r.1.number < nx) rs
  unfolding is_below number
  rows_below = all_map (λ r. is_below nx r ≡ true) _ (λ r k. leb-true (suc r.1.number) nx k) rs (all_split (is_below nx) rs tests.1.1.1.0)

  tested_held : AllOf (λ r. r.0 ≤ 7) rs → HeldOk most nx rs
  tested_held low = record {
    rising = (paired_pairs rs tests.0).0;
    differ = distinct_differ rs tests.1.1.0;
    known = all_two _ _ _ (λ r a b. (a, b)) rs rows_below low;
    few = leb-true (length rs) most tests.1.1.1.1.0;
  }

  pub tested_live : LiveOk (transactions rs) rs
  tested_live = record {
    chain = (paired_pairs rs tests.0).1;
    counted = all_split (statement_ok rs) rs tests.1.1.1.1.1.1.1.0;
    marked = all_split mark_ok rs tests.1.1.1.1.1.1.0;
    heads = all_heads rs tests.0 tests.1.0;
    open' = own_in rs (transactions rs) (λ tx h. in_transactions tx rs ∙ h);
  }

  tested_few : length (transactions rs) ≤ open_limit
  tested_few = leb-true (length (transactions rs)) open_limit tests.1.1.1.1.1.0

-- every tuple held has its fields in range
abbrev pub Fitting : Store → Type 0
Fitting s = AllOf (λ r. Fits r.1) (held s.pages)

loaded_valid : (h : Header) (ps : List StoredPage) → h.next ≤ most_number → h.capacity ≤ capacity_limit
    → rows_ok h.capacity h.next (rows_of_pages ps) ≡ true → AllOf Tested ps → Valid (recovered_store h ps) × Counted (recovered_store h ps) × Fitting
    (recovered_store h ps)
unfolding recovered_store
loaded_valid h ps nx cap ok t =
    let rs = rows_of_pages ps in
    let e = loaded_held ps in
    let pages = all_mapped PageOk loaded ps (all_map Tested _ loaded_ok ps t) in
    let r = rows_tested ps t in (
      record {
        pages = pages;
        still = λ q. images_loaded ps;
        has = subst (HeldOk h.capacity h.next) (sym e) (tested_held h.capacity h.next rs ok (all_map _ _ (λ r k. k.0) rs r));
        sees = subst (λ z. LiveOk z (rows (map loaded ps))) (sym (numbers_reopened rs (transactions rs)))
            (subst (LiveOk (transactions rs)) (sym (rows_free (map loaded ps) (free_loaded ps) pages ∙ e)) (tested_live h.capacity h.next rs ok));
        opened = omega (
          arith,
          tested_few h.capacity h.next rs ok,
          numbers_length (map (reopened rs) (transactions rs)),
          ap length
              (numbers_reopened rs (transactions rs)),
        );
        nx = nx;
        cap = cap;
      },
      λ tx i. count_reopened rs tx (transactions rs) (ap (is_in tx) (sym (numbers_reopened rs (transactions rs))) ∙ i)
          ∙ ap (how_many (is_own tx)) (sym (rows_free (map loaded ps) (free_loaded ps) pages ∙ e)),
      subst (AllOf (λ r. Fits r.1)) (sym e) (all_map _ _ (λ r k. k.1) rs r),
    )

pub starts : (n : ℕ) (v : View) (s : Store) → AllSane v → Found n v s → Valid s × Counted s × Fitting s
starts n v s sane f =
    let h = f.head in
    subst (λ z. Valid z × Counted z × Fitting z) f.store
    (loaded_valid h f.pages (head_range v h sane f.top).1 (headed n h f.head_ok).cap.1 f.rows_ok
    (all_map (Read v h.level) Tested (tested v h.level sane) f.pages (pages_read v h.level f.entries f.pages f.read)))
