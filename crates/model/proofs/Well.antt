-- A store is well formed exactly if it has the invariants; so a store made or recovered is, and every call keeps it.
use Rattle.block_forms.specs.Limits.{most_transaction, record_space}
use Rattle.basics.proofs.Kit.{◌≡◌, refl, sym, ◌∙◌, subst, Bool, true, false, ◌||◌, List, [], ◌∷◌, map, ℕ, suc, ◌+◌, ◌≤◌, ◌<◌, ◌-◌, leb, eqb, ltb, length, length-map, arith}
use Rattle.basics.specs.Basics.{all, paired, any, how_many, if'◌then◌else◌, sum, every, is_in, distinct, is_empty}
use Rattle.basics.proofs.Facts.{by, and_true, AllOf, lie, or_else}
use Rattle.block_forms.specs.Tuple.{Fits, AllFit, Tuple, size, Owner, committed, tentative}
use Rattle.image_rows.specs.Rows.{Row, is_lower, is_at, number, rows_of, is_below}
use Rattle.image.specs.Stages.{is_zero, directories_for}
use Rattle.model.specs.State.{Store, Page, Held, nothing, Checkpoint, idle, running, Pending, adding, committing, removing}
use Rattle.model.specs.Rules.{fits, held_size, is_frozen, is_dirty, shown, is_pending}
use Rattle.model.specs.Sight.{held, rows}
use Rattle.model.specs.Transactions.{open_numbers}
use Rattle.model.specs.Checkpoint.{free_count}
use Rattle.model.specs.Calls.{Call, Typed, call}
use Rattle.model.specs.WellFormed.{is_before, settled_ok, frozen_ok, page_well, dirty_or, owner_in, CheckpointWell, held_ok, open_ok, WellFormed}
use Rattle.basics.proofs.Elements.{leb-false, eqb_self, le_true, leb-true, Pairs, all_map, all_two, all_append, any_off, nonempty, and_both, in_all, not_zero, all_true, every_all}
use Rattle.basics.proofs.Elements.{off_any, not-true, has_some, all_split, pos_not_zero, pairs_map}
use Rattle.model.proofs.Owners.{numbers_length}
use Rattle.model.proofs.Splits.{Small}
use Rattle.model.proofs.Frozen.{images}
use Rattle.model.proofs.BlockUse.{BlockUse, keeps_use, in_block, Booked, Ledger, booked_more}
use Rattle.model.proofs.Sound.{PageOk, NothingPending}
use Rattle.model.proofs.Placing.{Before, page_full}
use Rattle.model.proofs.RowAfter.{at_split}
use Rattle.model.proofs.Valid.{Valid, Counted, Opened, HeldOk, held_sub, LiveOk}
use Rattle.model.proofs.Keeps.{keeps, all_free, nothing_pending, rows_sub}
use Rattle.model.proofs.Tests.{lower_before, before_trans, differ_distinct, distinct_differ}
use Rattle.model.proofs.Whole.{Fitting, few_pages, owner_size_lem, rows_tests, tested_live}
use Rattle.model.proofs.WriteCounts.{keeps_count}
use Rattle.model.proofs.Listed.{Listed, keeps_listed}
use Rattle.model.proofs.Range.{keeps_fits, page_rows}
use Rattle.model.proofs.Shown.{bare}
use Rattle.basics.proofs.Lists.{some_one, paired_true}

pub record Sound (s : Store) : Type 0 where
  pub valid : Valid s
  pub counted : Counted s
  pub fitting : Fitting s
  pub block_use : BlockUse s
  pub listed : Listed s

-- ---- every call keeps the invariants

pub keeps_sound : (c : Call) (s : Store) → Typed c → Sound s → Sound (call c s).store
keeps_sound c s t w =
    record {
      valid = keeps c s w.valid w.counted;
      counted = keeps_count c s w.valid w.counted;
      fitting = keeps_fits c s t w.valid w.counted w.fitting;
      block_use = keeps_use c s (few_pages s w.valid) w.block_use;
      listed = keeps_listed c s w.listed;
    }

-- ---- order

pub before_true : (r q : Row) → Before r q → is_before r q ≡ true
unfolding is_before is_lower is_at number
before_true r q h =
    by (ltb r.0 q.0) (λ k. rw k)
    (λ k. let e : r.0 ≡ q.0 = omega (arith, h.0, leb-false (suc r.0) q.0 k) in
    let w = h.1 (omega arith) in
    by (ltb r.1.key q.1.key) (λ m. rw (k, m, e, eqb_self q.0))
    (λ m. let f : r.1.key ≡ q.1.key = omega (arith, w.0, leb-false (suc r.1.key) q.1.key m) in
    rw (k, m, e, f, eqb_self q.0, eqb_self q.1.key) (le_true (suc r.1.number) q.1.number (w.1 (omega arith)))))

true_before : (r q : Row) → is_before r q ≡ true → Before r q
unfolding is_before number
true_before r q h =
    by (is_lower r q) (λ k. lower_before r q k)
    (λ k. let a = and_true (is_at q.0 q.1.key r) (ltb r.1.number q.1.number) (rw k at h) in
    let s = at_split q.0 q.1.key r a.0 in
    let l = leb-true (suc r.1.number) q.1.number a.1 in
    (omega (arith, s.0), λ u. (omega (arith, s.1), λ w. l)))

rising_paired : (rs : List Row) → Pairs Before rs → paired is_before rs ≡ true
rising_paired rs p = paired_true is_before rs (pairs_map Before _ rs (λ r q m n b. before_true r q b) p)

paired_rising : (rs : List Row) → paired is_before rs ≡ true → Pairs Before rs
unfolding paired
paired_rising [] h = tt
paired_rising (r ∷ []) h = (tt, tt)
paired_rising (r ∷ q ∷ rs) h =
    let k = and_true (is_before r q) (paired is_before (q ∷ rs)) h in
    let b = true_before r q k.0 in
    let p = paired_rising (q ∷ rs) k.1 in
    ((b, all_map (Before q) (Before r) (λ z c. before_trans r q z b c) rs p.0), p)

-- ---- lists of tuples and of pages

fields_fit : (rs : List Row) → AllOf (λ r. Fits r.1) rs → AllFit (map (λ r. r.1) rs)
fields_fit [] a = tt
fields_fit (r ∷ rs) a = (a.0, fields_fit rs a.1)

fit_fields : (rs : List Row) → AllFit (map (λ r. r.1) rs) → AllOf (λ r. Fits r.1) rs
fit_fields [] a = tt
fit_fields (r ∷ rs) a = (a.0, fit_fields rs a.1)

-- a property of a page's rows
page_all : (P : Page → Type 0) (R : Row → Type 0) → ((p : Page) → AllOf (λ x. R (p.table, x)) (bare p.tuples) → P p) → (ps : List Page)
    → AllOf R (held ps) → AllOf P ps
unfolding held
page_all P R f [] a = tt
page_all P R f (p ∷ ps) a =
    let r = page_rows R p.table (bare p.tuples) (held ps) a in (f p r.0, page_all P R f ps r.1)

pages_tables : (ps : List Page) → AllOf PageOk ps → AllOf (λ r. r.0 ≤ 7) (held ps) → AllOf (λ p. p.table ≤ 7) ps
pages_tables ps o a =
    all_two (λ p. 0 < length (bare p.tuples) → p.table ≤ 7) PageOk _
    (λ p f k. f (let y = length-map p.tuples (λ h. h.tuple) in let l = page_full p k in omega arith)) ps
    (page_all _ (λ r. r.0 ≤ 7) (λ p b l. some_one (p.table ≤ 7) (λ x. p.table ≤ 7) (bare p.tuples) l b (λ x q. q)) ps a) o

rows_table : (t : ℕ) (ts : List Tuple) → t ≤ 7 → AllOf (λ r. r.0 ≤ 7) (rows_of t ts)
unfolding rows_of
rows_table t [] h = tt
rows_table t (x ∷ xs) h = (h, rows_table t xs h)

tables_held : (ps : List Page) → AllOf (λ p. p.table ≤ 7) ps → AllOf (λ r. r.0 ≤ 7) (held ps)
unfolding held
tables_held [] a = tt
tables_held (p ∷ ps) a = all_append _ (rows_of p.table (bare p.tuples)) (held ps) (rows_table p.table (bare p.tuples) a.0) (tables_held ps a.1)

small_held : (hs : List Held) → AllOf Fits (bare hs) → AllOf Small hs
unfolding held_size size
small_held [] a = tt
small_held (h ∷ hs) a = let o = owner_size_lem h.tuple.owner in (omega (arith, a.0.payload), small_held hs a.1)

-- ---- frozen pages

pub many_frozen : (ps : List Page) → how_many is_frozen ps ≡ length (images ps)
unfolding how_many is_frozen images if'◌then◌else◌
many_frozen [] = refl
many_frozen (p ∷ ps) = by p.frozen (λ h. rw (h, many_frozen ps)) (λ h. rw (h, many_frozen ps))

no_images : (ps : List Page) → any is_frozen ps ≡ false → images ps ≡ []
unfolding any is_frozen images if'◌then◌else◌
no_images [] h = refl
no_images (p ∷ ps) h = by p.frozen (λ k. lie (sym (rw (k, any) at h))) (λ k. rw k (no_images ps (rw (k, any) at h)))

none_frozen : (ps : List Page) → images ps ≡ [] → any is_frozen ps ≡ false
unfolding any is_frozen
none_frozen ps e = any_off is_frozen ps (unfold is_frozen in all_free ps e)

in_block_many : (b : ℕ) (ps : List Page) → how_many (λ p. eqb b p.block) ps ≡ sum (in_block b) ps
unfolding how_many sum in_block if'◌then◌else◌
in_block_many b [] = refl
in_block_many b (p ∷ ps) = let e = in_block_many b ps in by (eqb b p.block) (λ k. rw k (omega arith)) (λ k. rw k (omega arith))

-- ---- a sound store is well formed

settled_true : (hs : List Held) → AllOf NothingPending hs × (sum held_size hs ≤ record_space) × (0 < length hs) → settled_ok hs ≡ true
unfolding settled_ok every fits
settled_true hs f = rw (nonempty hs f.2, le_true (sum held_size hs) record_space f.1, nothing_pending hs f.0)

frozen_true : (p : Page) → is_dirty p ≡ true → (sum size (shown p.tuples) ≤ record_space) × (0 < length (shown p.tuples)) → frozen_ok p ≡ true
unfolding frozen_ok every
frozen_true p d w = rw (d, nonempty (shown p.tuples) w.1, le_true (sum size (shown p.tuples)) record_space w.0)

page_true : (p : Page) → p.table ≤ 7 → (p.frozen ≡ true → is_dirty p ≡ true) → PageOk p → page_well p ≡ true
unfolding page_well if'◌then◌else◌
page_true p t d o =
    by p.frozen (λ h. and_both (le_true p.table 7 t) (subst (λ b. (if' b then frozen_ok p else settled_ok p.tuples) ≡ true) (sym h) (frozen_true p (d h) (o.2 h))))
    (λ h. and_both (le_true p.table 7 t) (subst (λ b. (if' b then frozen_ok p else settled_ok p.tuples) ≡ true) (sym h) (settled_true p.tuples (o.1 h))))

dirty_or_true : (f : ℕ → Bool) (p : Page) → (is_dirty p ≡ false → f p.block ≡ true) → dirty_or f p ≡ true
unfolding dirty_or
dirty_or_true f p h = by (is_dirty p) (λ k. rw k) (λ k. rw k (h k))

owner_true : (os : List ℕ) (o : Owner) → Opened os o → owner_in os o ≡ true
unfolding owner_in
owner_true os committed h = refl
owner_true os (tentative t s) h = h

booked_used : (s : Store) → BlockUse s → AllOf (Booked s.used) s.pages
booked_used s b = go s.checkpoint b.phase
  where
    go : (c : Checkpoint) → Ledger c s → AllOf (Booked s.used) s.pages
    go idle ph = ph
    go (running n es ds) r =
        all_map _ _ (λ p q. booked_more (λ b. is_in b es) s.used p (λ b l h. in_all (λ e. 0 < e → s.used e ≡ true) b es h r.named l) q) s.pages r.booked

named_true : (used : ℕ → Bool) (e : ℕ) → (0 < e → used e ≡ true) → (is_zero e || used e) ≡ true
unfolding is_zero
named_true used e h = by (eqb e 0) (λ k. rw k) (λ k. rw k (h (not_zero e k)))

checkpoint_well : (s : Store) → Valid s → BlockUse s → CheckpointWell s.checkpoint s
checkpoint_well s v b = go s.checkpoint refl b.phase
  where
    go : (c : Checkpoint) → s.checkpoint ≡ c → Ledger c s → CheckpointWell c s
    go idle e ph = none_frozen s.pages (v.still e)
    go (running n es ds) e r =
        record {
          level = r.level;
          number = r.number;
          entries = r.entries;
          waiting = r.waiting ∙ sym (many_frozen s.pages);
          late = λ h. none_frozen s.pages (r.late (leb-true 1 (length ds) h));
          directories = r.directories;
          named = all_true _ es (all_map _ _ (named_true s.used) es r.named);
          directories_used = all_true _ ds r.directories_used;
          once = r.once;
          kept = all_true _ s.pages (all_map _ _ (λ p q. dirty_or_true (λ b. is_in b es) p q.1) s.pages r.booked);
          room = rw (many_frozen s.pages) r.room;
        }

held_true : (cap nx : ℕ) (rs : List Row) → HeldOk cap nx rs → held_ok cap nx rs ≡ true
unfolding held_ok every is_below number
held_true cap nx rs h =
    rw (
      rising_paired rs h.rising,
      differ_distinct rs h.differ,
      all_true (λ r. ltb r.1.number nx) rs (all_map _ _ (λ r k. le_true (suc r.1.number) nx k.0) rs h.known),
      le_true (length rs) cap h.few,
    )

opened_true : (os : List ℕ) → length os ≤ 64 → (distinct os ≡ true) × AllOf (λ tx. tx ≤ most_transaction) os → open_ok os ≡ true
unfolding open_ok every
opened_true os l o = rw (le_true (length os) 64 l, o.0, all_true (λ tx. leb tx most_transaction) os (all_map _ _ (λ tx k. le_true tx most_transaction k) os o.1))

pub well : (s : Store) → Sound s → WellFormed s
well s w =
    let v = w.valid in
    let b = w.block_use in
    let os = open_numbers s.active in
    let few : length os ≤ 64 = omega (arith, numbers_length s.active, v.opened) in
    let booked = booked_used s b in
    record {
      blocks = b.blocks;
      capacity = b.cap;
      level = b.level;
      next = v.nx;
      tuples = held_true s.capacity s.next (held s.pages) v.has;
      fields = fields_fit (held s.pages) w.fitting;
      live = rows_tests s.capacity s.next os (rows s.pages) (held_sub s.capacity s.next (rows_sub s.pages) v.has) v.sees few;
      owners = all_true _ (rows s.pages) (all_map _ _ (λ r h. owner_true os r.1.owner h) (rows s.pages) v.sees.open');
      opened = opened_true os few w.listed;
      counts = w.counted;
      pages = all_true page_well s.pages
          (all_two (λ p. (p.table ≤ 7) × (p.frozen ≡ true → is_dirty p ≡ true)) PageOk _ (λ p q o. page_true p q.0 q.1 o) s.pages
          (all_two (λ p. p.table ≤ 7) (Booked s.used) _ (λ p t q. (t, q.0)) s.pages
          (pages_tables s.pages v.pages (all_map _ _ (λ r k. k.1) (held s.pages) v.has.known)) booked)
          v.pages);
      clean = all_true _ s.pages (all_map _ _ (λ p q. dirty_or_true s.used p q.1) s.pages booked);
      apart = λ c l. rw (in_block_many c s.pages) (b.apart c l);
      used = b.within;
      taken = b.taken;
      checkpoint = checkpoint_well s v b;
    }

-- ---- a well-formed store is sound

without_pending_pending : (o : Pending) → is_pending o ≡ false → o ≡ nothing
unfolding is_pending
without_pending_pending nothing h = refl
without_pending_pending adding h = lie (sym h)
without_pending_pending committing h = lie (sym h)
without_pending_pending removing h = lie (sym h)

true_settled : (hs : List Held) → AllOf Small hs → settled_ok hs ≡ true → AllOf NothingPending hs × (sum held_size hs ≤ record_space) × (0 < length hs)
unfolding settled_ok fits
true_settled hs a h =
    let q = every_all _ h in
    let off = off_any (λ h. is_pending h.pending) hs (not-true _ q.1.1.0) in (
      all_two Small (λ h. is_pending h.pending ≡ false) NothingPending (λ h k u. (k, without_pending_pending h.pending u)) hs a off,
      leb-true (sum held_size hs) record_space q.1.0,
      has_some hs (not-true (is_empty hs) q.0),
    )

true_frozen : (p : Page) → frozen_ok p ≡ true → (is_dirty p ≡ true) × (sum size (shown p.tuples) ≤ record_space) × (0 < length (shown p.tuples))
unfolding frozen_ok
true_frozen p h =
    let q = every_all _ h in
    (q.0, leb-true (sum size (shown p.tuples)) record_space q.1.1.0, has_some (shown p.tuples) (not-true (is_empty (shown p.tuples)) q.1.0))

-- what the test of a page says
record Page' (p : Page) : Type 0 where
  low : p.table ≤ 7
  still : p.frozen ≡ false → settled_ok p.tuples ≡ true
  icy : p.frozen ≡ true → frozen_ok p ≡ true

true_page : (p : Page) → page_well p ≡ true → Page' p
unfolding page_well if'◌then◌else◌
true_page p h =
    let q = and_true (leb p.table 7) (if' p.frozen then frozen_ok p else settled_ok p.tuples) h in
    record {
      low = leb-true p.table 7 q.0;
      still = λ e. subst (λ b. (if' b then frozen_ok p else settled_ok p.tuples) ≡ true) e q.1;
      icy = λ e. subst (λ b. (if' b then frozen_ok p else settled_ok p.tuples) ≡ true) e q.1;
    }

true_owner : (os : List ℕ) (o : Owner) → owner_in os o ≡ true → Opened os o
unfolding owner_in
true_owner os committed h = tt
true_owner os (tentative t s) h = h

page_ok : (p : Page) → AllOf Small p.tuples → Page' p → PageOk p
page_ok p a q = (a, λ e. true_settled p.tuples a (q.still e), λ e. let f = true_frozen p (q.icy e) in (f.1, f.2))

module _ (s : Store) (w : WellFormed s) where
  fitting : Fitting s
  fitting = fit_fields (held s.pages) w.fields

  tested_pages : AllOf Page' s.pages
  tested_pages = all_map _ _ true_page s.pages (all_split page_well s.pages w.pages)

  ok_pages : AllOf PageOk s.pages
  ok_pages = all_two (λ p. AllOf Small p.tuples) Page' PageOk page_ok s.pages
      (page_all _ (λ r. Fits r.1) (λ p a. small_held p.tuples a) s.pages fitting) tested_pages

  has : HeldOk s.capacity s.next (held s.pages)
  unfolding held_ok is_below number
  has =
      let q = every_all _ w.tuples in
      let rs = held s.pages in
      record {
        rising = paired_rising rs q.0;
        differ = distinct_differ rs q.1.0;
        known = all_two (λ r. ltb r.1.number s.next ≡ true) (λ r. r.0 ≤ 7) _ (λ r a b. (leb-true (suc r.1.number) s.next a, b)) rs
            (all_split _ rs q.1.1.0)
            (tables_held s.pages (all_map _ _ (λ p q. q.low) s.pages tested_pages));
        few = leb-true (length rs) s.capacity q.1.1.1.0;
      }

  sees : LiveOk (open_numbers s.active) (rows s.pages)
  sees =
      let l = tested_live s.capacity s.next (rows s.pages) w.live in
      record {
        chain = l.chain;
        counted = l.counted;
        marked = l.marked;
        heads = l.heads;
        open' = all_map _ _ (λ r h. true_owner (open_numbers s.active) r.1.owner h) (rows s.pages) (all_split _ (rows s.pages) w.owners);
      }

  ok_open : (length (open_numbers s.active) ≤ 64) × Listed s
  unfolding open_ok
  ok_open =
      let os = open_numbers s.active in
      let q = every_all _ w.opened in
      (leb-true (length os) 64 q.0, (q.1.0, all_map _ _ (λ tx k. leb-true tx most_transaction k) os (all_split _ os q.1.1.0)))

  no_frozen : s.checkpoint ≡ idle → images s.pages ≡ []
  no_frozen e = no_images s.pages (subst (λ c. CheckpointWell c s) e w.checkpoint)

  valid : Valid s
  valid = record {
    pages = ok_pages;
    still = no_frozen;
    has = has;
    sees = sees;
    opened = omega (arith, numbers_length s.active, ok_open.0);
    nx = w.next;
    cap = w.capacity.1;
  }

  booked : (f : ℕ → Bool) → all (dirty_or f) s.pages ≡ true → AllOf (Booked f) s.pages
  unfolding dirty_or
  booked f h =
      all_two Page' (λ p. (is_dirty p || f p.block) ≡ true) (Booked f)
      (λ p q k. (λ e. (true_frozen p (q.icy e)).0, λ e. or_else (is_dirty p) (f p.block) k e)) s.pages
      tested_pages (all_split _ s.pages h)

  phase : (c : Checkpoint) → CheckpointWell c s → Ledger c s
  phase idle k = booked s.used w.clean
  phase (running n es ds) r = record {
    level = r.level;
    number = r.number;
    entries = r.entries;
    waiting = r.waiting ∙ many_frozen s.pages;
    late = λ h. no_images s.pages (r.late (le_true 1 (length ds) h));
    directories = r.directories;
    named = all_map _ _ (λ e h l. or_else (is_zero e) (s.used e) h (unfold is_zero in pos_not_zero e l)) es (all_split _ es r.named);
    directories_used = all_split _ ds r.directories_used;
    once = r.once;
    booked = booked (λ b. is_in b es) r.kept;
    room = subst (λ z. z + (directories_for (length es) - length ds) ≤ free_count s) (many_frozen s.pages) r.room;
  }

  pub sound : Sound s
  sound = record {
    valid = valid;
    counted = w.counts;
    fitting = fitting;
    block_use = record {
      blocks = w.blocks;
      cap = w.capacity;
      level = w.level;
      taken = w.taken;
      within = w.used;
      apart = λ c l. rw
          (← in_block_many c s.pages) (w.apart c l);
      phase = phase s.checkpoint w.checkpoint;
    };
    listed = ok_open.1;
  }
