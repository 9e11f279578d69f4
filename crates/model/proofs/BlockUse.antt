-- The blocks in use, the block last taken, and the entries and directory blocks of a running checkpoint: an invariant of the store alone.
use Rattle.basics.proofs.Kit.{◌≡◌, refl, sym, ap, ◌∙◌, subst, ap₂, Bool, true, false, some, none, List, [], ◌∷◌, ◌++◌, append-nil, map, tail, ℕ, suc, ◌+◌, ◌≤◌, ◌<◌, ◌-◌, leb, eqb}
use Rattle.basics.proofs.Kit.{ltb, length, length-append, length-map, arith}
use Rattle.basics.specs.Basics.{is_in, any, if'◌then◌else◌, how_many, sum, first}
use Rattle.basics.proofs.Facts.{by, AllOf, lie, by-option}
use Rattle.block_forms.specs.Limits.{most_number, block_limit}
use Rattle.image.specs.Stages.{is_zero, directories_for, capacity_limit}
use Rattle.model.specs.State.{Page, Store, Checkpoint, idle, running, Held, Active}
use Rattle.model.specs.Rules.{is_dirty, fresh, freeze, is_frozen}
use Rattle.model.specs.Transactions.{changed, gives}
use Rattle.model.specs.Checkpoint.{fill, free_count, is_free, is_running, begin_call, with_progress, blocks_needed, store_page, made, allocate, store_directory, store_header, step_at, step_of}
use Rattle.model.specs.Calls.{TransactionCall, transact, Call, transacts, begins, steps, runs, call}
use Rattle.model.specs.Checkpoint.{used_and}
use Rattle.basics.proofs.Elements.{eqb-true, not_zero, pos_not_zero, in_head, in_weak, leb-false, leb-true, eqb_self, many_append, in_all}
use Rattle.basics.proofs.Elements.{all_map, eqb_sym, all_append, all_two, in_append}
use Rattle.basics.proofs.Members.{test_other, fails_not_in, one_many, not_in_many}
use Rattle.model.proofs.Frozen.{images, images_first, images_thaw, Content, images_none, images_moves}
use Rattle.model.proofs.Pages.{all_thaw, all_moves}
use Rattle.model.proofs.Totals.{sum_thaw, sum_moves}
use Rattle.model.proofs.Alloc.{Fresh, allocate_fresh, count_one, used_new, used_old}
use Rattle.model.proofs.Effects.{unless_keeps}
use Rattle.model.proofs.NoStores.{no_stores, step_keeps, run_keeps}
use Rattle.model.proofs.Moves.{still_frozen}

-- ---- entries: 0 stands for a page still to be written

pub in_fill : (b x : ℕ) (es : List ℕ) → 0 < x → eqb x b ≡ false → is_in x (fill b es) ≡ is_in x es
unfolding is_in any fill if'◌then◌else◌
in_fill b x [] p h = refl
in_fill b x (e ∷ es) p h =
    by (eqb e 0)
    (λ k. let z = eqb-true e 0 k in by (eqb x e) (λ i. let y = eqb-true x e i in absurd (omega arith)) (λ i. rw (k, i, h, any)))
    (λ k. by (eqb x e) (λ i. rw (k, i, any)) (λ i. rw (k, i, any) (in_fill b x es p h)))

pub all_fill : (P : ℕ → Type 0) (b : ℕ) (es : List ℕ) → P b → AllOf P es → AllOf P (fill b es)
unfolding fill if'◌then◌else◌
all_fill P b [] p a = tt
all_fill P b (e ∷ es) p a = by (eqb e 0) (λ k. rw k (p, a.1)) (λ k. rw k (a.0, all_fill P b es p a.1))

pub length_fill : (b : ℕ) (es : List ℕ) → length (fill b es) ≡ length es
unfolding fill if'◌then◌else◌
length_fill b [] = refl
length_fill b (e ∷ es) = by (eqb e 0) (λ k. rw k) (λ k. rw (k, length_fill b es))

-- ---- the invariant

-- a frozen page is dirty, and the block of a clean page is one of the pool
abbrev pub Booked : (ℕ → Bool) → Page → Type 0
Booked pool p = (p.frozen ≡ true → is_dirty p ≡ true) × (is_dirty p ≡ false → pool p.block ≡ true)

pub record Running (n : ℕ) (es ds : List ℕ) (s : Store) : Type 0 where
  pub level : s.level < most_number
  pub number : n ≤ s.next
  pub entries : length es ≤ s.capacity
  pub waiting : how_many is_zero es ≡ length (images s.pages)
  pub late : 0 < length ds → images s.pages ≡ []
  pub directories : length ds ≤ directories_for (length es)
  pub named : AllOf (λ e. 0 < e → s.used e ≡ true) es
  pub directories_used : AllOf (λ d. s.used d ≡ true) ds
  pub once : (b : ℕ) → 0 < b → how_many (eqb b) (es ++ ds) ≤ 1
  pub booked : AllOf (Booked (λ b. is_in b es)) s.pages
  pub room : length (images s.pages) + (directories_for (length es) - length ds) ≤ free_count s

-- 1 for a page in block b
unfoldable pub in_block : ℕ → Page → ℕ
in_block b p = if' eqb b p.block then 1 else 0

-- the blocks that clean pages may have
abbrev pub pool_of : Checkpoint → Store → ℕ → Bool
pool_of idle s b = s.used b
pool_of (running n es ds) s b = is_in b es

abbrev pub Ledger : Checkpoint → Store → Type 0
Ledger idle s = AllOf (Booked s.used) s.pages
Ledger (running n es ds) s = Running n es ds s

pub record BlockUse (s : Store) : Type 0 where
  pub blocks : (2 ≤ s.blocks) × (s.blocks ≤ block_limit)
  pub cap : (1 ≤ s.capacity) × (s.capacity ≤ capacity_limit)
  pub level : s.level ≤ most_number
  pub taken : s.taken < s.blocks
  pub within : (c : ℕ) → s.used c ≡ true → (0 < c) × (c < s.blocks)
  pub apart : (b : ℕ) → 0 < b → sum (in_block b) s.pages ≤ 1
  pub phase : Ledger s.checkpoint s

-- ---- pages

booked_fresh : (pool : ℕ → Bool) (t : ℕ) (ts : List Held) → Booked pool (fresh t ts)
unfolding fresh is_dirty
booked_fresh pool t ts = (λ h. lie h, λ h. lie (sym h))

booked_frozen : (pool : ℕ → Bool) (p : Page) (ts : List Held) → p.frozen ≡ true → Booked pool p → Booked pool (still_frozen p ts)
unfolding still_frozen is_dirty
booked_frozen pool p ts h q = (λ k. q.0 h, q.1)

pub booked_more : (pool pool' : ℕ → Bool) (p : Page) → ((b : ℕ) → 0 < b → pool b ≡ true → pool' b ≡ true) → Booked pool p → Booked pool' p
unfolding is_dirty
booked_more pool pool' p f q = (q.0, λ h. f p.block (not_zero p.block h) (q.1 h))

-- ---- entries

none_zero : how_many is_zero [] ≡ 0
unfolding how_many
none_zero = refl

zero_head : (e : ℕ) (es : List ℕ) → eqb e 0 ≡ true → how_many is_zero (e ∷ es) ≡ suc (how_many is_zero es)
unfolding how_many is_zero if'◌then◌else◌
zero_head e es h = rw h

zero_past : (e : ℕ) (es : List ℕ) → eqb e 0 ≡ false → how_many is_zero (e ∷ es) ≡ how_many is_zero es
unfolding how_many is_zero if'◌then◌else◌
zero_past e es h = rw h

-- the first entry that waits is filled
zeros_fill : (b : ℕ) (es : List ℕ) → 0 < b → 0 < how_many is_zero es → suc (how_many is_zero (fill b es)) ≡ how_many is_zero es
unfolding fill if'◌then◌else◌
zeros_fill b [] p h = absurd (omega (arith, none_zero, h))
zeros_fill b (e ∷ es) p h =
    by (eqb e 0) (λ k. rw k (ap suc (zero_past b es (pos_not_zero b p)) ∙ sym (zero_head e es k)))
    (λ k. rw k (ap suc (zero_past e (fill b es) k) ∙ zeros_fill b es p (subst (λ z. 0 < z) (zero_past e es k) h) ∙ sym (zero_past e es k)))

filled : (b : ℕ) (es : List ℕ) → 0 < how_many is_zero es → is_in b (fill b es) ≡ true
unfolding fill if'◌then◌else◌
filled b [] h = absurd (omega (arith, none_zero, h))
filled b (e ∷ es) h =
    by (eqb e 0) (λ k. rw k (in_head b es))
    (λ k. rw k (in_weak b e (fill b es) (filled b es (subst (λ z. 0 < z) (zero_past e es k) h))))

none_waiting : (es : List ℕ) → how_many is_zero es ≡ 0 → AllOf (λ e. 0 < e) es
none_waiting [] h = tt
none_waiting (e ∷ es) h =
    by (eqb e 0) (λ k. absurd (omega (arith, zero_head e es k)))
    (λ k. (not_zero e k, none_waiting es (sym (zero_past e es k) ∙ h)))

many_filled : (b i : ℕ) (es : List ℕ) → how_many (eqb b) (fill i es) ≤ how_many (eqb b) es + (if' eqb b i then 1 else 0)
unfolding fill how_many if'◌then◌else◌
many_filled b i [] = omega arith
many_filled b i (e ∷ es) =
    by (eqb e 0)
    (λ k. by (eqb b i) (λ u. by (eqb b e) (λ w. rw (k, u, w) (omega arith)) (λ w. rw (k, u, w) (omega arith)))
    (λ u. by (eqb b e) (λ w. rw (k, u, w) (omega arith)) (λ w. rw (k, u, w) (omega arith))))
    (λ k. let l = many_filled b i es in by (eqb b e) (λ w. rw (k, w) (omega arith)) (λ w. rw (k, w) l))

-- ---- pages in a block

in_block_fresh : (b : ℕ) → 0 < b → (t : ℕ) (ts : List Held) → in_block b (fresh t ts) ≡ 0
unfolding in_block fresh if'◌then◌else◌
in_block_fresh b h t ts = rw (pos_not_zero b h)

in_block_frozen : (b : ℕ) (p : Page) (ts : List Held) → p.frozen ≡ true → in_block b (still_frozen p ts) ≡ in_block b p
unfolding in_block still_frozen
in_block_frozen b p ts h = refl

-- no clean page stands in a block that is not in the pool
in_block_none : (pool : ℕ → Bool) (i : ℕ) → 0 < i → pool i ≡ false → (ps : List Page) → AllOf (Booked pool) ps → sum (in_block i) ps ≡ 0
unfolding sum in_block is_dirty if'◌then◌else◌
in_block_none pool i h n [] a = refl
in_block_none pool i h n (p ∷ ps) a =
    let l = in_block_none pool i h n ps a.1 in
    by (eqb i p.block)
    (λ k. let e = eqb-true i p.block k in lie (sym n ∙ ap pool e ∙ a.0.1 (pos_not_zero p.block (subst (λ z. 0 < z) e h))))
    (λ k. rw k (omega arith))

pub in_block_many : (b : ℕ) (ps : List Page) → how_many (eqb b) (map (λ p. p.block) ps) ≡ sum (in_block b) ps
unfolding how_many sum in_block if'◌then◌else◌
in_block_many b [] = refl
in_block_many b (p ∷ ps) = let e = in_block_many b ps in by (eqb b p.block) (λ k. rw k (omega arith)) (λ k. rw k (omega arith))

in_block_clean : (b i : ℕ) (p : Page) → in_block b (record { table = p.table; block = i; frozen = false; tuples = p.tuples }) ≤ (if' eqb b i then 1 else 0)
unfolding in_block
in_block_clean b i p = omega arith

-- ---- calls that make no store

phase_kept : (s : Store) (nx : ℕ) (ps : List Page) (os : List Active) → s.next ≤ nx → images ps ≡ images s.pages → (c : Checkpoint)
    → (AllOf (Booked (pool_of c s)) s.pages → AllOf (Booked (pool_of c s)) ps) → Ledger c s → Ledger c (changed s nx ps os)
unfolding changed free_count is_free
phase_kept s nx ps os m e idle k ph = k ph
phase_kept s nx ps os m e (running n es ds) k r =
    record {
      level = r.level;
      number = omega (arith, r.number);
      entries = r.entries;
      waiting = rw e r.waiting;
      late = λ h. e ∙ r.late h;
      directories = r.directories;
      named = r.named;
      directories_used = r.directories_used;
      once = r.once;
      booked = k r.booked;
      room = rw e r.room;
    }

call_use : (c : TransactionCall) (s : Store) → BlockUse s → BlockUse (transact c s).store
call_use c s b =
    let pool : ℕ → Bool = pool_of s.checkpoint s in
    let k = no_stores s c in
    subst BlockUse (sym k.eq) (unfold changed in record {
      blocks = b.blocks;
      cap = b.cap;
      level = b.level;
      taken = b.taken;
      within = b.within;
      apart = λ c l. let m = k.moved _ (sum_moves (in_block c) (in_block_fresh c l) (in_block_frozen c)) in omega (arith, b.apart c l);
      phase = phase_kept s k.next k.pages k.active k.more (k.moved _ images_moves) s.checkpoint
          (k.moved _ (all_moves (Booked pool) (booked_fresh pool) (booked_frozen pool))) b.phase;
    })

-- ---- begin

booked_begin : (pool : ℕ → Bool) (es : List ℕ) (ps : List Page) → AllOf (λ p. is_in p.block es ≡ true) ps → AllOf (Booked (λ b. is_in b es)) (map freeze ps)
unfolding freeze is_dirty
booked_begin pool es [] i = tt
booked_begin pool es (p ∷ ps) i = ((λ h. h, λ h. i.0), booked_begin pool es ps i.1)

zeros_dirty : (ps : List Page) → how_many is_zero (map (λ p. p.block) ps) ≡ how_many is_dirty ps
unfolding how_many is_zero is_dirty
zeros_dirty [] = refl
zeros_dirty (p ∷ ps) = rw (zeros_dirty ps)

named_begin : (used : ℕ → Bool) (ps : List Page) → AllOf (Booked used) ps → AllOf (λ e. 0 < e → used e ≡ true) (map (λ p. p.block) ps)
unfolding is_dirty
named_begin used [] a = tt
named_begin used (p ∷ ps) a = (λ h. a.0.1 (pos_not_zero p.block h), named_begin used ps a.1)

pub idle_of : (c : Checkpoint) → is_running c ≡ false → c ≡ idle
unfolding is_running
idle_of idle h = refl
idle_of (running n₀ es ds) h = lie (sym h)

pub below_most : (l : ℕ) → l ≤ most_number → eqb l most_number ≡ false → suc l ≤ most_number
below_most l h e =
    by (leb (suc l) most_number) (λ k. leb-true (suc l) most_number k)
    (λ k. let g = leb-false (suc l) most_number k in let q : l ≡ most_number = omega arith in lie (sym e ∙ ap (λ c. eqb c most_number) q ∙ eqb_self most_number))

pub in_own : (ps : List Page) → AllOf (λ p. is_in p.block (map (λ p. p.block) ps) ≡ true) ps
in_own [] = tt
in_own (p ∷ ps) = (in_head p.block _, all_map _ _ (λ q h. in_weak q.block p.block _ h) ps (in_own ps))

pub dirty_count : (ps : List Page) → how_many is_dirty ps ≡ length (images (map freeze ps))
unfolding how_many images freeze if'◌then◌else◌
dirty_count [] = refl
dirty_count (p ∷ ps) = by (is_dirty p) (λ h. rw (h, dirty_count ps)) (λ h. rw (h, dirty_count ps))

same_blocks : (b : ℕ) (ps : List Page) → sum (in_block b) (map freeze ps) ≡ sum (in_block b) ps
unfolding sum in_block freeze
same_blocks b [] = refl
same_blocks b (p ∷ ps) = rw (same_blocks b ps)

begin_use : (s : Store) → length s.pages ≤ s.capacity → BlockUse s → BlockUse (begin_call s).store
unfolding begin_call gives with_progress free_count is_free blocks_needed
begin_use s few b =
    unless_keeps BlockUse _ s _ b (λ p.
    let i = idle_of s.checkpoint p.0 in
    let ph : AllOf (Booked s.used) s.pages = subst (λ c. Ledger c s) i b.phase in
    let enough = leb-false (suc (free_count s)) (blocks_needed s.pages) p.1.1.0 in
    record {
      blocks = b.blocks;
      cap = b.cap;
      level = b.level;
      taken = b.taken;
      within = b.within;
      apart = λ c l. rw (same_blocks c s.pages) (b.apart c l);
      phase = record {
        level = below_most s.level b.level p.1.0;
        number = omega arith;
        entries = rw (length-map s.pages) few;
        waiting = zeros_dirty s.pages ∙ dirty_count s.pages;
        late = λ h. absurd (omega arith);
        directories = omega arith;
        named = named_begin s.used s.pages ph;
        directories_used = tt;
        once = λ c l. rw (append-nil (map (λ p. p.block) s.pages), in_block_many c s.pages) (b.apart c l);
        booked = booked_begin s.used (map (λ p. p.block) s.pages) s.pages (in_own s.pages);
        room = rw (← dirty_count s.pages, length-map s.pages) (omega arith);
      };
    })

-- ---- step

-- the block taken is in use, and those before it still
pub within_more : (s : Store) (i : ℕ) → (0 < i) × (i < s.blocks) → ((c : ℕ) → s.used c ≡ true → (0 < c) × (c < s.blocks)) → (c : ℕ)
    → used_and i s.used c ≡ true
    → (0 < c) × (c < s.blocks)
within_more s i a f c h = by (eqb i c) (λ k. subst (λ z. (0 < z) × (z < s.blocks)) (eqb-true i c k) a) (λ k. f c (rw k at h))

-- what counted at most one, and none of the block taken, counts at most one
taken_once : (c i old : ℕ) {now : ℕ} → old ≤ 1 → (c ≡ i → old ≡ 0) → now ≤ old + (if' eqb c i then 1 else 0) → now ≤ 1
unfolding if'◌then◌else◌
taken_once c i old {now} l z h =
    by (eqb c i) (λ k. let e = z (eqb-true c i k) in let g : now ≤ old + 1 = (rw k at h) in omega arith) (λ k. let g : now ≤ old + 0 = (rw k at h) in omega arith)

module _ (s : Store) (b : BlockUse s) (n : ℕ) (es ds : List ℕ) (r : Running n es ds s) where
  page_use : (p : Page) → first is_frozen s.pages ≡ some p → BlockUse (store_page n es ds p s).store
  unfolding store_page made with_progress free_count is_free
  page_use p e =
      let ims = images_first s.pages p e in
      let is = tail (images s.pages) in
      let one : length (images s.pages) ≡ suc (length is) = ap length ims in
      let i = allocate s in
      let fr : Fresh s.blocks s.used i = allocate_fresh s b.taken (omega (arith, r.room)) in
      let off = fails_not_in s.used i es fr.pos fr.free r.named in
      let off' = fails_not_in s.used i ds fr.pos fr.free (all_map _ _ (λ d h q. h) ds r.directories_used) in
      let some_left : 0 < how_many is_zero es = omega (arith, r.waiting) in
      let cnt = count_one s i 1 (s.blocks - 1) in
      let z = zeros_fill i es fr.pos some_left in
      let pool : ℕ → Bool = λ c. is_in c (fill i es) in
      record {
        blocks = b.blocks;
        cap = b.cap;
        level = b.level;
        taken = fr.low;
        within = within_more s i (fr.pos, fr.low) b.within;
        apart = λ c l. taken_once c i (sum (in_block c) s.pages) (b.apart c l)
            (λ e. subst (λ z. sum (in_block z) s.pages ≡ 0) (sym e) (in_block_none (λ c. is_in c es) i fr.pos off s.pages r.booked))
            (sum_thaw (in_block c) (in_block_fresh c l) (in_block_frozen c) i (if' eqb c i then 1 else 0) s.pages (in_block_clean c i));
        phase = record {
          level = r.level;
          number = r.number;
          entries = rw (length_fill i es) r.entries;
          waiting = rw (images_thaw i s.pages) (omega (arith, r.waiting));
          late = λ h. absurd (later h ims);
          directories = rw (length_fill i es) r.directories;
          named = all_fill _ i es (λ q. used_new s i) (all_map _ _ (λ e h q. used_old s i e (h q)) es r.named);
          directories_used = all_map _ _ (λ d h. used_old s i d h) ds r.directories_used;
          once = λ c l. taken_once c i (how_many (eqb c) (es ++ ds)) (r.once c l)
              (λ e. subst (λ z. how_many (eqb z) (es ++ ds) ≡ 0) (sym e) (many_append (eqb i) es ds ∙ ap₂ (λ a b. a + b) (not_in_many i es off) (not_in_many i ds off')))
              (let m = many_filled c i es in omega (arith, many_append (eqb c) (fill i es) ds, many_append (eqb c) es ds));
          booked = all_thaw (Booked pool) (booked_fresh pool) (booked_frozen pool) i p s.pages e
              (λ h. (λ k. lie k, λ k. filled i es some_left))
              (all_map _ _ (λ q t. booked_more (λ c. is_in c es) pool q
              (λ c p h. in_fill i c es p (eqb_sym i c (test_other (λ c. is_in c es) c i h off)) ∙ h) t) s.pages r.booked);
          room = rw (images_thaw i s.pages, length_fill i es) (omega (arith, r.room));
        };
      }
    where
      later : {c : Content} {is : List Content} → 0 < length ds → images s.pages ≡ c ∷ is → ⊥
      later h e = let q = r.late h in let z : ◌≡◌ {A = ℕ} 0 1 = cc in omega arith

  directory_use : first is_frozen s.pages ≡ none → ltb (length ds) (directories_for (length es)) ≡ true → BlockUse (store_directory n es ds s).store
  unfolding store_directory made with_progress free_count is_free
  directory_use e lt =
      let few : length ds < directories_for (length es) = leb-true (suc (length ds)) (directories_for (length es)) lt in
      let i = allocate s in
      let fr : Fresh s.blocks s.used i = allocate_fresh s b.taken (omega (arith, r.room)) in
      let len : length (ds ++ i ∷ []) ≡ length ds + 1 = length-append ds (i ∷ []) in
      let off = fails_not_in s.used i es fr.pos fr.free r.named in
      let off' = fails_not_in s.used i ds fr.pos fr.free (all_map _ _ (λ d h q. h) ds r.directories_used) in
      let cnt = count_one s i 1 (s.blocks - 1) in
      record {
        blocks = b.blocks;
        cap = b.cap;
        level = b.level;
        taken = fr.low;
        within = within_more s i (fr.pos, fr.low) b.within;
        apart = b.apart;
        phase = record {
          level = r.level;
          number = r.number;
          entries = r.entries;
          waiting = r.waiting;
          late = λ h. images_none s.pages e;
          directories = rw len (omega arith);
          named = all_map _ _ (λ e h q. used_old s i e (h q)) es r.named;
          directories_used = all_append _ ds (i ∷ []) (all_map _ _ (λ d h. used_old s i d h) ds r.directories_used) (used_new s i, tt);
          once = λ c l. taken_once c i (how_many (eqb c) (es ++ ds)) (r.once c l)
              (λ e. subst (λ z. how_many (eqb z) (es ++ ds) ≡ 0) (sym e) (many_append (eqb i) es ds ∙ ap₂ (λ a b. a + b) (not_in_many i es off) (not_in_many i ds off')))
              (omega (arith, many_append (eqb c) es (ds ++ i ∷ []), many_append (eqb c) ds (i ∷ []), many_append (eqb c) es ds, one_many c i));
          booked = r.booked;
          room = rw len (omega (arith, r.room));
        };
      }

  header_use : first is_frozen s.pages ≡ none → BlockUse (store_header n es ds s).store
  unfolding store_header made with_progress
  header_use e =
      let ims = ap length (images_none s.pages e) in
      let pos = none_waiting es (r.waiting ∙ ims) in
      let eok : AllOf (λ e. (0 < e) × (e < s.blocks)) es = all_two (λ e. 0 < e) (λ e. 0 < e → s.used e ≡ true) _ (λ e p u. b.within e (u p)) es pos r.named in
      let dok : AllOf (λ d. (0 < d) × (d < s.blocks)) ds = all_map _ _ (λ d u. b.within d u) ds r.directories_used in
      record {
        blocks = b.blocks;
        cap = b.cap;
        level = omega (arith, r.level);
        taken = b.taken;
        within = λ c h. in_all (λ d. (0 < d) × (d < s.blocks)) c (es ++ ds) h (all_append _ es ds eok dok);
        apart = b.apart;
        phase = all_map _ _ (λ q t. booked_more (λ c. is_in c es) (λ c. is_in c (es ++ ds)) q (λ c p h. rw (in_append c es, h)) t) s.pages r.booked;
      }

pub step_use : (s : Store) → BlockUse s → BlockUse (step_at s.checkpoint s).store
unfolding step_at step_of gives if'◌then◌else◌
step_use s b = go s.checkpoint b.phase
  where
    go : (c : Checkpoint) → Ledger c s → BlockUse (step_at c s).store
    go idle ph = b
    go (running n es ds) r =
        by-option (first is_frozen s.pages)
        (λ e. rw (e, step_of) (by (ltb (length ds) (directories_for (length es)))
        (λ k. rw (k, if'◌then◌else◌) (directory_use s b n es ds r e k)) (λ k. rw (k, if'◌then◌else◌) (header_use s b n es ds r e))))
        (λ p e. rw (e, step_of) (page_use s b n es ds r p e))

-- ---- all calls

pub keeps_use : (c : Call) (s : Store) → length s.pages ≤ s.capacity → BlockUse s → BlockUse (call c s).store
unfolding call
keeps_use (transacts c) s few b = call_use c s b
keeps_use begins s few b = begin_use s few b
keeps_use (steps len) s few b = step_keeps BlockUse step_use len s b
keeps_use (runs limit len) s few b = run_keeps BlockUse step_use limit len s b
