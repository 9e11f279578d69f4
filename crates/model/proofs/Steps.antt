-- One step of a running checkpoint keeps what holds, and writes a block whose fields are in range.
use Rattle.basics.proofs.Kit.{◌≡◌, refl, sym, ap, ◌∙◌, subst, ap₂, Bool, true, false, not, some, none, List, [], ◌∷◌, ◌++◌, map, tail, ℕ, suc, ◌*◌, ◌≤◌, ◌<◌, zero, min, eqb, ltb, length}
use Rattle.basics.proofs.Kit.{drop, get_or, length-map, arith, length-take}
use Rattle.basics.specs.Basics.{if'◌then◌else◌, all, first, is_in, any, every}
use Rattle.basics.proofs.Facts.{AllOf, lie, by}
use Rattle.block_forms.specs.Block.{page, Block, header, InRange, directory}
use Rattle.block_forms.specs.Limits.{record_space, block_limit, entries_per_block}
use Rattle.block_forms.specs.Tuple.{AllFit, sizes, Tuple}
use Rattle.block_forms.specs.declared.Header.{Header}
use Rattle.image_rows.specs.Rows.{rows_ok, transactions, is_own}
use Rattle.image.specs.Stages.{directories_for, block_ok, directory_blocks, is_zero, unused_numbers, StoredPage, capacity_limit, counts_ok, header_ok, entries_ok, read_directories, rows_of_pages, read_pages}
use Rattle.image.specs.View.{View}
use Rattle.model.specs.State.{Store, Outcome, Write, Page}
use Rattle.model.specs.Rules.{shown, is_dirty, is_frozen, without_pending}
use Rattle.model.specs.Sight.{held}
use Rattle.model.specs.Checkpoint.{storable, store_page, made, with_progress, allocate, fill, store_directory, header_for, store_header, block_entries, used_and}
use Rattle.model.specs.Recover.{loaded, recovered_store}
use Rattle.model.specs.CrashRecovery.{content}
use Rattle.model.specs.Checkpoints.{content_of}
use Rattle.model.proofs.Views.{put}
use Rattle.basics.proofs.Elements.{all_two, pos_not_zero, not_zero, first_all, first_passes, all_map, eqb-true, leb-true, all_take, all_drop, all_true, le_true, eqb_self, leb-false, eqb_sym}
use Rattle.model.proofs.Owners.{numbers_reopened, in_transactions}
use Rattle.model.proofs.Frozen.{Content, images, images_first, images_thaw, images_none}
use Rattle.model.proofs.Pages.{all_thaw}
use Rattle.model.proofs.Alloc.{Fresh, allocate_fresh, used_old}
use Rattle.model.proofs.BlockUse.{Booked, BlockUse, Running}
use Rattle.model.proofs.Recovery.{Found, read_blocks}
use Rattle.model.proofs.Stored.{Dirs, put_other, Stored, stored_fill, put_same, stored_put, dirs_snoc, dirs_put, end, todo, stands, stored_read, dirs_read, stored_written}
use Rattle.model.proofs.Inv.{Inv, Good, Tied, clean_pos, Run, good_put, good_more, named_fill, tied_fresh, tied_frozen, listed, listed_read, listed_held, Named}
use Rattle.model.proofs.Shown.{bare, shown_without_pending}
use Rattle.basics.proofs.Members.{zero_not_in, test_other, fails_not_in, once_distinct, once_left, once_right, once_off}

-- what the frozen pages show can be written
abbrev pub FrozenFit : Store → Type 0
FrozenFit s = AllOf (λ p. p.frozen ≡ true → (p.table < 8) × AllFit (shown p.tuples) × (sizes (shown p.tuples) ≤ record_space)) s.pages

-- what the frozen pages show has room in a block
abbrev pub FrozenSmall : Store → Type 0
FrozenSmall s = AllOf (λ p. p.frozen ≡ true → sizes (shown p.tuples) ≤ record_space) s.pages

pub storable_is : (ts : List Tuple) → sizes ts ≤ record_space → storable ts ≡ ts
unfolding storable if'◌then◌else◌
storable_is ts h = rw (le_true (sizes ts) record_space h)

-- the block x is the header of the store b, one level higher
pub record Top (x : Block) (b : Store) : Type 0 where
  pub head : Header
  pub is : x ≡ header head
  pub blocks : head.blocks ≡ b.blocks
  pub capacity : head.capacity ≡ b.capacity
  pub level : head.level ≡ suc b.level
  pub next : head.next ≡ b.next
  pub pages : head.pages ≡ length b.pages

pub data Stepped (n : ℕ) (img : View) (s b b₀ : Store) (o : Outcome) : Type 0 where
  still : o.writes ≡ [] → Inv n img o.store b b₀ → Stepped n img s b b₀ o
  wrote : (w : Write) → o.writes ≡ w ∷ [] → w.at < n → (n ≤ block_limit → FrozenFit s → InRange w.what) → (eqb w.at 0 ≡ true → Top w.what b)
      → (eqb w.at 0 ≡ false → (x : Block) → Good n (put img w.at x) s.used b₀)
      → Inv n (put img w.at w.what) o.store b (if' eqb w.at 0 then b else b₀) → Stepped n img s b b₀ o

no_dirs : (img : View) (l : ℕ) (es ds : List ℕ) → length ds ≡ 0 → Dirs img l es ds
no_dirs img l es [] h = tt
no_dirs img l es (d ∷ ds) h = absurd (omega arith)

none_yet' : {c : Content} (js is : List Content) (ds : List ℕ) → (0 < length ds → js ≡ []) → js ≡ c ∷ is → length ds ≡ 0
none_yet' js is [] f e = refl
none_yet' js is (d ∷ ds) f e = let k = f (omega arith) in let z : ◌≡◌ {A = ℕ} 0 1 = cc in absurd (omega arith)

-- the tie of a page to its block survives a store to another block
tied_put : (img : View) (l b : ℕ) (x : Block) (p : Page) → (0 < p.block → eqb b p.block ≡ false) → Tied img l p → Tied (put img b x) l p
tied_put img l b x p h t c = let u = t c in (u.0, put_other img b x p.block (h (clean_pos p c)) ∙ u.1, u.2, u.3)

-- to one that is no clean page's
tied_off : (img : View) (l b : ℕ) (x : Block) (pool : ℕ → Bool) (ps : List Page) → pool b ≡ false → AllOf (Booked pool) ps → AllOf (Tied img l) ps
    → AllOf (Tied (put img b x) l) ps
unfolding is_dirty
tied_off img l b x pool ps h =
    all_two (Booked pool) (Tied img l) (Tied (put img b x) l)
    (λ p q t. tied_put img l b x p (λ c. test_other pool p.block b (q.1 (pos_not_zero p.block c)) h) t) ps

pub page_step : (n : ℕ) (img : View) (s b b₀ : Store) (n₀ : ℕ) (es ds : List ℕ) (p : Page) → BlockUse s → Running n₀ es ds s → Inv n img s b b₀ → Run img s b n₀ es ds
    → FrozenSmall s → first is_frozen s.pages ≡ some p → Stepped n img s b b₀ (store_page n₀ es ds p s)
unfolding store_page made with_progress if'◌then◌else◌ is_frozen
page_step n img s b b₀ n₀ es ds p bk r inv run small₀ e =
    let ims = images_first s.pages p e in
    let is = tail (images s.pages) in
    let one : length (images s.pages) ≡ suc (length is) = ap length ims in
    let none_yet : length ds ≡ 0 = none_yet' (images s.pages) is ds r.late ims in
    let i = allocate s in
    let fr : Fresh s.blocks s.used i = allocate_fresh s bk.taken (omega (arith, r.room)) in
    let off = fails_not_in s.used i es fr.pos fr.free r.named in
    let L = suc s.level in
    let room : sizes (shown p.tuples) ≤ record_space
    = first_all is_frozen (λ p. p.frozen ≡ true → sizes (shown p.tuples) ≤ record_space) s.pages p e small₀ (first_passes is_frozen s.pages p e) in
    let x : Block = page p.table L (storable (shown p.tuples)) in
    let whole : x ≡ page p.table L (shown p.tuples) = ap (page p.table L) (storable_is (shown p.tuples) room) in
    let img' : View = put img i x in
    let g : (y : Block) → Good n (put img i y) s.used b₀ = λ y. good_put n img s.used b₀ i y fr.pos fr.free inv.good in
    let st : Stored img' L (fill i es) (map content b.pages) is
    = stored_fill i (p.table, shown p.tuples) (images s.pages) is ims fr.pos (omega arith) (put_same img i x ∙ whole) (stored_put i x off run.stored) in
    wrote (record { at = i; what = x }) refl (omega (arith, fr.low, inv.blocks))
    (λ small fit. let f = first_all is_frozen
    (λ p. p.frozen ≡ true → (p.table < 8) × AllFit (shown p.tuples) × (sizes (shown p.tuples) ≤ record_space)) s.pages p e fit
    (first_passes is_frozen s.pages p e) in
    subst InRange (sym whole) (record { table = f.0; level = omega (arith, r.level); tuples = f.1; room = f.2 }))
    (λ z. lie (sym (pos_not_zero i fr.pos) ∙ z))
    (λ h. g)
    (rw (pos_not_zero i fr.pos) (record {
      blocks = inv.blocks;
      good = good_more n img' s.used (used_and i s.used) b₀ (used_old s i) (g x);
      phase = record {
        base = run.base;
        stored = rw images_thaw st;
        dirs = no_dirs img' L (fill i es) ds none_yet;
        used = λ c h. used_old s i c (run.used c h);
        names = named_fill b.used i es _ (by (b.used i) (λ h. lie (sym fr.free ∙ run.used i h)) (λ h. h)) run.names;
        tied = all_thaw (Tied img' L) (tied_fresh img' L) (tied_frozen img' L) i p s.pages e
            (λ h c. (L, put_same img i x ∙ whole ∙ ap (page p.table L) (shown_without_pending p.tuples h), omega arith, omega arith))
            (tied_off img L i x (λ c. is_in c es) s.pages off r.booked run.tied);
      };
    }))

-- the entries of a running checkpoint are blocks of the view
entries_low : (s : Store) (es : List ℕ) → 0 < s.blocks → ((c : ℕ) → s.used c ≡ true → (0 < c) × (c < s.blocks))
    → AllOf (λ e. 0 < e → s.used e ≡ true) es
    → AllOf (λ e. e < s.blocks) es
entries_low s es z f a = all_map _ _ (λ e h. by (eqb e 0) (λ k. let q = eqb-true e 0 k in omega arith) (λ k. (f e (h (not_zero e k))).1)) es a

pub directory_step : (n : ℕ) (img : View) (s b b₀ : Store) (n₀ : ℕ) (es ds : List ℕ) → BlockUse s → Running n₀ es ds s → Inv n img s b b₀ → Run img s b n₀ es ds
    → first is_frozen s.pages ≡ none → ltb (length ds) (directories_for (length es)) ≡ true → Stepped n img s b b₀ (store_directory n₀ es ds s)
unfolding store_directory made with_progress if'◌then◌else◌
directory_step n img s b b₀ n₀ es ds bk r inv run e lt =
    let few : length ds < directories_for (length es) = leb-true (suc (length ds)) (directories_for (length es)) lt in
    let i = allocate s in
    let fr : Fresh s.blocks s.used i = allocate_fresh s bk.taken (omega (arith, r.room)) in
    let off = fails_not_in s.used i es fr.pos fr.free r.named in
    let off' = fails_not_in s.used i ds fr.pos fr.free (all_map _ _ (λ d h q. h) ds r.directories_used) in
    let L = suc s.level in
    let part = block_entries (length ds) es in
    let x : Block = directory L part in
    let img' : View = put img i x in
    let g : (y : Block) → Good n (put img i y) s.used b₀ = λ y. good_put n img s.used b₀ i y fr.pos fr.free inv.good in
    let tl : length part ≡ min entries_per_block (length (drop (entries_per_block * length ds) es)) = length-take entries_per_block (drop (entries_per_block * length ds) es) in
    wrote (record { at = i; what = x }) refl (omega (arith, fr.low, inv.blocks))
    (λ small fit. record {
      level = omega (arith, r.level);
      count = omega arith;
      entries = all_take _ entries_per_block (drop (entries_per_block * length ds) es) (all_drop _ (entries_per_block * length ds) es
          (all_map _ _ (λ e h. omega (arith, inv.blocks)) es (entries_low s es (omega (arith, fr.low)) bk.within r.named)));
    })
    (λ z. lie (sym (pos_not_zero i fr.pos) ∙ z))
    (λ h. g)
    (rw (pos_not_zero i fr.pos) (record {
      blocks = inv.blocks;
      good = good_more n img' s.used (used_and i s.used) b₀ (used_old s i) (g x);
      phase = record {
        base = run.base;
        stored = stored_put i x off run.stored;
        dirs = dirs_snoc img' L i es ds (put_same img i x) (dirs_put img L i x es ds off' run.dirs);
        used = λ c h. used_old s i c (run.used c h);
        names = run.names;
        tied = tied_off img L i x (λ c. is_in c es) s.pages off r.booked run.tied;
      };
    }))

-- ---- the header

blocks_ok : (n : ℕ) (ds : List ℕ) → AllOf (λ d. (0 < d) × (d < n)) ds → all (block_ok n) ds ≡ true
unfolding block_ok
blocks_ok n ds a = all_true (block_ok n) ds (all_map (λ d. (0 < d) × (d < n)) (λ d. block_ok n d ≡ true) (λ d h. rw (le_true 1 d h.0, le_true (suc d) n h.1)) ds a)

stored_length : {img : View} {l : ℕ} {es : List ℕ} {cs is : List Content} → Stored img l es cs is → length es ≡ length cs
stored_length end = refl
stored_length (todo r) = ap suc (stored_length r)
stored_length (stands k p q u v r) = ap suc (stored_length r)

-- what the header spells is what it was made for
header_numbers : (s : Store) (l n p : ℕ) (ds : List ℕ) → length ds ≤ 4
    → (directory_blocks (header_for s l n p ds) ≡ ds) × (all is_zero (unused_numbers (header_for s l n p ds)) ≡ true)
unfolding directory_blocks unused_numbers header_for all is_zero
header_numbers s l n p [] h = (refl, refl)
header_numbers s l n p (a ∷ []) h = (refl, refl)
header_numbers s l n p (a ∷ b ∷ []) h = (refl, refl)
header_numbers s l n p (a ∷ b ∷ c ∷ []) h = (refl, refl)
header_numbers s l n p (a ∷ b ∷ c ∷ d ∷ []) h = (refl, refl)
header_numbers s l n p (a ∷ b ∷ c ∷ d ∷ e ∷ ds) h = absurd (omega arith)

pub bare_without_pending : (ts : List Tuple) → bare (map without_pending ts) ≡ ts
unfolding without_pending
bare_without_pending [] = refl
bare_without_pending (x ∷ xs) = rw (bare_without_pending xs)

pub loaded_content : (ps : List StoredPage) → map content (map loaded ps) ≡ map content_of ps
unfolding content loaded content_of
loaded_content [] = refl
loaded_content (p ∷ ps) = rw (bare_without_pending p.tuples, loaded_content ps)

pub loaded_blocks : (ps : List StoredPage) → map (λ p. p.block) (map loaded ps) ≡ map (λ p. p.block) ps
unfolding loaded
loaded_blocks [] = refl
loaded_blocks (p ∷ ps) = rw (loaded_blocks ps)

module _ (n : ℕ) (img : View) (s b : Store) (n₀ : ℕ) (es ds : List ℕ) (bl : s.blocks ≡ n) (lim : (1 ≤ s.capacity) × (s.capacity ≤ capacity_limit))
    (r : Running n₀ es ds s) (run : Run img s b n₀ es ds)
    (ims : images s.pages ≡ []) (full : directories_for (length es) ≤ length ds) (eok : AllOf (λ e. (0 < e) × (e < s.blocks)) es)
    (dok : AllOf (λ d. (0 < d) × (d < s.blocks)) ds) where
  abbrev top : Header
  top = header_for s (suc s.level) n₀ (length es) ds

  few_pages : length es ≤ s.capacity
  few_pages = let len : length es ≡ length b.pages = stored_length run.stored ∙ length-map b.pages content in omega (arith, run.base.ready.few, run.base.capacity)

  all_dirs : length ds ≡ directories_for (length es)
  all_dirs = omega (arith, r.directories)

  few_dirs : length ds ≤ 4
  unfolding directories_for
  few_dirs = let f = few_pages in let a = all_dirs in omega (arith, lim.1)

  top_ok : header_ok n top ≡ true
  unfolding counts_ok header_ok every header_for
  top_ok =
      let hn = header_numbers s (suc s.level) n₀ (length es) ds few_dirs in
      let h1 : eqb s.blocks n ≡ true = rw bl (eqb_self n) in
      let h5 : eqb (length ds) (directories_for (length es)) ≡ true = rw all_dirs (eqb_self (directories_for (length es))) in
      let h6 : all (block_ok n) ds ≡ true = subst (λ m. all (block_ok m) ds ≡ true) bl (blocks_ok s.blocks ds dok) in
      let h7 = once_distinct ds (all_map _ _ (λ d h. h.0) ds dok) (once_right es ds r.once) in
      rw (h1, le_true 1 s.capacity lim.0, le_true s.capacity capacity_limit lim.1, le_true (length es) s.capacity few_pages, h5, hn.1, hn.0, h6, h7)

  top_entries : entries_ok s.blocks ds es ≡ true
  unfolding entries_ok every
  top_entries =
      let epos = all_map _ _ (λ d h. h.0) es eok in
      rw (
        blocks_ok s.blocks es eok,
        all_true (λ e. not (is_in e ds)) es (all_map _ _ (λ d h. ap not h) es (once_off es ds epos r.once)),
        once_distinct es epos (once_left es ds r.once),
      )

  header_good : Good n (put img 0 (header top)) (λ c. is_in c (es ++ ds)) b
  header_good =
      let img' : View = put img 0 (header top) in
      let L = suc s.level in
      let hn = header_numbers s L n₀ (length es) ds few_dirs in
      let epos = all_map _ _ (λ d h. h.0) es eok in
      let dpos = all_map _ _ (λ d h. h.0) ds dok in
      let t = stored_read ims run.base.ready.some (stored_put 0 (header top) (zero_not_in es epos) run.stored) in
      let dr : read_directories img' L (length es) ds ≡ some es = dirs_read img' L es ds (enough all_dirs)
      (dirs_put img L 0 (header top) es ds (zero_not_in ds dpos) run.dirs) in
      let rs : rows_of_pages t.0 ≡ held b.pages = sym (listed_read t.0) ∙ ap listed t.2 ∙ listed_held b.pages in
      let f : Found n img' (recovered_store top t.0) = made_found img' t.0 (put_same img 0 (header top)) hn.0 dr t.1
      (ap (rows_ok s.capacity n₀) rs ∙ rw (run.base.next, ← run.base.capacity) run.base.ready.ok) in
      made_good img' t.0 f hn.0 t.2 rs (read_blocks img' L es t.0 t.1)
    where
      enough : length ds ≡ directories_for (length es) → length es ≤ entries_per_block * length ds
      enough e = unfold directories_for in omega arith

      made_found : (img' : View) (ps : List StoredPage) → img' 0 ≡ header top → directory_blocks top ≡ ds
          → read_directories img' (suc s.level) (length es) ds ≡ some es
          → read_pages img' (suc s.level) es ≡ some ps → rows_ok s.capacity n₀ (rows_of_pages ps) ≡ true → Found n img' (recovered_store top ps)
      made_found img' ps z q dr rp ok = unfold header_for in record {
        head = top;
        entries = es;
        pages = ps;
        top = z;
        head_ok = top_ok;
        listed = rw q dr;
        entries_ok = rw q top_entries;
        read = rp;
        rows_ok = ok;
        store = refl;
      }

      made_good : (img' : View) (ps : List StoredPage) (f : Found n img' (recovered_store top ps)) → directory_blocks top ≡ ds
          → map content_of ps ≡ map content b.pages
          → rows_of_pages ps ≡ held b.pages → map (λ p. p.block) ps ≡ es → Good n img' (λ c. is_in c (es ++ ds)) b
      made_good img' ps f q c rs bs = unfold recovered_store header_for in record {
        back = recovered_store top ps;
        found = f;
        like = record {
          pages = loaded_content ps ∙ c;
          next = run.base.next;
          names = subst (λ z. Named b.used z (map (λ p. p.block) b.pages)) (sym (loaded_blocks ps ∙ bs)) run.names;
          active = λ tx. ap (is_in tx) (numbers_reopened _ _) ∙ ap (λ z. is_in tx (transactions z)) rs ∙ in_transactions tx (held b.pages)
              ∙ ap (any (is_own tx)) (sym run.base.ready.same);
        };
        names = λ c u. ap₂ (λ y z. is_in c (y ++ z)) (sym bs) (sym q) ∙ u;
      }

  header_top : Top (header top) b
  unfolding header_for
  header_top = record {
    head = top;
    is = refl;
    blocks = sym run.base.blocks;
    capacity = sym run.base.capacity;
    level = ap suc (sym run.base.level);
    next = run.base.next;
    pages = stored_length run.stored ∙ length-map b.pages content;
  }

  header_fits : s.blocks ≤ block_limit → InRange (header top)
  unfolding header_for
  header_fits m =
      let f = few_pages in
      let q = few_dirs in
      let low : AllOf (λ d. d < block_limit) ds = all_map _ _ (λ d h. omega (arith, h.1)) ds dok in (
        omega arith,
        (
          omega arith,
          (
            omega (arith, lim.1),
            (
              omega (arith, r.level),
              (
                omega (arith, run.base.next, run.base.ready.most),
                (
                  omega (arith, lim.1),
                  (
                    omega arith,
                    (low_at 0 ds low, (low_at 1 ds low, (low_at 2 ds low, (low_at 3 ds low, tt)))),
                  ),
                ),
              ),
            ),
          ),
        ),
      )
    where
      low_at : (i : ℕ) (ds : List ℕ) → AllOf (λ d. d < block_limit) ds → get_or ds i 0 < block_limit
      low_at i [] a = omega arith
      low_at zero (d ∷ ds) a = a.0
      low_at (suc i) (d ∷ ds) a = low_at i ds a.1

pub header_step : (n : ℕ) (img : View) (s b b₀ : Store) (n₀ : ℕ) (es ds : List ℕ) → BlockUse s → Running n₀ es ds s → Inv n img s b b₀ → Run img s b n₀ es ds
    → first is_frozen s.pages ≡ none → ltb (length ds) (directories_for (length es)) ≡ false → Stepped n img s b b₀ (store_header n₀ es ds s)
unfolding store_header made with_progress if'◌then◌else◌
header_step n img s b b₀ n₀ es ds bk r inv run e lt =
    let ims = images_none s.pages e in
    let L = suc s.level in
    let full : directories_for (length es) ≤ length ds = omega (arith, leb-false (suc (length ds)) (directories_for (length es)) lt) in
    let epos = stored_written ims run.stored in
    let eok : AllOf (λ e. (0 < e) × (e < s.blocks)) es = all_two (λ e. 0 < e) (λ e. 0 < e → s.used e ≡ true) _ (λ e p u. bk.within e (u p)) es epos r.named in
    let dok : AllOf (λ d. (0 < d) × (d < s.blocks)) ds = all_map _ _ (λ d u. bk.within d u) ds r.directories_used in
    let x = header (header_for s L n₀ (length es) ds) in
    wrote (record { at = 0; what = x }) refl (omega (arith, bk.taken, inv.blocks))
    (λ small fit. header_fits n img s b n₀ es ds inv.blocks bk.cap r run ims full eok dok (omega (arith, inv.blocks)))
    (λ z. header_top n img s b n₀ es ds inv.blocks bk.cap r run ims full eok dok)
    (λ h. lie (sym h))
    (record {
      blocks = inv.blocks;
      good = header_good n img s b n₀ es ds inv.blocks bk.cap r run ims full eok dok;
      phase = all_map _ _ (λ q t. tied_put img L 0 x q (λ c. eqb_sym q.block 0 (pos_not_zero q.block c)) t) s.pages run.tied;
    })
