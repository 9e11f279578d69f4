-- A step: which store it makes, its tests, and what it answers.
use Rattle.block_forms.specs.Limits.{block_size}
use Rattle.basics.proofs.Kit.{◌≡◌, refl, sym, ap, ◌∙◌, subst, Bool, true, false, some, none, Option, List, [], ◌∷◌, ◌++◌, ℕ, suc, ◌+◌, ◌*◌, ◌≤◌, ◌<◌, ◌-◌, add-one, eqb, ltb, length, take}
use Rattle.basics.proofs.Kit.{drop, drop-drop, drop_of_length-le, lt-ltb, le-ltb, eqb-true, ne_eqb, eqb-false, arith}
use Rattle.basics.specs.Basics.{if'◌then◌else◌, how_many, first}
use Rattle.basics.proofs.Facts.{by, lie}
use Rattle.block_forms.specs.Block.{Block, header, page, directory, encode_block}
use Rattle.image.specs.Stages.{directories_for}
use Rattle.model.specs.State.{Held, Page, Checkpoint, idle, running, Store, Outcome}
use Rattle.model.specs.Rules.{is_frozen, shown}
use Rattle.model.specs.Transactions.{gives, unless}
use Rattle.model.specs.Checkpoint.{allocate, is_running, left, made, storable, page_stored, store_page, directory_stored, store_directory, header_for, header_stored, store_header, block_entries}
use Rattle.model.specs.Checkpoint.{step_of, step_at, bad_image, step_call}
use Rattle.model.specs.Recover.{put_block, image_after}
use Rattle.model.proofs.Laws.{step_at_lem}
use Rattle.basics.specs.Lists.{first_index}
use Rattle.memory_layout.specs.Flat.{flat_of}
use Rattle.memory_layout.specs.Store.{page_of, nest, holds_store, store_of, store_in, HoldsNow}
use Rattle.memory_layout.specs.declared.Entry.{Entry}
use Rattle.memory_layout.proofs.Laws.{blocks_is, level_is, store_pages, in_none, in_some, in_sound}
use Rattle.memory_layout.proofs.Exchange.{pages_count}
use Rattle.memory_pages.specs.Pages.{frozen_entry}
use Rattle.engine_pages.specs.Pages.{pages_of, page_at, entry_of, first_row}
use Rattle.memory_layout.specs.Elements.{rows_from}
use Rattle.engine_pages.specs.Pending.{FirstFrozen}
use Rattle.engine_pages.proofs.Places.{from_page, page_table_lem, tuples_are}
use Rattle.call_contracts.specs.Shape.{Answer, MemoryAfter, StoredBy, Stores, StoresAt}
use Rattle.call_contracts.specs.declared.Reply.TheVariants.{Count}
use Rattle.refusals.specs.declared.Refusal.{Refusal}
use Rattle.refusals.specs.Numbers.{number}
use Rattle.refusals.proofs.Numbers.{number_positive}
use Rattle.std.specs.Prelude.{Ok, Err}
use Rattle.call_contracts.proofs.Answering.{passed_4, stores_refused, stores_count}
use Rattle.call_checkpoint.specs.Keeping.{after_store, RunningIn, Ready, NoneFrozen, Effect, Steps, refusal_number, step_refusal}
use Rattle.engine_allocator.proofs.Tallies.{frozen_many}
use Rattle.call_checkpoint.proofs.Running.{running_is}
use Rattle.model.specs.State as model
use Rattle.basics.proofs.Firsts.{many_none, index_some, index_many}

-- ---- the first frozen page

index_nest : (es : List Entry) (hs : List Held) → first_index is_frozen (nest es hs) ≡ first_index frozen_entry es
unfolding first_index nest is_frozen page_of
index_nest [] hs = refl
index_nest (e ∷ es) hs = rw (index_nest es (drop e.count hs)) refl

-- of the page that was found by the entries
module _ (m : List ℕ) {p : ℕ} (e : p ≡ first_index frozen_entry (flat_of m).entries) where
  pub found_first : p ≡ first_index is_frozen (pages_of m)
  found_first = e ∙ sym (index_nest (flat_of m).entries (flat_of m).rows)

  -- only pages from the first frozen one on are frozen
  pub frozen_from : {r : ℕ} → r ≡ how_many frozen_entry (drop p (flat_of m).entries) → r ≡ how_many is_frozen (pages_of m)
  frozen_from q = q ∙ sym (frozen_many (flat_of m) p) ∙ index_many is_frozen p (pages_of m) found_first

module _ (m : List ℕ) where
  pub found_none : {p : ℕ} → p ≡ first_index is_frozen (pages_of m) → length (flat_of m).entries ≤ p → NoneFrozen m
  unfolding how_many
  found_none {p} e h =
      sym (index_many is_frozen p (pages_of m) e) ∙ ap (how_many is_frozen) (drop_of_length-le (pages_of m) {i = p} (omega (arith, pages_count (flat_of m))))

  pub frozen_all : {r : ℕ} → r ≡ how_many frozen_entry (flat_of m).entries → r ≡ how_many is_frozen (pages_of m)
  frozen_all e = e ∙ sym (frozen_many (flat_of m) 0)

-- ---- which store a step makes

module _ (s : Store) (n : ℕ) (es ds : List ℕ) (e : s.checkpoint ≡ running n es ds) where
  step_is : step_at s.checkpoint s ≡ step_of (first is_frozen s.pages) n es ds s
  unfolding step_at
  step_is = ap (λ (c : Checkpoint). step_at c s) e

  pub step_page : (q : Page) → first is_frozen s.pages ≡ some q
      → step_at s.checkpoint s ≡ made (allocate s) (page q.table (suc s.level) (storable (shown q.tuples))) (page_stored (allocate s) n es ds s)
  unfolding step_of store_page
  step_page q f = step_is ∙ ap (λ (o : Option Page). step_of o n es ds s) f

  module _ (f : first is_frozen s.pages ≡ none) where
    rest_is : step_at s.checkpoint s ≡ (if' ltb (length ds) (directories_for (length es)) then store_directory n es ds s else store_header n es ds s)
    unfolding step_of
    rest_is = step_is ∙ ap (λ (o : Option Page). step_of o n es ds s) f

    pub step_directory : length ds < directories_for (length es)
        → step_at s.checkpoint s ≡ made (allocate s) (directory (suc s.level) (block_entries (length ds) es)) (directory_stored (allocate s) n es ds s)
    unfolding if'◌then◌else◌ store_directory
    step_directory h =
        rest_is ∙ ap (λ (b : Bool). if' b then store_directory n es ds s else store_header n es ds s) (lt-ltb (length ds) (directories_for (length es)) h)

    pub step_header : directories_for (length es) ≤ length ds
        → step_at s.checkpoint s ≡ made 0 (header (header_for s (suc s.level) n (length es) ds)) (header_stored es ds s)
    unfolding if'◌then◌else◌ store_header
    step_header h =
        rest_is ∙ ap (λ (b : Bool). if' b then store_directory n es ds s else store_header n es ds s) (le-ltb (length ds) (directories_for (length es)) h)

-- ---- one block exchanged

pub back_is : (img part : List ℕ) (b : ℕ) → take (block_size * b) img ++ (part ++ drop (block_size * b + block_size - block_size * b) (drop (block_size * b) img)) ≡ put_block img b part
unfolding put_block
back_is img part b =
    let e : block_size * b + block_size - block_size * b ≡ block_size = omega arith in
    ap (λ (k : ℕ). take (block_size * b) img ++ (part ++ drop k (drop (block_size * b) img))) e
    ∙ ap (λ (z : List ℕ). take (block_size * b) img ++ (part ++ z)) (drop-drop block_size (block_size * b) img)

pub front_is : (img part : List ℕ) → part ++ drop block_size img ≡ put_block img 0 part
unfolding put_block
front_is img part = refl

does_made : {img m img' m' : List ℕ} (o : Outcome) (b : ℕ) (x : Block) (s : Store) → o ≡ made b x s → HoldsNow m m' s → img' ≡ put_block img b (encode_block x)
    → Effect o img m img' m'
unfolding made image_after
does_made {img} o b x s e l q =
    record {
      memory = record { size = l.size; store = l.store ∙ ap (λ (z : Outcome). some z.store) (sym e) };
      image = q ∙ ap (λ (z : Outcome). image_after z.writes img) (sym e);
    }

module _ {m : List ℕ} (r : RunningIn m) where
  runs : (store_of (flat_of m)).checkpoint ≡ running (flat_of m).head.begun (flat_of m).named (flat_of m).directories
  runs = (running_is (flat_of m) r.on).0

none_is : (m : List ℕ) → NoneFrozen m → first is_frozen (store_of (flat_of m)).pages ≡ none
none_is m h = ap (first is_frozen) (store_pages (flat_of m)) ∙ many_none is_frozen (pages_of m) h

module _ {img m img' m' part : List ℕ} (r : RunningIn m) where
  pub page_does : (p b t a e l : ℕ) → FirstFrozen m p → b ≡ allocate (store_of (flat_of m)) → t ≡ (entry_of m p).table → a ≡ first_row m p → e ≡ first_row m (p + 1)
      → l ≡ (flat_of m).head.level + 1 → part ≡ encode_block (page t l (storable (shown (rows_from m a e)))) → img' ≡ put_block img b part
      → HoldsNow m m' (after_store (page_stored b) (flat_of m)) → Steps img m img' m'
  page_does p b t a e l o eb et ea ee el ep ei k =
      let s : Store = store_of (flat_of m) in
      let q : Page = page_at m p in
      let e1 : q.table ≡ t = page_table_lem o.there ∙ sym et in
      let e2 : suc s.level ≡ l = ap suc (level_is (flat_of m)) ∙ sym (add-one (flat_of m).head.level) ∙ sym el in
      let e3 : rows_from m a e ≡ q.tuples = tuples_are o.there ea ee in
      let x : encode_block (page t l (storable (shown (rows_from m a e)))) ≡ encode_block (page q.table (suc s.level) (storable (shown q.tuples))) = cc in
      does_made _ (allocate s) (page q.table (suc s.level) (storable (shown q.tuples))) (after_store (page_stored (allocate s)) (flat_of m))
      (step_page s _ _ _ (runs r) q (ap (first is_frozen) (store_pages (flat_of m)) ∙ index_some is_frozen p q (pages_of m) o.first (from_page o.there)))
      (subst (λ (z : ℕ). HoldsNow m m' (after_store (page_stored z) (flat_of m))) eb k)
      (ei ∙ ap (put_block img b) (ep ∙ x) ∙ ap (λ (z : ℕ). put_block img z (encode_block (page q.table (suc s.level) (storable (shown q.tuples))))) eb)

  module _ (none_frozen : NoneFrozen m) where
    pub directory_does : (b k l : ℕ) → length (flat_of m).directories < directories_for (length (flat_of m).named) → b ≡ allocate (store_of (flat_of m))
        → k ≡ length (flat_of m).directories → l ≡ (flat_of m).head.level + 1
        → part ≡ encode_block (directory l (block_entries k (flat_of m).named)) → img' ≡ put_block img b part
        → HoldsNow m m' (after_store (directory_stored b) (flat_of m)) → Steps img m img' m'
    directory_does b k l h eb ek el ep ei d =
        let s : Store = store_of (flat_of m) in
        let es : List ℕ = (flat_of m).named in
        let ds : List ℕ = (flat_of m).directories in
        let e2 : suc s.level ≡ l = ap suc (level_is (flat_of m)) ∙ sym (add-one (flat_of m).head.level) ∙ sym el in
        let x : encode_block (directory l (block_entries k es)) ≡ encode_block (directory (suc s.level) (block_entries (length ds) es)) = cc in
        does_made _ (allocate s) (directory (suc s.level) (block_entries (length ds) es)) (after_store (directory_stored (allocate s)) (flat_of m))
        (step_directory s _ es ds (runs r) (none_is m none_frozen) h)
        (subst (λ (z : ℕ). HoldsNow m m' (after_store (directory_stored z) (flat_of m))) eb d)
        (ei ∙ ap (put_block img b) (ep ∙ x) ∙ ap (λ (z : ℕ). put_block img z (encode_block (directory (suc s.level) (block_entries (length ds) es)))) eb)

    pub header_does : directories_for (length (flat_of m).named) ≤ length (flat_of m).directories
        → part ≡ encode_block (header (header_for (store_of (flat_of m)) (suc (flat_of m).head.level) (flat_of m).head.begun (length (flat_of m).named) (flat_of m).directories))
        → img' ≡ put_block img 0 part → HoldsNow m m' (after_store (λ n. header_stored) (flat_of m)) → Steps img m img' m'
    header_does h ep ei d =
        let s : Store = store_of (flat_of m) in
        let n : ℕ = (flat_of m).head.begun in
        let es : List ℕ = (flat_of m).named in
        let ds : List ℕ = (flat_of m).directories in
        let e : suc (flat_of m).head.level ≡ suc s.level = sym (ap suc (level_is (flat_of m))) in
        does_made _ 0 (header (header_for s (suc s.level) n (length es) ds)) (after_store (λ n. header_stored) (flat_of m))
        (step_header s n es ds (runs r) (none_is m none_frozen) h) d
        (ei ∙ ap (put_block img 0) (ep ∙ ap (λ (z : ℕ). encode_block (header (header_for s z n (length es) ds))) e))

-- ---- the tests

idle_step : (c : Checkpoint) (s : Store) → is_running c ≡ false → step_at c s ≡ gives (model.refused 18) s
unfolding step_at is_running
idle_step idle s e = refl
idle_step (running n es ds) s e = lie (sym e)

module _ (len : ℕ) (s : Store) where
  pub step_5 : (len ≡ block_size * s.blocks → ⊥) → step_call len s ≡ gives (model.refused 5) s
  unfolding step_call bad_image unless if'◌then◌else◌
  step_5 h = rw (ne_eqb len (block_size * s.blocks) h)

  pub step_18 : len ≡ block_size * s.blocks → is_running s.checkpoint ≡ false → step_call len s ≡ gives (model.refused 18) s
  step_18 e h = step_at_lem len s e ∙ idle_step s.checkpoint s h

answer_at : (o : Option Page) (n : ℕ) (es ds : List ℕ) (s : Store) → (step_of o n es ds s).answer ≡ model.count (left (step_of o n es ds s).store)
unfolding step_of store_page store_directory store_header made if'◌then◌else◌
answer_at (some p) n es ds s = refl
answer_at none n es ds s = by (ltb (length ds) (directories_for (length es))) (λ h. rw h refl) (λ h. rw h refl)

pub answer_of : (c : Checkpoint) (s : Store) → is_running c ≡ true → (step_at c s).answer ≡ model.count (left (step_at c s).store)
unfolding step_at is_running
answer_of idle s e = lie e
answer_of (running n es ds) s e = answer_at (first is_frozen s.pages) n es ds s

module _ (len : ℕ) (m : List ℕ) where
  pub refusal_4 : holds_store m ≡ false → 4 ≡ step_refusal len (store_in m)
  unfolding step_refusal
  refusal_4 h = sym (ap (step_refusal len) (in_none m h))

  module _ (held : holds_store m ≡ true) where
    refused_as : {o : Outcome} → step_call len (store_of (flat_of m)) ≡ o → refusal_number o.answer ≡ step_refusal len (store_in m)
    unfolding step_refusal
    refused_as q = sym (ap (step_refusal len) (in_some m held) ∙ ap (λ (o : Outcome). refusal_number o.answer) q)

    pub refusal_5 : (len ≡ block_size * (flat_of m).head.blocks → ⊥) → 5 ≡ step_refusal len (store_in m)
    unfolding refusal_number gives store_of
    refusal_5 h = refused_as (step_5 len (store_of (flat_of m)) h)

    module _ (e : len ≡ block_size * (flat_of m).head.blocks) where
      pub refusal_18 : is_running (store_of (flat_of m)).checkpoint ≡ false → 18 ≡ step_refusal len (store_in m)
      unfolding refusal_number gives store_of
      refusal_18 h = refused_as (step_18 len (store_of (flat_of m)) e h)

      pub refusal_none : is_running (store_of (flat_of m)).checkpoint ≡ true → 0 ≡ step_refusal len (store_in m)
      unfolding refusal_number store_of
      refusal_none h = let s : Store = store_of (flat_of m) in sym (ap refusal_number (answer_of s.checkpoint s h)) ∙ refused_as (step_at_lem len s e)

  -- a call with these tests: each of them refuses
  module _ (e : Refusal) (v : number e ≡ step_refusal len (store_in m)) where
    refused_4 : (call : Store → Outcome) (img : List ℕ) → holds_store m ≡ false → Stores call img m (Err e) img m
    unfolding Stores StoresAt
    refused_4 call img h = rw (in_none m h) (ap model.refused (v ∙ sym (refusal_4 h)), (refl, refl))

    pub stopped : (call : Store → Outcome)
        → ((s : Store) → (len ≡ block_size * s.blocks → ⊥) → call s ≡ gives (model.refused 5) s)
        → ((s : Store) → len ≡ block_size * s.blocks → is_running s.checkpoint ≡ false → call s ≡ gives (model.refused 18) s)
        → (img : List ℕ) → Stores call img m (Err e) img m
    stopped call c5 c18 img =
        let s : Store = store_of (flat_of m) in
        let n : ℕ = (flat_of m).head.blocks in
        let b : block_size * s.blocks ≡ block_size * n = ap (λ (z : ℕ). block_size * z) (blocks_is (flat_of m)) in
        by (holds_store m)
        (λ h. let stops = λ (k : ℕ) (q : k ≡ step_refusal len (store_in m)) (c : call s ≡ gives (model.refused k) s).
        stores_refused call m img e h (c ∙ ap (λ (z : ℕ). gives (model.refused z) s) (q ∙ sym v)) in
        by (eqb len (block_size * n))
        (λ k. let q : len ≡ block_size * n = eqb-true len (block_size * n) k in
        by (is_running s.checkpoint)
        (λ w. absurd (omega (arith, number_positive e, v, refusal_none h q w)))
        (λ w. stops 18 (refusal_18 h q w) (c18 s (q ∙ sym b) w)))
        (λ k. let ne : len ≡ block_size * n → ⊥ = eqb-false len (block_size * n) k in stops 5 (refusal_5 h ne) (c5 s (λ z. ne (z ∙ b)))))
        (refused_4 call img)

pub passed_ready : (img m : List ℕ) → 0 ≡ step_refusal (length img) (store_in m) → Ready img m
passed_ready img m v =
    let n = length img in
    let held = passed_4 m (λ h. v ∙ sym (refusal_4 n m h)) refl in
    let long : n ≡ block_size * (flat_of m).head.blocks =
    by (eqb n (block_size * (flat_of m).head.blocks)) (λ h. eqb-true n _ h) (λ h. absurd (omega (arith, refusal_5 n m held (eqb-false n _ h)))) in
    let on = by (is_running (store_of (flat_of m)).checkpoint) (λ h. h) (λ h. absurd (omega (arith, refusal_18 n m held long h))) in
    record { runs = record { has_store = held; on = on }; long = long }

module _ {img m : List ℕ} (ready : Ready img m) where
  call_is : step_call (length img) (store_of (flat_of m)) ≡ step_at (store_of (flat_of m)).checkpoint (store_of (flat_of m))
  call_is = step_at_lem (length img) (store_of (flat_of m)) (ready.long ∙ ap (λ (b : ℕ). block_size * b) (sym (blocks_is (flat_of m))))

  pub step_done : {img' m' : List ℕ} {k : ℕ} → Steps img m img' m' → k ≡ left (store_of (flat_of m')) → Stores (step_call (length img)) img m (Ok (Count k)) img' m'
  step_done {img'} {m'} {k} d e =
      let s : Store = store_of (flat_of m) in
      let o : Outcome = step_at s.checkpoint s in
      let n : k ≡ left o.store = e ∙ ap left (in_sound m' o.store d.memory.store).means in
      stores_count (step_call (length img)) m img img' m' k o.store o.writes ready.runs.has_store
      (call_is ∙ ap (λ (a : model.Answer). record { answer = a; store = o.store; writes = o.writes }) (answer_of s.checkpoint s ready.runs.on ∙ ap model.count (sym n)))
      d.memory d.image

  stored_by : (r : Answer) {img' m' : List ℕ} → Stores (step_call (length img)) img m r img' m'
      → StoredBy (step_at (store_of (flat_of m)).checkpoint (store_of (flat_of m))) img m r img' m'
  unfolding Stores StoresAt
  stored_by r {img'} {m'} t = subst (λ (o : Outcome). StoredBy o img m r img' m') call_is (rw (in_some m ready.runs.has_store) at t)

  -- a step that may be made is made, whatever it answers
  pub step_taken : (r : Answer) {img' m' : List ℕ} → Stores (step_call (length img)) img m r img' m' → Steps img m img' m'
  step_taken r {img'} {m'} t =
      let s : Store = store_of (flat_of m) in
      let o : Outcome = step_at s.checkpoint s in
      let d = stored_by r t in
      record {
        memory = subst (λ (a : model.Answer). MemoryAfter a o.store m m') (answer_of s.checkpoint s ready.runs.on) d.memory;
        image = d.image;
      }
