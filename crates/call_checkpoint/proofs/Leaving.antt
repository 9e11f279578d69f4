-- What the memory holds after each kind of store.
use Rattle.block_forms.specs.Limits.{block_limit}
use Rattle.basics.proofs.Kit.{◌≡◌, refl, sym, ap, ◌∙◌, subst, fun_ext, Bool, true, false, not, ◌||◌, some, List, [], ◌∷◌, ◌++◌, ℕ, suc, ◌+◌, ◌≤◌, ◌<◌, ◌-◌, add-one, leb, eqb, length, drop}
use Rattle.basics.proofs.Kit.{get_or, set, length-append, drop_of_length-le, List·getD-append, get_or-append-add, eqb-true, eq-eqb, ne_eqb, eqb-false, not-true, arith}
use Rattle.basics.specs.Basics.{if'◌then◌else◌, any, is_in}
use Rattle.basics.proofs.Facts.{by}
use Rattle.basics.proofs.Iterations.{drop_iteration}
use Rattle.model.specs.State.{Page, idle, running, Store}
use Rattle.model.specs.Rules.{is_frozen, thaw}
use Rattle.model.specs.Transactions.{changed}
use Rattle.model.specs.Checkpoint.{with_progress, is_running, fill, page_stored, directory_stored, header_stored, used_and}
use Rattle.basics.proofs.Elements.{any_cons, all_split, eqb_swap}
use Rattle.basics.proofs.Tabs.{get_d_tab}
use Rattle.basics.specs.Lists.{first_index}
use Rattle.memory_layout.specs.Views.{named_count, directory_count, named_block, directory_at}
use Rattle.memory_layout.specs.Flat.{Flat, flat_of, capacity_of, named_of, directories_of, Room, Becomes, with_head, with_named, with_directories, with_used}
use Rattle.memory_layout.specs.Store.{pages_in, checkpoint_of, store_of, HoldsNow}
use Rattle.memory_layout.specs.declared.Head.{Head}
use Rattle.memory_layout.proofs.Laws.{store_pages, named_length, directories_length, holds_counted, becomes_store, becomes_then}
use Rattle.engine_pages.specs.Pages.{with_pages, pages_of}
use Rattle.engine_pages.specs.Pending.{FirstFrozen}
use Rattle.call_checkpoint.specs.Counting.{first_zero, NamedBefore, is_named, four_named, named_in}
use Rattle.call_checkpoint.specs.Keeping.{after_store, RunningIn, taking, Marks}
use Rattle.call_checkpoint.proofs.Running.{running_is}
use Rattle.call_checkpoint.proofs.Beginning.{held_still}
use Rattle.basics.proofs.Searches.{or_none}
use Rattle.basics.proofs.Elements.{or_move}

-- ---- a block is taken

abbrev took_head : ℕ → Head → Head
took_head b h =
    record { capacity = h.capacity; blocks = h.blocks; level = h.level; next = h.next; running = h.running; begun = h.begun; taken = b }

pub took : {m m1 m2 : List ℕ} (b : ℕ) (h : Head) → h ≡ (flat_of m).head → Becomes m m1 (with_head (flat_of m) (took_head b h))
    → Becomes m1 m2 (with_used (flat_of m1) (used_and b (flat_of m1).used)) → Becomes m m2 (taking b (flat_of m))
took {m} {m1} {m2} b h e x y =
    let z = becomes_then m m1 m2 _ (λ f. with_used f (used_and b f.used)) x y in
    record { size = z.size; room = z.room; flat = z.flat ∙ ap (λ (g : Head). with_used (with_head (flat_of m) (took_head b g)) (used_and b (flat_of m).used)) e }

-- ---- the first entry that names no block

module _ (e : ℕ) (es : List ℕ) where
  zero_here : e ≡ 0 → first_zero (e ∷ es) ≡ 0
  unfolding first_zero if'◌then◌else◌
  zero_here q = rw (eq-eqb (e) 0 q)

  zero_on : (e ≡ 0 → ⊥) → first_zero (e ∷ es) ≡ suc (first_zero es)
  unfolding first_zero if'◌then◌else◌
  zero_on q = rw (ne_eqb (e) 0 q)

pub named_start : (ws : List ℕ) → NamedBefore ws 0
named_start ws = record { inside = omega arith; rest = omega arith }

module _ {ws : List ℕ} {i : ℕ} (k : NamedBefore ws i) where
  pub named_hit : i < length ws → get_or ws i 0 ≡ 0 → i ≡ first_zero ws
  named_hit h e = omega (arith, k.rest, ap first_zero (drop_iteration ws i h) ∙ zero_here _ _ e)

  pub named_miss : i < length ws → (get_or ws i 0 ≡ 0 → ⊥) → NamedBefore ws (i + 1)
  named_miss h e = record { inside = omega arith; rest = omega (arith, k.rest, ap first_zero (drop_iteration ws i h) ∙ zero_on _ _ e) }

  pub named_end : length ws ≤ i → length ws ≡ first_zero ws
  unfolding first_zero
  named_end h = omega (arith, k.inside, k.rest, ap first_zero (drop_of_length-le ws {i = i} h))

  named_iteration : (j : ℕ) → j ≡ i + 1 → i < length ws → is_named ws i ≡ true → NamedBefore ws j
  unfolding is_named
  named_iteration j q h e = subst (NamedBefore ws) (sym q) (named_miss h (eqb-false _ 0 (not-true _ e)))

pub named_four : {ws : List ℕ} {i : ℕ} → NamedBefore ws i → i + 4 ≤ length ws → four_named ws i ≡ true → (j : ℕ) → j ≡ i + 4 → NamedBefore ws j
unfolding four_named
named_four {ws} {i} k h e j q =
    let t = all_split (is_named ws) _ e in
    let k1 = named_iteration k (i + 1) refl (omega arith) t.0 in
    let k2 = named_iteration k1 (i + 2) (omega arith) (omega arith) t.1.0 in
    let k3 = named_iteration k2 (i + 3) (omega arith) (omega arith) t.1.1.0 in
    named_iteration k3 j (omega (arith, q)) (omega arith) t.1.1.1.0

fill_at : (b : ℕ) (es : List ℕ) → first_zero es < length es → set es (first_zero es) b ≡ fill b es
unfolding fill if'◌then◌else◌
fill_at b [] h = absurd (omega arith)
fill_at b (e ∷ es) h =
    by (eqb e 0)
    (λ t. rw (zero_here e es (eqb-true e 0 t), t) refl)
    (λ t. let n = zero_on e es (eqb-false e 0 t) in rw (n, t) (ap (λ (z : List ℕ). e ∷ z) (fill_at b es (omega (arith, h, n)))))

fill_none : (b : ℕ) (es : List ℕ) → length es ≤ first_zero es → es ≡ fill b es
unfolding fill if'◌then◌else◌
fill_none b [] h = refl
fill_none b (e ∷ es) h =
    by (eqb e 0)
    (λ t. absurd (omega (arith, h, zero_here e es (eqb-true e 0 t))))
    (λ t. rw t (ap (λ (z : List ℕ). e ∷ z) (fill_none b es (omega (arith, h, zero_on e es (eqb-false e 0 t))))))

-- the first entry that names no block names block b
abbrev Fills : List ℕ → List ℕ → ℕ → Type 0
Fills m m' b = Becomes m m' (with_named (flat_of m) (fill b (flat_of m).named))

module _ {m : List ℕ} (b : ℕ) where
  pub fills_none : Room m → length (flat_of m).named ≡ first_zero (flat_of m).named → Fills m m b
  fills_none r h = record { size = refl; room = r; flat = ap (with_named (flat_of m)) (fill_none b (flat_of m).named (omega (arith, h))) }

  pub fills_at : (i : ℕ) → i ≡ first_zero (flat_of m).named → i < length (flat_of m).named
      → {m' : List ℕ} → Becomes m m' (with_named (flat_of m) (set (flat_of m).named i b)) → Fills m m' b
  fills_at i e h x =
      record {
        size = x.size;
        room = x.room;
        flat =
            x.flat ∙ ap (λ (k : ℕ). with_named (flat_of m) (set (flat_of m).named k b)) e
            ∙ ap (with_named (flat_of m)) (fill_at b (flat_of m).named (omega (arith, e, h)));
      }

-- ---- the checkpoint runs on

runs_same : (on : Bool) (l n n' : ℕ) (es es' ds ds' : List ℕ) → is_running (checkpoint_of on l n es ds) ≡ true → is_running (checkpoint_of on l n' es' ds') ≡ true
unfolding checkpoint_of is_running if'◌then◌else◌
runs_same on l n n' es es' ds ds' e = by (not on || leb 4294967295 l) (λ h. rw h (rw h at e)) (λ h. rw h refl)

still : (f g : Flat) → is_running (store_of f).checkpoint ≡ true → g.head.running ≡ f.head.running → g.head.level ≡ f.head.level → is_running (store_of g).checkpoint ≡ true
unfolding store_of
still f g on er el = rw (er, el) (runs_same _ _ _ _ _ _ _ _ on)

-- with the head's running number and level as they were
pub still_runs : (f g : Flat) → is_running (store_of f).checkpoint ≡ true → g.head.running ≡ f.head.running → g.head.level ≡ f.head.level
    → (store_of g).checkpoint ≡ running g.head.begun g.named g.directories
still_runs f g on er el = (running_is g (still f g on er el)).0

-- ---- after a page's store

page_store : (f : Flat) (b : ℕ) (ns : List ℕ) (ps : List Page) → with_pages (store_of (with_named (taking b f) ns)) ps
    ≡ with_progress (store_of f) (store_of f).level ps (used_and b (store_of f).used) b (store_of (with_named (taking b f) ns)).checkpoint
unfolding with_pages changed with_progress store_of
page_store f b ns ps = refl

-- the flat lists before the page is thawed
abbrev placed : ℕ → Flat → Flat
placed b f = with_named (taking b f) (fill b f.named)

page_kept : (f : Flat) (b : ℕ) → is_running (store_of f).checkpoint ≡ true
    → with_pages (store_of (placed b f)) (thaw b (pages_in (placed b f))) ≡ after_store (page_stored b) f
page_kept f b on =
    let s : Store = store_of f in
    page_store f b (fill b f.named) (thaw b (pages_in f))
    ∙ ap (λ (ps : List Page). with_progress s s.level (thaw b ps) (used_and b s.used) b (store_of (placed b f)).checkpoint) (sym (store_pages f))
    ∙ ap (with_progress s s.level (thaw b s.pages) (used_and b s.used) b) (still_runs f (placed b f) on refl refl)

module _ {m m1 m2 : List ℕ} (b : ℕ) (r : RunningIn m) (x : Becomes m m1 (taking b (flat_of m))) (y : Fills m1 m2 b) where
  page_flat : Becomes m m2 (placed b (flat_of m))
  page_flat = becomes_then m m1 m2 _ (λ f. with_named f (fill b f.named)) x y

  -- pages and rows are as they were
  pub still_first : {p : ℕ} → FirstFrozen m p → FirstFrozen m2 p
  still_first {p} o =
      let e = sym page_flat.flat in
      record {
        there = record {
          has_store = held_still r.has_store page_flat refl;
          inside = subst (λ (f : Flat). p < length f.entries) e o.there.inside;
        };
        first = subst (λ (f : Flat). p ≡ first_index is_frozen (pages_in f)) e o.first;
      }

  pub page_holds : {m3 : List ℕ} → HoldsNow m2 m3 (with_pages (store_of (flat_of m2)) (thaw b (pages_of m2))) → HoldsNow m m3 (after_store (page_stored b) (flat_of m))
  page_holds t =
      record {
        size = t.size ∙ page_flat.size;
        store =
            t.store ∙ ap (λ (f : Flat). some (with_pages (store_of f) (thaw b (pages_in f)))) page_flat.flat
            ∙ ap some (page_kept (flat_of m) b r.on);
      }

-- ---- after a directory block's store

store_is_directory : (f : Flat) (b : ℕ) → store_of (with_directories (taking b f) (f.directories ++ b ∷ []))
    ≡ with_progress (store_of f) (store_of f).level (store_of f).pages (used_and b (store_of f).used) b (store_of (with_directories (taking b f) (f.directories ++ b ∷ []))).checkpoint
unfolding with_progress store_of
store_is_directory f b = refl

directory_kept : (f : Flat) (b : ℕ) → is_running (store_of f).checkpoint ≡ true
    → store_of (with_directories (taking b f) (f.directories ++ b ∷ [])) ≡ after_store (directory_stored b) f
directory_kept f b on =
    let s : Store = store_of f in
    let g : Flat = with_directories (taking b f) (f.directories ++ b ∷ []) in
    store_is_directory f b ∙ ap (with_progress s s.level s.pages (used_and b s.used) b) (still_runs f g on refl refl)

pub directory_holds : {m m1 m2 : List ℕ} (b : ℕ) → RunningIn m → Becomes m m1 (taking b (flat_of m))
    → Becomes m1 m2 (with_directories (flat_of m1) ((flat_of m1).directories ++ b ∷ [])) → HoldsNow m m2 (after_store (directory_stored b) (flat_of m))
directory_holds {m} {m1} {m2} b r x y =
    let z = becomes_then m m1 m2 _ (λ f. with_directories f (f.directories ++ b ∷ [])) x y in
    record { size = z.size; store = becomes_store z (holds_counted m r.has_store) ∙ ap some (directory_kept (flat_of m) b r.on) }

-- ---- after the header's store

marked_next : (c b : ℕ) (bs : List ℕ) (u : ℕ → Bool) → (is_in c bs || used_and b u c) ≡ (is_in c (b ∷ bs) || u c)
unfolding is_in
marked_next c b bs u =
    ap (λ (z : Bool). any (eqb c) bs || (z || u c)) (eqb_swap b c) ∙ sym (or_move (eqb c b) (any (eqb c) bs) (u c))
    ∙ ap (λ (z : Bool). z || u c) (sym (any_cons (eqb c) b bs))

-- the first i of the blocks bs are marked
pub record Marking (m m' : List ℕ) (bs : List ℕ) (n i : ℕ) : Type 0 where
  pub whole : n ≡ length bs
  pub inside : i ≤ n
  pub becomes : Becomes m m' (with_used (flat_of m) (flat_of m').used)
  pub used : (c : ℕ) → (is_in c (drop i bs) || (flat_of m').used c) ≡ (is_in c bs || (flat_of m).used c)

pub marking_start : (m : List ℕ) (bs : List ℕ) (n : ℕ) → Room m → n ≡ length bs → Marking m m bs n 0
marking_start m bs n r e =
    record { whole = e; inside = omega arith; becomes = record { size = refl; room = r; flat = refl }; used = λ c. refl }

module _ {m m' : List ℕ} {bs : List ℕ} {n i : ℕ} (k : Marking m m' bs n i) where
  pub marking_iteration : i < n → (b : ℕ) → b ≡ get_or bs i 0 → (m2 : List ℕ) → Becomes m' m2 (with_used (flat_of m') (used_and b (flat_of m').used))
      → Marking m m2 bs n (i + 1)
  marking_iteration h b e m2 x =
      let q : (flat_of m2).used ≡ used_and b (flat_of m').used = ap (λ (f : Flat). f.used) x.flat in
      let d : b ∷ drop (i + 1) bs ≡ drop i bs = ap (λ (z : ℕ). z ∷ drop (i + 1) bs) e ∙ sym (drop_iteration bs i (omega (arith, k.whole))) in
      record {
        whole = k.whole;
        inside = omega arith;
        becomes = record {
          size = x.size ∙ k.becomes.size;
          room = x.room;
          flat = x.flat ∙ ap (λ (f : Flat). with_used f (used_and b (flat_of m').used)) k.becomes.flat ∙ ap (with_used (flat_of m)) (sym q);
        };
        used = λ c.
            ap (λ (u : ℕ → Bool). is_in c (drop (i + 1) bs) || u c) q ∙ marked_next c b (drop (i + 1) bs) (flat_of m').used
            ∙ ap (λ (z : List ℕ). is_in c z || (flat_of m').used c) d ∙ k.used c;
      }

  pub marking_same : named_in (flat_of m') ≡ named_in (flat_of m)
  unfolding named_in
  marking_same = ap named_in k.becomes.flat

  pub marking_end : n ≤ i → Marks m m' bs
  unfolding is_in any
  marking_end h =
      record { becomes = k.becomes; used = λ c. ap (λ (z : List ℕ). is_in c z || (flat_of m').used c) (sym (drop_of_length-le bs {i = i} (omega (arith, k.whole)))) ∙ k.used c }

-- a block's number has twelve bits
module _ (m : List ℕ) (i : ℕ) where
  pub named_low : i < length (flat_of m).named → get_or (flat_of m).named i 0 < block_limit
  unfolding named_of named_block
  named_low h = omega (arith, get_d_tab (named_block m (capacity_of m)) 0 (named_count m) i 0 (omega (arith, named_length m)))

  pub directory_low : i < length (flat_of m).directories → get_or (flat_of m).directories i 0 < block_limit
  unfolding directories_of directory_at
  directory_low h = omega (arith, get_d_tab (directory_at m) 0 (directory_count m) i 0 (omega (arith, directories_length m)))

module _ (f : Flat) where
  pub named_count_lem : length (named_in f) ≡ length f.named + length f.directories
  unfolding named_in
  named_count_lem = length-append f.named f.directories

  pub page_block : (i : ℕ) → i < length f.named → get_or f.named i 0 ≡ get_or (named_in f) i 0
  unfolding named_in
  page_block i h = sym (List·getD-append f.named f.directories 0 i h)

  pub directory_block : (i : ℕ) → length f.named ≤ i → get_or f.directories (i - length f.named) 0 ≡ get_or (named_in f) i 0
  unfolding named_in
  directory_block i h =
      let k : ℕ = i - length f.named in
      let e : length f.named + k ≡ i = omega arith in
      sym (get_or-append-add f.named f.directories k 0) ∙ ap (λ (z : ℕ). get_or (f.named ++ f.directories) z 0) e

named_is_both : (f : Flat) → named_in f ≡ f.named ++ f.directories
unfolding named_in
named_is_both f = refl

abbrev landed_head : Head → Head
landed_head h =
    record { capacity = h.capacity; blocks = h.blocks; level = h.level + 1; next = h.next; running = false; begun = h.begun; taken = h.taken }

store_is_header : (f : Flat) (u : ℕ → Bool) → store_of (with_head (with_used f u) (landed_head f.head))
    ≡ with_progress (store_of f) ((store_of f).level + 1) (store_of f).pages u (store_of f).taken idle
unfolding with_progress store_of checkpoint_of if'◌then◌else◌
store_is_header f u = refl

header_kept : (f : Flat) (u : ℕ → Bool) → ((c : ℕ) → u c ≡ (is_in c (named_in f) || false))
    → store_of (with_head (with_used f u) (landed_head f.head)) ≡ after_store (λ n. header_stored) f
header_kept f u e =
    let s : Store = store_of f in
    let es : List ℕ = f.named in
    let ds : List ℕ = f.directories in
    let q : u ≡ (λ b. is_in b (es ++ ds)) = fun_ext (λ c. e c ∙ or_none (is_in c (named_in f)) ∙ ap (is_in c) (named_is_both f)) in
    store_is_header f u ∙ ap (λ (v : ℕ → Bool). with_progress s (s.level + 1) s.pages v s.taken idle) q
    ∙ ap (λ (l : ℕ). with_progress s l s.pages (λ b. is_in b (es ++ ds)) s.taken idle) (add-one s.level)

module _ {m m1 m2 : List ℕ} (r : RunningIn m) (a : Becomes m m1 (with_used (flat_of m) (λ c. false))) (b : Marks m1 m2 (named_in (flat_of m1))) where
  header_flat : Becomes m m2 (with_used (flat_of m) (flat_of m2).used)
  header_flat =
      record {
        size = b.becomes.size ∙ a.size;
        room = b.becomes.room;
        flat = b.becomes.flat ∙ ap (λ (f : Flat). with_used f (flat_of m2).used) a.flat;
      }

  used_is : (c : ℕ) → (flat_of m2).used c ≡ (is_in c (named_in (flat_of m)) || false)
  unfolding named_in
  used_is c = b.used c ∙ ap (λ (f : Flat). is_in c (named_in f) || f.used c) a.flat

  pub header_holds : (h : Head) → h ≡ (flat_of m2).head → (m3 : List ℕ) → Becomes m2 m3 (with_head (flat_of m2) (landed_head h)) → HoldsNow m m3 (after_store (λ n. header_stored) (flat_of m))
  header_holds h eh m3 x =
      let z : Becomes m m3 (with_head (with_used (flat_of m) (flat_of m2).used) (landed_head (flat_of m).head)) = record {
        size = x.size ∙ header_flat.size;
        room = x.room;
        flat = x.flat ∙ ap (λ (g : Head). with_head (flat_of m2) (landed_head g)) eh ∙ ap (λ (f : Flat). with_head f (landed_head f.head)) header_flat.flat;
      } in
      record { size = z.size; store = becomes_store z (holds_counted m r.has_store) ∙ ap some (header_kept (flat_of m) (flat_of m2).used used_is) }

  pub header_low : (flat_of m2).head.level < 4294967295
  header_low = omega (arith, (running_is (flat_of m) r.on).1, ap (λ (f : Flat). f.head.level) header_flat.flat)
