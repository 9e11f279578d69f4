-- The blocks that the directory and the header name, one after the other.
use Rattle.basics.proofs.Kit.{◌≡◌, refl, sym, ap, ◌∙◌, subst, Bool, true, some, none, Option, List, [], ◌∷◌, ◌++◌, append_assoc, append-nil, map, ℕ, suc, ◌+◌, ◌≤◌, ◌<◌, zero}
use Rattle.basics.proofs.Kit.{add-one, ltb, length, take, drop}
use Rattle.basics.proofs.Kit.{get_or, length-append, take-append-drop, length-map, take-suc, lt-ltb, ltb-true, arith}
use Rattle.basics.specs.Basics.{all, is_some}
use Rattle.basics.proofs.Facts.{and_true}
use Rattle.basics.proofs.Lists.{all_get, all_weak}
use Rattle.basics.proofs.Iterations.{drop_iteration}
use Rattle.block_forms.specs.Block.{PageBlock, as_page}
use Rattle.block_reader.specs.Answers.{is_page}
use Rattle.image.specs.View.{View}
use Rattle.image.specs.Stages.{block_ok, StoredPage}
use Rattle.memory_layout.specs.Flat.{Flat, flat_of, Room, Becomes, with_used}
use Rattle.memory_layout.specs.declared.Entry.{Entry}
use Rattle.memory_layout.proofs.Laws.{becomes_none, becomes_then}
use Rattle.memory_rows.specs.Cells.{InOrder}
use Rattle.call_recovery.specs.Loading.{page_at, pages_at, blocks_in, helds_of, entry_for, used_by, TablesRise, Loads, RoomFor}
use Rattle.call_recovery.proofs.Adding.{becomes_as}
use Rattle.call_recovery.proofs.Marking.{used_none, used_one, used_then}
use Rattle.call_recovery.proofs.Paging.{helds_append, loads_none, loads_as, loads_then, rise_split}
use Rattle.model.specs.Checkpoint.{used_and}

-- ---- block numbers

-- a block that may be named is below the image's count
pub named_below : (n : ℕ) (s : List ℕ) (i : ℕ) → all (block_ok n) s ≡ true → i < length s → get_or s i 0 < n
unfolding block_ok
named_below n s i e h = ltb-true (get_or s i 0) n (and_true (ltb 0 (get_or s i 0)) (ltb (get_or s i 0) n) (all_get (block_ok n) 0 s i e h)).1

-- it is so in a longer image too
pub named_more : (n k : ℕ) (s : List ℕ) → n ≤ k → all (block_ok n) s ≡ true → all (block_ok k) s ≡ true
unfolding block_ok
named_more n k s h e =
    all_weak (block_ok n) (block_ok k) (λ x t. let b = and_true (ltb 0 x) (ltb x n) t in rw (b.0, lt-ltb x k (omega (arith, ltb-true x n b.1)))) s e

-- ---- pages

-- a block adds a page at most
one_few : (e : ℕ) (o : Option PageBlock) (ps : List StoredPage) → length (blocks_in (page_at e o ++ ps)) ≤ suc (length (blocks_in ps))
unfolding page_at blocks_in
one_few e none ps = omega arith
one_few e (some p) ps = omega arith

-- the first of as many blocks as there are pages is a page
first_page : (e : ℕ) (o : Option PageBlock) (ps : List StoredPage) (es : List ℕ) → length (blocks_in ps) ≤ length es → blocks_in (page_at e o ++ ps) ≡ e ∷ es
    → (is_some o ≡ true) × (blocks_in ps ≡ es)
unfolding page_at blocks_in is_some
first_page e none ps es h q = absurd (omega (arith, ap length q))
first_page e (some p) ps es h q = (refl, cc)

module _ (v : View) where
  pages_few : (es : List ℕ) → length (blocks_in (pages_at v es)) ≤ length es
  unfolding pages_at blocks_in
  pages_few [] = omega arith
  pages_few (e ∷ es) = let a = one_few e (as_page (v e)) (pages_at v es) in let b = pages_few es in omega arith

  -- where there are as many pages as blocks, each block is a page
  pub all_pages : (es : List ℕ) (i : ℕ) → blocks_in (pages_at v es) ≡ es → i < length es → is_page (v (get_or es i 0)) ≡ true
  unfolding pages_at
  all_pages [] i q h = absurd (omega arith)
  all_pages (e ∷ es) zero q h = (first_page e (as_page (v e)) (pages_at v es) es (pages_few es) q).0
  all_pages (e ∷ es) (suc i) q h = all_pages es i (first_page e (as_page (v e)) (pages_at v es) es (pages_few es) q).1 (omega arith)

  pages_append : (xs ys : List ℕ) → pages_at v (xs ++ ys) ≡ pages_at v xs ++ pages_at v ys
  unfolding pages_at
  pages_append [] ys = refl
  pages_append (x ∷ xs) ys = ap (λ (z : List StoredPage). page_at x (as_page (v x)) ++ z) (pages_append xs ys) ∙ sym (append_assoc (page_at x (as_page (v x))) (pages_at v xs) (pages_at v ys))

  module _ (es : List ℕ) (i e : ℕ) (h : i < length es) (q : e ≡ get_or es i 0) where
    pages_next : pages_at v (take i es) ++ page_at e (as_page (v e)) ≡ pages_at v (take (i + 1) es)
    unfolding pages_at
    pages_next =
        sym (ap (λ (k : ℕ). pages_at v (take k es)) (add-one i)
        ∙ ap (pages_at v) (take-suc es i 0 h ∙ ap (λ (k : ℕ). take i es ++ k ∷ []) (sym q))
        ∙ pages_append (take i es) (e ∷ [])
        ∙ ap (λ (z : List StoredPage). pages_at v (take i es) ++ z) (append-nil (page_at e (as_page (v e)))))

    pages_split : pages_at v es ≡ pages_at v (take i es) ++ (page_at e (as_page (v e)) ++ pages_at v (drop (i + 1) es))
    unfolding pages_at
    pages_split =
        ap (pages_at v) (sym (take-append-drop i es))
        ∙ pages_append (take i es) (drop i es)
        ∙ ap (λ (z : List ℕ). pages_at v (take i es) ++ pages_at v z) (drop_iteration es i h ∙ ap (λ (k : ℕ). k ∷ drop (i + 1) es) (sym q))

    -- one page more
    pub loading_iteration : {m m1 m2 : List ℕ} → Loads (pages_at v (take i es)) m m1 → Loads (page_at e (as_page (v e))) m1 m2 → Loads (pages_at v (take (i + 1) es)) m m2
    loading_iteration a b = loads_as pages_next (loads_then a b)

    -- and room for it
    pub loading_room : {m m1 : List ℕ} → Loads (pages_at v (take i es)) m m1 → RoomFor (pages_at v es) (flat_of m) → RoomFor (page_at e (as_page (v e))) (flat_of m1)
    loading_room {m} {m1} a r =
        let ps : List StoredPage = pages_at v (take i es) in
        let p : List StoredPage = page_at e (as_page (v e)) in
        let qs : List StoredPage = pages_at v (drop (i + 1) es) in
        let s : pages_at v es ≡ ps ++ (p ++ qs) = pages_split in
        let n = simp length-append at (ap length s) in
        let hn = simp (helds_append, length-append) at (ap (λ (z : List StoredPage). length (helds_of z)) s) in
        let c = ap (λ (f : Flat). f.head.capacity) a.becomes.flat in
        let k1 = simp length-append at (ap (λ (f : Flat). length f.rows) a.becomes.flat) in
        let k2 = simp (length-append, length-map) at (ap (λ (f : Flat). length f.entries) a.becomes.flat) in
        let t = rise_split (flat_of m).entries ps (p ++ qs) (subst (TablesRise (flat_of m).entries) s r.tables) in
        let u = rise_split ((flat_of m).entries ++ map entry_for ps) p qs t.1 in
        let g : (flat_of m1).entries ≡ (flat_of m).entries ++ map entry_for ps = ap (λ (f : Flat). f.entries) a.becomes.flat in
        record {
          rows = omega (arith, r.rows);
          entries = omega (arith, r.entries);
          tables = subst (λ (z : List Entry). TablesRise z p) (sym g) u.0;
        }

  pub loading_start : (m es : List ℕ) → Room m → InOrder m → Loads (pages_at v (take 0 es)) m m
  unfolding pages_at
  loading_start m es r o = loads_none r o refl

-- ---- blocks in use

-- the blocks bs are in use
abbrev pub Marked : List ℕ → List ℕ → List ℕ → Type 0
Marked bs m m1 = Becomes m m1 (with_used (flat_of m) (used_by bs (flat_of m).used))

pub marking_start : (m bs : List ℕ) → Room m → Marked (take 0 bs) m m
marking_start m bs r = becomes_as (sym (λ i. with_used (flat_of m) (used_none (flat_of m).used i))) (becomes_none m r)

pub marking_iteration : {m m1 m2 : List ℕ} (bs : List ℕ) (i : ℕ) {b : ℕ} → i < length bs → b ≡ get_or bs i 0 → Marked (take i bs) m m1
    → Becomes m1 m2 (with_used (flat_of m1) (used_and b (flat_of m1).used)) → Marked (take (i + 1) bs) m m2
marking_iteration {m} {m1} {m2} bs i {b} h q a c =
    let U : Flat → Flat = λ f. with_used f (used_and b f.used) in
    let u : ℕ → Bool = (flat_of m).used in
    let d = becomes_then m m1 m2 (with_used (flat_of m) (used_by (take i bs) u)) U a c in
    let t : take i bs ++ b ∷ [] ≡ take (i + 1) bs =
    ap (λ (k : ℕ). take i bs ++ k ∷ []) q ∙ sym (take-suc bs i 0 h) ∙ ap (λ (k : ℕ). take k bs) (sym (add-one i)) in
    let e : used_and b (used_by (take i bs) u) ≡ used_by (take (i + 1) bs) u =
    used_one b (used_by (take i bs) u) ∙ used_then (take i bs) (b ∷ []) u ∙ ap (λ (z : List ℕ). used_by z u) t in
    becomes_as (λ k. with_used (flat_of m) (e k)) d
