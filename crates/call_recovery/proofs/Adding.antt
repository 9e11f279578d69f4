-- Rows behind those that are there, on the last page.
use Rattle.basics.proofs.Kit.{◌≡◌, refl, sym, ap, ◌∙◌, subst, true, some, none, Option, List, [], ◌∷◌, ◌++◌, append_assoc, append-nil, map, ℕ, ◌+◌, ◌≤◌, ◌<◌, ◌-◌, add-zero, get_or-append_seam}
use Rattle.basics.proofs.Kit.{length, take, set, length-append}
use Rattle.basics.proofs.Kit.{length-map, take_at, take_all, length-take-le, arith}
use Rattle.basics.specs.Basics.{is_some}
use Rattle.basics.proofs.Facts.{lie}
use Rattle.basics.proofs.Lists.{map_append}
use Rattle.block_forms.specs.Tuple.{Tuple}
use Rattle.block_forms.specs.Limits.{page_head_size}
use Rattle.block_forms.specs.Block.{PageBlock, as_page}
use Rattle.block_forms.specs.Decode.{decode_block}
use Rattle.block_reader.proofs.Walk.{Walk, walk_start}
use Rattle.model.specs.State.{Held}
use Rattle.model.specs.Rules.{without_pending}
use Rattle.memory_layout.specs.Flat.{Flat, flat_of, no_entry, Room, Becomes, with_rows, with_entries}
use Rattle.memory_layout.specs.declared.Entry.{Entry}
use Rattle.memory_layout.proofs.Laws.{becomes_none, becomes_then}
use Rattle.memory_rows.specs.Cells.{InOrder}
use Rattle.memory_pages.specs.Pages.{with_count, entry_of, more_rows, more_last, behind, RowsBecome}
use Rattle.basics.proofs.Parts.{last_set, last_index}
use Rattle.call_recovery.specs.Loading.{tuples_in, last_more, Fills, RowsFit}

-- the same lists, said otherwise
pub becomes_as : {m m' : List ℕ} {f g : Flat} → f ≡ g → Becomes m m' f → Becomes m m' g
becomes_as e b = record { size = b.size; room = b.room; flat = b.flat ∙ e }

-- ---- the tuples of a page

pub page_walk : (xs : List ℕ) (o : Option PageBlock) → as_page (decode_block xs) ≡ o → is_some o ≡ true → Walk xs (tuples_in o) page_head_size 0
unfolding is_some tuples_in
page_walk xs none e h = lie h
page_walk xs (some p) e h = walk_start xs e

-- ---- the last page

pub last_more_lem : (xs : List Entry) (y : Entry) (k : ℕ) → last_more k (xs ++ y ∷ []) ≡ xs ++ with_count y (y.count + k) ∷ []
unfolding last_more
last_more_lem xs y k =
    let es : List Entry = xs ++ y ∷ [] in
    ap (λ (n : ℕ). take n es ++ with_count (entry_of es n) ((entry_of es n).count + k) ∷ []) (last_index xs y)
    ∙ (λ i. take_at xs (y ∷ []) (length xs) refl i ++ with_count (get_or-append_seam xs y [] no_entry i) ((get_or-append_seam xs y [] no_entry i).count + k) ∷ [])

more_last_lem : (xs : List Entry) (y : Entry) → more_last (xs ++ y ∷ []) ≡ xs ++ with_count y (y.count + 1) ∷ []
more_last_lem xs y =
    let es : List Entry = xs ++ y ∷ [] in
    ap (λ (n : ℕ). more_rows n es) (last_index xs y)
    ∙ ap (λ (z : Entry). set es (length xs) (with_count z (z.count + 1))) (get_or-append_seam xs y [] no_entry)
    ∙ last_set xs y (with_count y (y.count + 1))

-- a list that is not empty ends with an element
record Ends (es : List Entry) : Type 0 where
  pub front : List Entry
  pub last : Entry
  pub is : es ≡ front ++ last ∷ []

ends : (es : List Entry) → 1 ≤ length es → Ends es
ends [] h = absurd (omega arith)
ends (e ∷ []) h = record { front = []; last = e; is = refl }
ends (e ∷ (f ∷ es)) h = let r = ends (f ∷ es) (omega arith) in record { front = e ∷ r.front; last = r.last; is = ap (λ (z : List Entry). e ∷ z) r.is }

module _ (es : List Entry) (s : 1 ≤ length es) where
  last_none : last_more 0 es ≡ es
  last_none =
      let r = ends es s in
      ap (last_more 0) r.is ∙ last_more_lem r.front r.last 0
      ∙ (λ i. r.front ++ with_count r.last (add-zero r.last.count i) ∷ []) ∙ sym r.is

  last_next : (k : ℕ) → more_last (last_more k es) ≡ last_more (k + 1) es
  last_next k =
      let r = ends es s in
      let n : ℕ = r.last.count in
      let e : n + k + 1 ≡ n + (k + 1) = omega arith in
      ap (λ (z : List Entry). more_last (last_more k z)) r.is
      ∙ ap more_last (last_more_lem r.front r.last k)
      ∙ more_last_lem r.front (with_count r.last (n + k))
      ∙ (λ i. r.front ++ with_count r.last (e i) ∷ [])
      ∙ sym (last_more_lem r.front r.last (k + 1))
      ∙ ap (last_more (k + 1)) (sym r.is)

last_some : (k : ℕ) (es : List Entry) → 1 ≤ length (last_more k es)
unfolding last_more
last_some k es =
    let n : ℕ = length es - 1 in
    omega (arith, length-append (take n es) (with_count (entry_of es n) ((entry_of es n).count + k) ∷ []))

-- ---- rows added

pub fills_none : (m : List ℕ) → Room m → InOrder m → 1 ≤ length (flat_of m).entries → Fills [] m m
fills_none m r o s =
    record {
      becomes = becomes_as (sym (λ i. with_entries (with_rows (flat_of m) (append-nil (flat_of m).rows i)) (last_none (flat_of m).entries s i))) (becomes_none m r);
      order = o;
    }

module _ {m m1 : List ℕ} {hs : List Held} (a : Fills hs m m1) where
  fills_count : length (flat_of m1).rows ≡ length (flat_of m).rows + length hs
  fills_count = ap (λ (f : Flat). length f.rows) a.becomes.flat ∙ length-append (flat_of m).rows hs

  fills_page : 1 ≤ length (flat_of m1).entries
  fills_page = omega (arith, ap (λ (f : Flat). length f.entries) a.becomes.flat, last_some (length hs) (flat_of m).entries)

  fills_more : {m2 : List ℕ} (h : Held) → 1 ≤ length (flat_of m).entries → RowsBecome m1 m2 (behind h) more_last × InOrder m2 → Fills (hs ++ h ∷ []) m m2
  fills_more {m2} h s b =
      let es : List Entry = (flat_of m).entries in
      let F : Flat → Flat = λ f. with_entries (with_rows f (behind h f.rows)) (more_last f.entries) in
      let c = becomes_then m m1 m2 (with_entries (with_rows (flat_of m) ((flat_of m).rows ++ hs)) (last_more (length hs) es)) F a.becomes b.0 in
      let e : more_last (last_more (length hs) es) ≡ last_more (length (hs ++ h ∷ [])) es =
      last_next es s (length hs) ∙ ap (λ (k : ℕ). last_more k es) (sym (length-append hs (h ∷ []))) in
      record {
        becomes = becomes_as (λ i. with_entries (with_rows (flat_of m) (append_assoc (flat_of m).rows hs (h ∷ []) i)) (e i)) c;
        order = b.1;
      }

-- the same row, said otherwise
pub row_as : {m m' : List ℕ} {h g : Held} → h ≡ g → RowsBecome m m' (behind h) more_last × InOrder m' → RowsBecome m m' (behind g) more_last × InOrder m'
row_as {m} e b = (becomes_as (λ i. with_entries (with_rows (flat_of m) (behind (e i) (flat_of m).rows)) (more_last (flat_of m).entries)) b.0, b.1)

-- the first i + 1 tuples
without_pending_next : (i : ℕ) (ts : List Tuple) (x : Tuple) → take (i + 1) ts ≡ take i ts ++ x ∷ []
    → map without_pending (take i ts) ++ without_pending x ∷ [] ≡ map without_pending (take (i + 1) ts)
without_pending_next i ts x e = sym (ap (map without_pending) e ∙ map_append without_pending (take i ts) (x ∷ []))

pub without_pending_all : (i : ℕ) (ts : List Tuple) → length ts ≤ i → map without_pending (take i ts) ≡ map without_pending ts
without_pending_all i ts h = ap (map without_pending) (take_all i ts h)

pub fills_iteration : {m m1 m2 : List ℕ} (i : ℕ) (ts : List Tuple) (x : Tuple) → take (i + 1) ts ≡ take i ts ++ x ∷ [] → Fills (map without_pending (take i ts)) m m1
    → 1 ≤ length (flat_of m).entries → RowsBecome m1 m2 (behind (without_pending x)) more_last × InOrder m2 → Fills (map without_pending (take (i + 1) ts)) m m2
fills_iteration {m} {m1} {m2} i ts x e a s b = subst (λ (hs : List Held). Fills hs m m2) (without_pending_next i ts x e) (fills_more a (without_pending x) s b)

-- where the first i of n tuples are rows, there is room for one more
pub row_room : {m m1 : List ℕ} {n : ℕ} (i : ℕ) (ts : List Tuple) → length ts ≡ n → Fills (map without_pending (take i ts)) m m1
    → length (flat_of m).rows + n ≤ (flat_of m).head.capacity → i < n
    → RowsFit 1 m1
row_room {m} {m1} i ts l a k h =
    let c : length (map without_pending (take i ts)) ≡ i = length-map (take i ts) without_pending ∙ length-take-le i ts (omega arith) in
    let q : (flat_of m1).head.capacity ≡ (flat_of m).head.capacity = ap (λ (f : Flat). f.head.capacity) a.becomes.flat in
    let n = fills_count a in
    record { room = a.becomes.room; order = a.order; page = fills_page a; rows = omega arith }
