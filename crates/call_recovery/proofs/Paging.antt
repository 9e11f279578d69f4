-- Pages, one behind the other: what a block that was read says, and what it comes to in the memory.
use Rattle.block_forms.specs.Limits.{block_limit}
use Rattle.basics.proofs.Kit.{◌≡◌, refl, sym, ap, ◌∙◌, subst, true, Option, List, [], ◌∷◌, ◌++◌, append_assoc, append-nil, map, ℕ, ◌+◌, ◌≤◌, ◌<◌, zero-add, leb, length}
use Rattle.basics.proofs.Kit.{get_or, length-append, length-map, leb-true, arith}
use Rattle.std.specs.Prelude.{Some}
use Rattle.basics.specs.Basics.{is_some}
use Rattle.basics.proofs.Lists.{map_append, all_get}
use Rattle.block_forms.specs.Tuple.{Tuple}
use Rattle.block_forms.specs.Block.{Block, PageBlock, as_page}
use Rattle.block_forms.specs.Decode.{decode_block}
use Rattle.block_reader.specs.Answers.{reading}
use Rattle.block_reader.specs.declared.Block.TheVariants.{Page}
use Rattle.block_reader.specs.declared.PageHead.{PageHead}
use Rattle.block_reader.proofs.Answering.{is_page}
use Rattle.block_forms.proofs.Laws.{page_read}
use Rattle.image.specs.View.{view, block_at}
use Rattle.image.specs.Stages.{StoredPage}
use Rattle.model.specs.State.{Held}
use Rattle.model.specs.Rules.{without_pending}
use Rattle.memory_layout.specs.Flat.{Flat, flat_of, no_entry, Room, with_rows, with_entries}
use Rattle.memory_layout.specs.declared.Entry.{Entry}
use Rattle.memory_layout.proofs.Laws.{becomes_none, becomes_then}
use Rattle.memory_rows.specs.Cells.{InOrder}
use Rattle.memory_pages.specs.Pages.{MayAppend, clean, behind, EntriesBecome}
use Rattle.call_recovery.specs.Loading.{page_at, tuples_in, helds_of, entry_for, last_more, with_pages, TablesRise, Fills, Loads, RoomFor, PageIn, PagesFit, RowsFit}
use Rattle.call_recovery.proofs.Adding.{becomes_as, last_more_lem}

-- ---- a block that was read

-- block e holds a page of table t with n tuples
pub record Here (e t n : ℕ) (o : Option PageBlock) : Type 0 where
  pub is : is_some o ≡ true
  pub count : length (tuples_in o) ≡ n
  pub stored : page_at e o ≡ record { block = e; table = t; tuples = tuples_in o } ∷ []

pub here : (e : ℕ) {h : PageHead} (b : Block) → Some (Page h) ≡ reading b → Here e h.table h.count (as_page b)
unfolding is_some tuples_in page_at
here e b q = let p = is_page b q in rw p.is (record { is = refl; count = p.count; stored = refl })

table_small : (xs : List ℕ) {h : PageHead} → Some (Page h) ≡ reading (decode_block xs) → h.table < 8
table_small xs q = (page_read xs (is_page (decode_block xs) q).is).range.table

pub seen_here : (img : List ℕ) {bs : List ℕ} (e : ℕ) → bs ≡ block_at img e → decode_block bs ≡ view img e
unfolding view
seen_here img e q = ap decode_block q

-- ---- room

-- one page may stand behind the others, and its n rows behind the others
pub record OneFits (e t n : ℕ) (f : Flat) : Type 0 where
  pub may : MayAppend f t e
  pub rows : length f.rows + n ≤ f.head.capacity

one_fits : {e t n : ℕ} {o : Option PageBlock} {f : Flat} → e < block_limit → t < 8 → 1 ≤ f.head.capacity → Here e t n o → RoomFor (page_at e o) f → OneFits e t n f
unfolding helds_of TablesRise
one_fits {e} {t} {n} {o} {f} he ht hc h r =
    let ts : List Tuple = tuples_in o in
    let q : RoomFor (record { block = e; table = t; tuples = ts } ∷ []) f = subst (λ (ps : List StoredPage). RoomFor ps f) h.stored r in
    let k : length (map without_pending ts ++ []) ≡ n = ap length (append-nil (map without_pending ts)) ∙ length-map ts without_pending ∙ h.count in
    record {
      may = record {
        table = ht;
        below = λ j l. leb-true (get_or f.entries j no_entry).table t (all_get (λ x. leb x.table t) no_entry f.entries j q.tables.0 l);
        space = omega (arith, q.entries);
        block = he;
      };
      rows = omega (arith, q.rows);
    }

-- the page in block e, whose head was read, may stand behind the others
pub page_fits : {img bs m : List ℕ} (e : ℕ) {h : PageHead} → bs ≡ block_at img e → Some (Page h) ≡ reading (decode_block bs) → PageIn img e
    → PagesFit (page_at e (as_page (view img e))) m → OneFits e h.table h.count (flat_of m)
page_fits {img} {bs} {m} e b q p f =
    let r : RoomFor (page_at e (as_page (decode_block bs))) (flat_of m) = subst (λ (x : Block). RoomFor (page_at e (as_page x)) (flat_of m)) (sym (seen_here img e b)) f.fit in
    one_fits p.low (table_small bs q) f.room.range.least (here e (decode_block bs) q) r

-- behind the new page, which has no row
pub page_room : {m m1 : List ℕ} {e t n : ℕ} → EntriesBecome m m1 (behind (clean t e 0)) × InOrder m1 → OneFits e t n (flat_of m)
    → RowsFit n m1
page_room {m} {m1} {e} {t} a o =
    let l : length (flat_of m1).entries ≡ length (flat_of m).entries + 1 =
    ap (λ (f : Flat). length f.entries) a.0.flat ∙ length-append (flat_of m).entries (clean t e 0 ∷ []) in
    let r : length (flat_of m1).rows ≡ length (flat_of m).rows = ap (λ (f : Flat). length f.rows) a.0.flat in
    let c : (flat_of m1).head.capacity ≡ (flat_of m).head.capacity = ap (λ (f : Flat). f.head.capacity) a.0.flat in
    record { room = a.0.room; order = a.1; page = omega arith; rows = omega (arith, o.rows) }

-- ---- pages loaded

pub loads_none : {m : List ℕ} {ps : List StoredPage} → Room m → InOrder m → ps ≡ [] → Loads ps m m
unfolding helds_of
loads_none {m} r o e = rw e (record {
  becomes = becomes_as (sym (λ i. with_entries (with_rows (flat_of m) (append-nil (flat_of m).rows i)) (append-nil (flat_of m).entries i))) (becomes_none m r);
  order = o;
})

-- the page's entry, then its rows
pub loads_one : {m m1 m2 : List ℕ} (p : StoredPage) → EntriesBecome m m1 (behind (clean p.table p.block 0)) → Fills (map without_pending p.tuples) m1 m2 → Loads (p ∷ []) m m2
unfolding helds_of entry_for
loads_one {m} {m1} {m2} p a b =
    let hs : List Held = map without_pending p.tuples in
    let es : List Entry = (flat_of m).entries in
    let d : Entry = clean p.table p.block 0 in
    let F : Flat → Flat = λ f. with_entries (with_rows f (f.rows ++ hs)) (last_more (length hs) f.entries) in
    let c = becomes_then m m1 m2 (with_entries (flat_of m) (es ++ d ∷ [])) F a b.becomes in
    let n : 0 + length hs ≡ length p.tuples = zero-add (length hs) ∙ length-map p.tuples without_pending in
    let e : last_more (length hs) (es ++ d ∷ []) ≡ es ++ entry_for p ∷ [] =
    last_more_lem es d (length hs) ∙ (λ i. es ++ clean p.table p.block (n i) ∷ []) in
    record {
      becomes = becomes_as (λ i. with_entries (with_rows (flat_of m) ((flat_of m).rows ++ sym (append-nil hs) i)) (e i)) c;
      order = b.order;
    }

pub helds_append : (ps qs : List StoredPage) → helds_of (ps ++ qs) ≡ helds_of ps ++ helds_of qs
unfolding helds_of
helds_append [] qs = refl
helds_append (p ∷ ps) qs = ap (λ (z : List Held). map without_pending p.tuples ++ z) (helds_append ps qs) ∙ sym (append_assoc (map without_pending p.tuples) (helds_of ps) (helds_of qs))

-- the same pages, said otherwise
pub loads_as : {m m1 : List ℕ} {ps qs : List StoredPage} → ps ≡ qs → Loads ps m m1 → Loads qs m m1
loads_as {m} {m1} e a = subst (λ (z : List StoredPage). Loads z m m1) e a

-- pages, then further pages
pub loads_then : {m m1 m2 : List ℕ} {ps qs : List StoredPage} → Loads ps m m1 → Loads qs m1 m2 → Loads (ps ++ qs) m m2
loads_then {m} {m1} {m2} {ps} {qs} a b =
    let F : Flat → Flat = λ f. with_pages f qs in
    let c = becomes_then m m1 m2 (with_pages (flat_of m) ps) F a.becomes b.becomes in
    let er : ((flat_of m).rows ++ helds_of ps) ++ helds_of qs ≡ (flat_of m).rows ++ helds_of (ps ++ qs) =
    append_assoc (flat_of m).rows (helds_of ps) (helds_of qs) ∙ ap (λ (z : List Held). (flat_of m).rows ++ z) (sym (helds_append ps qs)) in
    let ee : ((flat_of m).entries ++ map entry_for ps) ++ map entry_for qs ≡ (flat_of m).entries ++ map entry_for (ps ++ qs) =
    append_assoc (flat_of m).entries (map entry_for ps) (map entry_for qs) ∙ ap (λ (z : List Entry). (flat_of m).entries ++ z) (sym (map_append entry_for ps qs)) in
    record { becomes = becomes_as (λ i. with_entries (with_rows (flat_of m) (er i)) (ee i)) c; order = b.order }

-- the tables of some pages, and of those behind them
pub rise_split : (es : List Entry) (ps qs : List StoredPage) → TablesRise es (ps ++ qs) → TablesRise es ps × TablesRise (es ++ map entry_for ps) qs
unfolding TablesRise
rise_split es [] qs h = (tt, subst (λ (z : List Entry). TablesRise z qs) (sym (append-nil es)) h)
rise_split es (p ∷ ps) qs h =
    let r = rise_split (es ++ entry_for p ∷ []) ps qs h.1 in
    ((h.0, r.0), subst (λ (z : List Entry). TablesRise z qs) (append_assoc es (entry_for p ∷ []) (map entry_for ps)) r.1)
