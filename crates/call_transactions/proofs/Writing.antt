-- A tuple written: its row, the counters, the store with it.
use Rattle.block_forms.specs.Limits.{most_statement}
use Rattle.basics.proofs.Kit.{◌≡◌, refl, sym, ap, ◌∙◌, Bool, some, List, ℕ, suc, ◌+◌, ◌≤◌, ◌<◌, min, add-one, length, set, arith}
use Rattle.basics.specs.Basics.{all}
use Rattle.block_forms.specs.Tuple.{Tuple, tentative}
use Rattle.model.specs.State.{Page, Active, Store}
use Rattle.model.specs.Rules.{place}
use Rattle.model.specs.Transactions.{changed, written_by, one_more, with_write, new_tuple, after_write}
use Rattle.memory_layout.specs.Flat.{Flat, flat_of, Room, Replaces, Becomes, with_head, with_opens}
use Rattle.memory_layout.specs.Store.{store_of, pages_in, has_rows, HoldsNow}
use Rattle.memory_layout.specs.Opens.{active_of, OpenFits, find_open}
use Rattle.memory_layout.specs.declared.Head.{Head}
use Rattle.memory_layout.specs.declared.Open.{Open}
use Rattle.memory_layout.proofs.Laws.{holds_room, holds_counted, held_again, becomes_then, store_pages}
use Rattle.block_forms.specs.Bytes.{owner_is}
use Rattle.memory_rows.specs.declared.Row.{Row}
use Rattle.memory_pages.specs.Spots.{table_page, table_row, table_rows, place_in}
use Rattle.engine_pages.specs.Pages.{with_pages}
use Rattle.engine_pages.specs.Spots.{tuple_by, PlaceAt}
use Rattle.call_transactions.specs.Calls.{open_in, WriterAt, NextRow, next_head, after_count, AcceptAt}
use Rattle.call_transactions.proofs.Opens.{found_is, count_is, wrote_is}

-- ---- one more

module _ (o : Open) where
  pub more_one : o.written < most_statement → active_of (record { transaction = o.transaction; written = o.written + 1 }) ≡ one_more (active_of o)
  unfolding one_more
  more_one h =
      let e : o.written + 1 ≡ min (suc o.written) most_statement = omega arith in
      ap (λ (z : ℕ). record { transaction = o.transaction; written = z }) e

  pub more_full : OpenFits o → most_statement ≤ o.written → active_of o ≡ one_more (active_of o)
  unfolding one_more
  more_full f h =
      let e : o.written ≡ min (suc o.written) most_statement = omega (arith, f.written) in
      ap (λ (z : ℕ). record { transaction = o.transaction; written = z }) e

-- ---- the counters

pub next_replaces : {m : List ℕ} {h : Head} → Room m → h ≡ (flat_of m).head → Replaces (flat_of m).head (next_head h)
next_replaces r e =
    let a = ap (λ (z : Head). z.blocks) e in
    let b = ap (λ (z : Head). z.taken) e in
    record { capacity = ap (λ (z : Head). z.capacity) e; few = omega (arith, a, r.range.few); many = omega (arith, a, r.range.many); taken = omega (arith, a, b, r.range.taken) }

pub same_opens : {m m1 : List ℕ} {h : Head} → Becomes m m1 (with_head (flat_of m) h) → length (flat_of m1).opens ≡ length (flat_of m).opens
same_opens b = ap (λ (z : Flat). length z.opens) b.flat

module _ {m m1 m2 : List ℕ} (i : ℕ) where
  pub counted : {h : Head} {a : Active} → h ≡ (flat_of m).head → a ≡ one_more (open_in (flat_of m) i) → Becomes m m1 (with_head (flat_of m) (next_head h))
      → Becomes m1 m2 (with_opens (flat_of m1) (set (flat_of m1).opens i a)) → Becomes m m2 (after_count (flat_of m) i)
  counted {h} {a} eh ea b1 b2 =
      let f : Flat = flat_of m in
      let b = becomes_then m m1 m2 _ (λ F. with_opens F (set F.opens i a)) b1 b2 in
      record {
        size = b.size;
        room = b.room;
        flat = b.flat ∙ ap (λ (z : Active). with_opens (with_head f (next_head h)) (set f.opens i z)) ea
            ∙ ap (λ (z : Head). with_opens (with_head f (next_head z)) (set f.opens i (one_more (open_in f i)))) eh;
      }

-- ---- the row

-- the transaction is open, and a number is left
pub writer_at : {m : List ℕ} {tx t at k : ℕ} {bs : List ℕ} {i : ℕ} → AcceptAt m tx t at k bs → i ≡ find_open tx (flat_of m).opens → WriterAt m i
writer_at {m} g e = record { room = holds_room m g.has_store; inside = omega (arith, g.opened, e); next = g.next }

same_place : (f : Flat) (i t k : ℕ) → place_in (after_count f i) t k ≡ place_in f t k
unfolding place_in table_rows table_row table_page
same_place f i t k = refl

with_changed : (s : Store) (n : ℕ) (ps qs : List Page) (os : List Active) → with_pages (changed s n ps os) qs ≡ changed s n qs os
unfolding with_pages changed
with_changed s n ps qs os = refl

module _ {m : List ℕ} {tx t at k : ℕ} {bs : List ℕ} {mark : Bool} {i : ℕ} {r : Row} (g : AcceptAt m tx t at k bs) (ei : i ≡ find_open tx (flat_of m).opens)
    (new : NextRow (flat_of m) i k mark r) where
  abbrev f : Flat
  f = flat_of m

  tuple_is : tuple_by r bs ≡ new_tuple tx k bs mark (store_of f)
  unfolding new_tuple store_of
  tuple_is =
      let a : (open_in f i).transaction ≡ tx = ap (λ (z : ℕ). (open_in f z).transaction) ei ∙ found_is tx f.opens g.opened in
      let b : (open_in f i).written ≡ written_by tx f.opens = ap (λ (z : ℕ). (open_in f z).written) ei ∙ count_is tx f.opens g.opened in
      let o : owner_is r.owner ≡ tentative tx (written_by tx f.opens) = new.owner ∙ (λ j. tentative (a j) (b j)) in
      λ j. record { key = new.key j; number = new.number j; owner = o j; mark = new.marked j; payload = bs }

  counted_store : store_of (after_count f i) ≡ changed (store_of f) (suc (store_of f).next) (pages_in f) (with_write tx (store_of f).active)
  unfolding store_of changed
  counted_store =
      let os : List Active = f.opens in
      let q : set os i (one_more (open_in f i)) ≡ with_write tx os = ap (λ (z : ℕ). set os z (one_more (open_in f z))) ei ∙ wrote_is tx os g.opened in
      ap (λ (z : List Active). changed (store_of f) (f.head.next + 1) (pages_in f) z) q
      ∙ ap (λ (z : ℕ). changed (store_of f) z (pages_in f) (with_write tx os)) (add-one f.head.next)

  module _ {m1 : List ℕ} (b : Becomes m m1 (after_count (flat_of m) i)) where
    pub place_at : PlaceAt m1 t at r bs
    place_at =
        let e : flat_of m1 ≡ after_count f i = b.flat in
        record {
          tuple = record {
            has_store = held_again m1 b.room (ap (λ (z : Flat). all has_rows z.entries) e ∙ holds_counted m g.has_store);
            more = omega (arith, g.free, ap (λ (z : Flat). length z.rows) e, ap (λ (z : Flat). z.head.capacity) e);
            plain = new.pending;
            owner = new.fits;
            payload = g.short;
          };
          table = g.table;
          place = g.place ∙ sym (ap (λ (z : Flat). place_in z t r.key) e ∙ same_place f i t r.key ∙ ap (place_in f t) new.key);
        }

    pub accepted : {m2 : List ℕ} → HoldsNow m1 m2 (with_pages (store_of (flat_of m1)) (place t (tuple_by r bs) (pages_in (flat_of m1))))
        → HoldsNow m m2 (after_write tx t k bs mark (store_of (flat_of m)))
    unfolding after_write
    accepted u =
        let e : flat_of m1 ≡ after_count f i = b.flat in
        let ps : place t (tuple_by r bs) (pages_in (flat_of m1)) ≡ place t (new_tuple tx k bs mark (store_of f)) (store_of f).pages =
        ap (λ (z : Tuple). place t z (pages_in (flat_of m1))) tuple_is ∙ ap (place t (new_tuple tx k bs mark (store_of f))) (ap pages_in e ∙ sym (store_pages f)) in
        record {
          size = u.size ∙ b.size;
          store = u.store ∙ ap some (ap (λ (z : Store). with_pages z (place t (tuple_by r bs) (pages_in (flat_of m1)))) (ap store_of e ∙ counted_store)
              ∙ with_changed (store_of f) (suc (store_of f).next) (pages_in f) (place t (tuple_by r bs) (pages_in (flat_of m1))) (with_write tx (store_of f).active)
              ∙ ap (λ (z : List Page). changed (store_of f) (suc (store_of f).next) z (with_write tx (store_of f).active)) ps);
        }
