-- The store that the memory holds when all is loaded.
use Rattle.basics.proofs.Kit.{◌≡◌, refl, sym, ap, ◌∙◌, true, false, List, [], ◌∷◌, ◌++◌, map, ℕ, ◌≤◌, length, drop, length-append, length-map, take_at, drop_at, le-leb, arith}
use Rattle.basics.specs.Basics.{if'◌then◌else◌, all, how_many, is_in}
use Rattle.basics.proofs.Facts.{AllOf}
use Rattle.basics.proofs.Lists.{map_append}
use Rattle.basics.proofs.Elements.{all_append, all_map, all_mapped}
use Rattle.basics.proofs.Maps.{count_kept}
use Rattle.block_forms.specs.Tuple.{Tuple, OwnerFits, Fits}
use Rattle.block_forms.specs.declared.Header.{Header}
use Rattle.image_rows.specs.Rows.{Row, rows_of, is_own, transactions}
use Rattle.image_rows.proofs.Kept.{transactions_kept}
use Rattle.image.specs.Stages.{directory_blocks, StoredPage, rows_of_pages}
use Rattle.image.proofs.Collect.{length_rows}
use Rattle.model.specs.State.{Held, idle}
use Rattle.model.specs.Rules.{without_pending}
use Rattle.model.specs.Recover.{loaded, reopened, recovered_store}
use Rattle.memory_layout.specs.Flat.{Flat, with_head, with_opens, with_used}
use Rattle.memory_layout.specs.Store.{page_of, nest, checkpoint_of, store_of, has_rows, fresh_flat}
use Rattle.memory_layout.specs.declared.Head.{Head}
use Rattle.call_recovery.specs.Loading.{helds_of, entry_for, blocks_in, used_by, with_pages}
use Rattle.call_recovery.specs.Reopening.{AllOwners, own_row, own_rows}
use Rattle.call_recovery.proofs.Marking.{used_first, used_then}
use Rattle.call_recovery.proofs.Tested.{PageOk}

-- ---- pages

-- as many tuples as rows
pub helds_count : (ps : List StoredPage) → length (helds_of ps) ≡ length (rows_of_pages ps)
unfolding helds_of rows_of_pages
helds_count [] = refl
helds_count (p ∷ ps) =
    let a = length-append (map without_pending p.tuples) (helds_of ps) in
    let b = length-append (rows_of p.table p.tuples) (rows_of_pages ps) in
    omega (arith, a, b, length-map p.tuples without_pending, length_rows p.table p.tuples, helds_count ps)

-- as many pages as rows at most
pub pages_few : (ps : List StoredPage) → AllOf PageOk ps → length ps ≤ length (helds_of ps)
unfolding helds_of
pages_few [] a = omega arith
pages_few (p ∷ ps) a =
    omega (arith, length-append (map without_pending p.tuples) (helds_of ps), length-map p.tuples without_pending, a.0.filled, pages_few ps a.1)

page_is : (p : StoredPage) → page_of (entry_for p) (map without_pending p.tuples) ≡ loaded p
unfolding page_of entry_for loaded
page_is p = refl

entry_count : (p : StoredPage) → (entry_for p).count ≡ length p.tuples
unfolding entry_for
entry_count p = refl

pages_are : (ps : List StoredPage) → nest (map entry_for ps) (helds_of ps) ≡ map loaded ps
unfolding nest helds_of
pages_are [] = refl
pages_are (p ∷ ps) =
    let hs : List Held = map without_pending p.tuples in
    let l : length hs ≡ (entry_for p).count = length-map p.tuples without_pending ∙ sym (entry_count p) in
    ap (λ (z : List Held). page_of (entry_for p) z ∷ nest (map entry_for ps) (drop (entry_for p).count (hs ++ helds_of ps))) (take_at hs (helds_of ps) (entry_for p).count l)
    ∙ ap (λ (z : List Held). page_of (entry_for p) hs ∷ nest (map entry_for ps) z) (drop_at hs (helds_of ps) (entry_for p).count l)
    ∙ (λ i. page_is p i ∷ pages_are ps i)

pub rows_there : (ps : List StoredPage) → AllOf PageOk ps → all has_rows (map entry_for ps) ≡ true
unfolding all has_rows
rows_there [] a = refl
rows_there (p ∷ ps) a = rw (le-leb 1 (entry_for p).count (omega (arith, entry_count p, a.0.filled)), rows_there ps a.1)

-- ---- open transactions

pub owners_there : (ps : List StoredPage) → AllOf PageOk ps → AllOwners (helds_of ps)
unfolding helds_of without_pending
owners_there [] a = tt
owners_there (p ∷ ps) a =
    let own : Held → Type 0 = λ h. OwnerFits h.tuple.owner in
    all_append own (map without_pending p.tuples) (helds_of ps) (all_mapped own without_pending p.tuples (all_map Fits _ (λ x f. f.owner) p.tuples a.0.tuples)) (owners_there ps a.1)

-- a row without its table
abbrev plain : Row → Row
plain r = (0, r.1)

rows_plain : (t : ℕ) (ts : List Tuple) → map own_row (map without_pending ts) ≡ map plain (rows_of t ts)
unfolding rows_of without_pending
rows_plain t [] = refl
rows_plain t (x ∷ ts) = ap (λ (z : List Row). (0, x) ∷ z) (rows_plain t ts)

helds_plain : (ps : List StoredPage) → map own_row (helds_of ps) ≡ map plain (rows_of_pages ps)
unfolding helds_of rows_of_pages
helds_plain [] = refl
helds_plain (p ∷ ps) =
    map_append own_row (map without_pending p.tuples) (helds_of ps)
    ∙ (λ i. rows_plain p.table p.tuples i ++ helds_plain ps i)
    ∙ sym (map_append plain (rows_of p.table p.tuples) (rows_of_pages ps))

module _ (ps : List StoredPage) where
  pub own_transactions : transactions (map own_row (helds_of ps)) ≡ transactions (rows_of_pages ps)
  own_transactions = ap transactions (helds_plain ps) ∙ transactions_kept plain (λ r. refl) (rows_of_pages ps)

  own_count : (t : ℕ) → how_many (is_own t) (map own_row (helds_of ps)) ≡ how_many (is_own t) (rows_of_pages ps)
  unfolding is_own
  own_count t = ap (how_many (is_own t)) (helds_plain ps) ∙ count_kept (is_own t) (is_own t) plain (λ r. refl) (rows_of_pages ps)

  actives_are : (ts : List ℕ) → map (reopened (map own_row (helds_of ps))) ts ≡ map (reopened (rows_of_pages ps)) ts
  unfolding reopened
  actives_are [] = refl
  actives_are (t ∷ ts) = λ i. record { transaction = t; written = own_count t i } ∷ actives_are ts i

  open_is : map (reopened (map own_row (helds_of ps))) (transactions (map own_row (helds_of ps))) ≡ map (reopened (rows_of_pages ps)) (transactions (rows_of_pages ps))
  open_is = ap (map (reopened (map own_row (helds_of ps)))) own_transactions ∙ actives_are (transactions (rows_of_pages ps))

-- ---- all together

-- the header's numbers, no checkpoint running, the search at 1
abbrev pub head_for : Header → Head
head_for h = record { capacity = h.capacity; blocks = h.blocks; level = h.level; next = h.next; running = false; begun = 0; taken = 0 }

-- the blocks bs in use too
abbrev pub marking : List ℕ → Flat → Flat
marking bs f = with_used f (used_by bs f.used)

-- an empty store with the pages, their blocks and the directory blocks
abbrev pub laid_pages : Header → List StoredPage → List ℕ → List ℕ → Flat
laid_pages h ps es ds = marking ds (marking es (with_pages (fresh_flat h.blocks h.capacity) ps))

-- and with the open transactions
abbrev pub reopened_in : Flat → Flat
reopened_in f = with_opens f (f.opens ++ map (reopened (own_rows f)) (transactions (own_rows f)))

used_is : (h : Header) (ps : List StoredPage) → used_by (directory_blocks h) (used_by (blocks_in ps) (λ c. false)) ≡ (λ b. is_in b (map (λ p. p.block) ps ++ directory_blocks h))
unfolding blocks_in
used_is h ps = used_then (blocks_in ps) (directory_blocks h) (λ c. false) ∙ used_first (blocks_in ps ++ directory_blocks h)

pub store_is : (h : Header) (ps : List StoredPage) → store_of (with_head (reopened_in (laid_pages h ps (blocks_in ps) (directory_blocks h))) (head_for h)) ≡ recovered_store h ps
unfolding store_of recovered_store fresh_flat own_rows checkpoint_of if'◌then◌else◌
store_is h ps =
    let a = pages_are ps in
    let b = open_is ps in
    let u = used_is h ps in
    λ i. record {
      blocks = h.blocks;
      capacity = h.capacity;
      level = h.level;
      next = h.next;
      pages = a i;
      active = b i;
      used = u i;
      taken = 0;
      checkpoint = idle;
    }
