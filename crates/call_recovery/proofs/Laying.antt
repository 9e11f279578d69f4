-- The steps of the loading, one after the other: what each asks, and what they come to.
use Rattle.block_forms.specs.Limits.{block_limit}
use Rattle.basics.proofs.Kit.{◌≡◌, refl, sym, ap, ◌∙◌, subst, true, some, List, ℕ, ◌+◌, ◌≤◌, length, arith}
use Rattle.basics.specs.Basics.{all, paired}
use Rattle.basics.proofs.Facts.{AllOf}
use Rattle.block_forms.specs.declared.Header.{Header}
use Rattle.image_rows.specs.Rows.{open_limit, transactions, follows}
use Rattle.image.specs.Stages.{directory_blocks, StoredPage, rows_of_pages}
use Rattle.model.specs.Recover.{recovered_store}
use Rattle.memory_layout.specs.Flat.{Flat, flat_of, Becomes, Replaces, with_head}
use Rattle.memory_layout.specs.Store.{has_rows, fresh_flat, store_of, HoldsNow}
use Rattle.memory_layout.proofs.Laws.{becomes_then, becomes_store}
use Rattle.memory_rows.specs.Cells.{InOrder}
use Rattle.call_recovery.specs.Loading.{blocks_in, with_pages, Loads, RoomFor}
use Rattle.call_recovery.specs.Reopening.{AllOwners, own_rows}
use Rattle.call_recovery.proofs.Tested.{PageOk}
use Rattle.call_recovery.proofs.Rising.{tables_rise}
use Rattle.call_recovery.proofs.Stored.{helds_count, pages_few, rows_there, owners_there, own_transactions, head_for, marking, laid_pages, reopened_in, store_is}

module _ (h : Header) (ps : List StoredPage) (ok : AllOf PageOk ps) where
  fresh_room : length (rows_of_pages ps) ≤ h.capacity → paired follows (rows_of_pages ps) ≡ true → RoomFor ps (fresh_flat h.blocks h.capacity)
  unfolding fresh_flat
  fresh_room rows rise = record { rows = omega (arith, helds_count ps); entries = omega (arith, helds_count ps, pages_few ps ok); tables = tables_rise ps ok rise }

  fresh_none : length (fresh_flat h.blocks h.capacity).rows ≡ 0
  unfolding fresh_flat
  fresh_none = refl

  module _ {m m1 : List ℕ} (a : Becomes m m1 (fresh_flat h.blocks h.capacity)) where
    pub pages_room : length (rows_of_pages ps) ≤ h.capacity → paired follows (rows_of_pages ps) ≡ true → RoomFor ps (flat_of m1)
    pages_room rows rise = subst (RoomFor ps) (sym a.flat) (fresh_room rows rise)

    pub order_none : InOrder m1
    order_none = record { slot = λ i k. absurd (omega (arith, ap (λ (f : Flat). length f.rows) a.flat, fresh_none)) }

    -- the pages, then their blocks and the directory blocks
    pub marked : {m2 m3 m4 : List ℕ} (es ds : List ℕ) → Loads ps m1 m2 → Becomes m2 m3 (marking es (flat_of m2)) → Becomes m3 m4 (marking ds (flat_of m3))
        → Becomes m m4 (laid_pages h ps es ds)
    marked {m2} {m3} {m4} es ds b c d =
        let f : Flat = fresh_flat h.blocks h.capacity in
        let P : Flat → Flat = λ g. with_pages g ps in
        becomes_then m m3 m4 (marking es (P f)) (marking ds) (becomes_then m m2 m3 (P f) (marking es) (becomes_then m m1 m2 f P a b.becomes) c) d

  module _ (es ds : List ℕ) {m m4 : List ℕ} (a : Becomes m m4 (laid_pages h ps es ds)) where
    laid_open : length (laid_pages h ps es ds).opens + length (transactions (own_rows (laid_pages h ps es ds))) ≡ length (transactions (rows_of_pages ps))
    unfolding fresh_flat own_rows
    laid_open = omega (arith, ap length (own_transactions ps))

    laid_owners : AllOwners (laid_pages h ps es ds).rows
    unfolding fresh_flat
    laid_owners = owners_there ps ok

    pub owners_room : AllOwners (flat_of m4).rows
    owners_room = subst (λ (f : Flat). AllOwners f.rows) (sym a.flat) laid_owners

    pub opens_room : length (transactions (rows_of_pages ps)) ≤ open_limit → length (flat_of m4).opens + length (transactions (own_rows (flat_of m4))) ≤ open_limit
    opens_room k = omega (arith, ap (λ (f : Flat). length f.opens + length (transactions (own_rows f))) a.flat, laid_open)

    module _ {m5 : List ℕ} (r : Becomes m4 m5 (reopened_in (flat_of m4))) where
      again : Becomes m m5 (reopened_in (laid_pages h ps es ds))
      again = becomes_then m m4 m5 (laid_pages h ps es ds) reopened_in a r

      laid_capacity : (laid_pages h ps es ds).head.capacity ≡ h.capacity
      unfolding fresh_flat
      laid_capacity = refl

      pub head_fits : 2 ≤ h.blocks → h.blocks ≤ block_limit → Replaces (flat_of m5).head (head_for h)
      head_fits lo hi =
          record { capacity = sym (ap (λ (f : Flat). f.head.capacity) again.flat ∙ laid_capacity); few = lo; many = hi; taken = omega arith }

      laid_rows : all has_rows (laid_pages h ps es ds).entries ≡ true
      unfolding fresh_flat
      laid_rows = rows_there ps ok

      pub laid_out : {m6 : List ℕ} → es ≡ blocks_in ps → ds ≡ directory_blocks h → Becomes m5 m6 (with_head (flat_of m5) (head_for h)) → HoldsNow m m6 (recovered_store h ps)
      laid_out {m6} ee ed k =
          let H : Flat → Flat = λ g. with_head g (head_for h) in
          let s = becomes_then m m5 m6 (reopened_in (laid_pages h ps es ds)) H again k in
          record {
            size = s.size;
            store = becomes_store s laid_rows ∙ ap some ((λ i. store_of (H (reopened_in (laid_pages h ps (ee i) (ed i))))) ∙ store_is h ps);
          }
