-- Open: its tests, and the store with one transaction more.
use Rattle.block_forms.specs.Limits.{most_transaction}
use Rattle.basics.proofs.Kit.{◌≡◌, ◌∙◌, true, List, [], ◌∷◌, ◌++◌, ℕ, ◌≤◌, ◌<◌, ltb, length, le-leb, lt-ltb, le-ltb, lt-leb}
use Rattle.model.specs.State.{Active}
use Rattle.model.specs.Transactions.{gives, open_call, changed}
use Rattle.memory_layout.specs.Flat.{Flat, flat_of, Becomes, with_opens}
use Rattle.memory_layout.specs.Store.{holds_store, store_of, HoldsNow}
use Rattle.memory_layout.specs.Opens.{find_open}
use Rattle.memory_layout.proofs.Laws.{holds_counted, becomes_store}
use Rattle.call_transactions.proofs.Opens.{found_open, not_found_open}
use Rattle.call_transactions.proofs.Refusing.{refused_here, passed_on, unless_none}
use Rattle.model.specs.State as model

module _ (tx : ℕ) (f : Flat) where
  -- a transaction that has written nothing
  abbrev opened : Active
  opened = record { transaction = tx; written = 0 }

  pub open_6 : most_transaction < tx → open_call tx (store_of f) ≡ gives (model.refused 6) (store_of f)
  unfolding open_call
  open_6 h = refused_here 6 (ltb most_transaction tx) _ _ _ (lt-ltb most_transaction tx h)

  module _ (h : tx ≤ most_transaction) where
    pub open_8 : find_open tx f.opens < length f.opens → open_call tx (store_of f) ≡ gives (model.refused 8) (store_of f)
    unfolding open_call store_of
    open_8 k = passed_on 6 (ltb most_transaction tx) _ _ _ (le-ltb most_transaction tx h) ∙ refused_here 8 _ _ _ _ (found_open tx f.opens k)

    module _ (k : length f.opens ≤ find_open tx f.opens) where
      pub open_9 : 64 ≤ length f.opens → open_call tx (store_of f) ≡ gives (model.refused 9) (store_of f)
      unfolding open_call store_of
      open_9 l =
          passed_on 6 (ltb most_transaction tx) _ _ _ (le-ltb most_transaction tx h) ∙ passed_on 8 _ _ _ _ (not_found_open tx f.opens k)
          ∙ refused_here 9 _ _ _ _ (le-leb 64 (length f.opens) l)

      pub open_done : length f.opens < 64 → open_call tx (store_of f) ≡ gives model.done (store_of (with_opens f (f.opens ++ opened ∷ [])))
      unfolding open_call store_of changed
      open_done l =
          passed_on 6 (ltb most_transaction tx) _ _ _ (le-ltb most_transaction tx h) ∙ passed_on 8 _ _ _ _ (not_found_open tx f.opens k)
          ∙ passed_on 9 _ _ _ _ (lt-leb 64 (length f.opens) l) ∙ unless_none _ _

-- other open transactions: the memory still holds a store
pub opens_hold : (m m' : List ℕ) (os : List Active) → holds_store m ≡ true → Becomes m m' (with_opens (flat_of m) os)
    → HoldsNow m m' (store_of (with_opens (flat_of m) os))
opens_hold m m' os h b = record { size = b.size; store = becomes_store b (holds_counted m h) }
