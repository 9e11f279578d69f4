-- The transactions of a list of rows: those that have a row.
use Rattle.basics.proofs.Kit.{◌≡◌, refl, sym, ap, ◌∙◌, Bool, ◌||◌, List, [], ◌∷◌, ℕ}
use Rattle.basics.specs.Basics.{if'◌then◌else◌, any, is_in}
use Rattle.basics.proofs.Facts.{by}
use Rattle.block_forms.specs.Tuple.{Owner, committed, tentative}
use Rattle.image_rows.specs.Rows.{Row, is_by, is_own, add_owner, transactions}
use Rattle.basics.proofs.Searches.{any_cons}
use Rattle.basics.proofs.Members.{in_cons, or_in}

in_added : (t : ℕ) (o : Owner) (ts : List ℕ) → is_in t (add_owner o ts) ≡ (is_by t o || is_in t ts)
unfolding add_owner is_by if'◌then◌else◌
in_added t committed ts = refl
in_added t (tentative u s) ts = by (is_in u ts) (λ h. rw h (or_in t u ts h)) (λ h. rw h (in_cons t u ts))

-- a transaction is listed if it has a row
pub in_transactions : (t : ℕ) (rs : List Row) → is_in t (transactions rs) ≡ any (is_own t) rs
unfolding transactions is_in any is_own
in_transactions t [] = refl
in_transactions t (r ∷ rs) =
    in_added t r.1.owner (transactions rs)
    ∙ ap (λ (b : Bool). is_by t r.1.owner || b) (in_transactions t rs)
    ∙ sym (any_cons (is_own t) r rs)
