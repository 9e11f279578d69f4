-- The transactions of the tentative rows.
use Rattle.block_forms.specs.Limits.{most_statement}
use Rattle.basics.proofs.Kit.{◌≡◌, refl, sym, ap, ◌∙◌, true, false, List, [], ◌∷◌, ◌++◌, map, ℕ, suc, min, eqb, length}
use Rattle.basics.specs.Basics.{is_in, if'◌then◌else◌, any, keep, how_many}
use Rattle.basics.proofs.Facts.{by, lie}
use Rattle.image_rows.specs.Rows.{Row, is_own}
use Rattle.model.specs.State.{Active}
use Rattle.model.specs.Transactions.{open_numbers, one_more, with_write, is_for, without, written_by}
use Rattle.model.specs.Calls.{others}
use Rattle.model.specs.Recover.{reopened}
use Rattle.basics.proofs.Elements.{eqb-true, eqb_sym, not_in, in_past}
use Rattle.basics.proofs.Members.{in_but}
pub use Rattle.image_rows.proofs.Owners.{in_transactions}
pub use Rattle.image_rows.proofs.Counts.{transactions_distinct}

-- ---- all open transactions but one

pub in_others : (tx u : ℕ) (os : List ℕ) → eqb u tx ≡ false → is_in u os ≡ true → is_in u (others tx os) ≡ true
unfolding others
in_others tx u os h i = in_but tx u os h i

-- ---- the open transactions with their counts

pub numbers_append : (os : List Active) (o : Active) → open_numbers (os ++ o ∷ []) ≡ open_numbers os ++ o.transaction ∷ []
unfolding open_numbers
numbers_append [] o = refl
numbers_append (p ∷ os) o = ap (λ z. p.transaction ∷ z) (numbers_append os o)

pub numbers_write : (tx : ℕ) (os : List Active) → open_numbers (with_write tx os) ≡ open_numbers os
unfolding open_numbers with_write one_more if'◌then◌else◌
numbers_write tx [] = refl
numbers_write tx (o ∷ os) = by (is_for tx o) (λ h. rw h) (λ h. rw h (ap (λ z. o.transaction ∷ z) (numbers_write tx os)))

pub numbers_without : (tx : ℕ) (os : List Active) → open_numbers (without tx os) ≡ others tx (open_numbers os)
unfolding open_numbers without others keep is_for if'◌then◌else◌
numbers_without tx [] = refl
numbers_without tx (o ∷ os) = by (eqb o.transaction tx) (λ h. rw h (numbers_without tx os)) (λ h. rw h (ap (λ z. o.transaction ∷ z) (numbers_without tx os)))

pub numbers_length : (os : List Active) → length (open_numbers os) ≡ length os
unfolding open_numbers
numbers_length [] = refl
numbers_length (o ∷ os) = ap suc (numbers_length os)

pub numbers_reopened : (rs : List Row) (ts : List ℕ) → open_numbers (map (reopened rs) ts) ≡ ts
unfolding open_numbers reopened
numbers_reopened rs [] = refl
numbers_reopened rs (t ∷ ts) = ap (λ z. t ∷ z) (numbers_reopened rs ts)

-- ---- their counts

pub count_append : (tx u : ℕ) (os : List Active) → is_in tx (open_numbers os) ≡ true → written_by tx (os ++ record { transaction = u; written = 0 } ∷ []) ≡ written_by tx os
unfolding open_numbers written_by is_for if'◌then◌else◌
count_append tx u [] h = lie (unfold is_in any in h)
count_append tx u (o ∷ os) h =
    by (eqb o.transaction tx) (λ k. rw k) (λ k. rw k (count_append tx u os (sym (in_past tx o.transaction (open_numbers os) (eqb_sym o.transaction tx k)) ∙ h)))

pub count_new : (tx u : ℕ) (os : List Active) → is_in tx (open_numbers os) ≡ false → written_by tx (os ++ record { transaction = u; written = 0 } ∷ []) ≡ 0
unfolding open_numbers written_by is_for if'◌then◌else◌
count_new tx u [] h = by (eqb u tx) (λ k. rw k) (λ k. rw k)
count_new tx u (o ∷ os) h =
    let n = not_in tx o.transaction (open_numbers os) h in
    rw (eqb_sym tx o.transaction n.0) (count_new tx u os n.1)

pub count_write : (tx : ℕ) (os : List Active) → is_in tx (open_numbers os) ≡ true → written_by tx (with_write tx os) ≡ min (suc (written_by tx os)) most_statement
unfolding open_numbers written_by with_write one_more is_for if'◌then◌else◌
count_write tx [] h = lie (unfold is_in any in h)
count_write tx (o ∷ os) h =
    by (eqb o.transaction tx) (λ k. rw (k, k))
    (λ k. rw (k, k) (count_write tx os (sym (in_past tx o.transaction (open_numbers os) (eqb_sym o.transaction tx k)) ∙ h)))

pub count_other : (tx u : ℕ) (os : List Active) → eqb tx u ≡ false → written_by u (with_write tx os) ≡ written_by u os
unfolding written_by with_write one_more is_for if'◌then◌else◌
count_other tx u [] d = refl
count_other tx u (o ∷ os) d =
    by (eqb o.transaction tx)
    (λ k. let q : eqb o.transaction u ≡ false = ap (λ z. eqb z u) (eqb-true o.transaction tx k) ∙ d in rw (k, q))
    (λ k. by (eqb o.transaction u) (λ e. rw (k, e)) (λ e. rw (k, e) (count_other tx u os d)))

pub count_without : (tx u : ℕ) (os : List Active) → eqb tx u ≡ false → written_by u (without tx os) ≡ written_by u os
unfolding written_by without keep is_for if'◌then◌else◌
count_without tx u [] d = refl
count_without tx u (o ∷ os) d =
    by (eqb o.transaction tx)
    (λ k. let q : eqb o.transaction u ≡ false = ap (λ z. eqb z u) (eqb-true o.transaction tx k) ∙ d in rw (k, q) (count_without tx u os d))
    (λ k. by (eqb o.transaction u) (λ e. rw (k, e)) (λ e. rw (k, e) (count_without tx u os d)))

pub count_reopened : (rs : List Row) (tx : ℕ) (ts : List ℕ) → is_in tx ts ≡ true → written_by tx (map (reopened rs) ts) ≡ how_many (is_own tx) rs
unfolding written_by reopened is_for if'◌then◌else◌
count_reopened rs tx [] h = lie (unfold is_in any in h)
count_reopened rs tx (t ∷ ts) h =
    by (eqb t tx) (λ k. rw k (ap (λ z. how_many (is_own z) rs) (eqb-true t tx k))) (λ k. rw k (count_reopened rs tx ts (sym (in_past tx t ts (eqb_sym t tx k)) ∙ h)))
