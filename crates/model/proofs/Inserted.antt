-- Placing, on the live rows, in closed form.
use Rattle.basics.proofs.Kit.{◌≡◌, refl, sym, ap, ◌∙◌, Bool, true, false, ◌&&◌, ◌||◌, List, [], ◌∷◌, ◌++◌, ℕ, suc, leb, eqb, ltb, arith}
use Rattle.basics.specs.Basics.{if'◌then◌else◌, how_many}
use Rattle.basics.proofs.Facts.{by, AllOf}
use Rattle.block_forms.specs.Tuple.{Tuple}
use Rattle.image_rows.specs.Rows.{Row}
use Rattle.model.specs.State.{Page}
use Rattle.model.specs.Rules.{place}
use Rattle.model.specs.Sight.{rows, held}
use Rattle.basics.proofs.Elements.{leb-false, eqb_self, le_true, leb-true, eqb-true, Pairs}
use Rattle.model.proofs.Sound.{PageOk}
use Rattle.model.proofs.Placing.{Above, NotAbove, Before, place_put}

unfoldable pub not_above : Row → Row → Bool
not_above x r = ltb r.0 x.0 || (eqb r.0 x.0 && leb r.1.key x.1.key)

-- after all rows not above
unfoldable pub insert_row : Row → List Row → List Row
insert_row x [] = x ∷ []
insert_row x (r ∷ rs) = if' not_above x r then r ∷ insert_row x rs else x ∷ r ∷ rs

low_yes : (x r : Row) → NotAbove x.0 x.1.key r → not_above x r ≡ true
unfolding not_above
low_yes x r h =
    by (ltb r.0 x.0) (λ k. rw k)
    (λ k. let e : r.0 ≡ x.0 = omega (arith, h.0, leb-false (suc r.0) x.0 k) in rw (k, e, eqb_self x.0, le_true r.1.key x.1.key (h.1 (omega arith))))

high_no : (x r : Row) → Above x.0 x.1.key r → not_above x r ≡ false
unfolding not_above
high_no x r h =
    by (ltb r.0 x.0) (λ k. absurd (omega (arith, h.0, leb-true (suc r.0) x.0 k)))
    (λ k. by (eqb r.0 x.0)
    (λ e. by (leb r.1.key x.1.key) (λ l. absurd
    (omega (arith, h.1 (omega (arith, eqb-true r.0 x.0 e)), leb-true r.1.key x.1.key l))) (λ l. rw (k, e, l)))
    (λ e. rw (k, e)))

put_insert : (x : Row) (low high : List Row) → AllOf (NotAbove x.0 x.1.key) low → AllOf (Above x.0 x.1.key) high
    → insert_row x (low ++ high) ≡ low ++ x ∷ high
unfolding insert_row if'◌then◌else◌
put_insert x [] [] a b = refl
put_insert x [] (r ∷ high) a b = rw (high_no x r b.0)
put_insert x (r ∷ low) high a b = rw (low_yes x r a.0, put_insert x low high a.1 b)

pub place_rows : (t : ℕ) (x : Tuple) (ps : List Page) → AllOf PageOk ps → Pairs Before (held ps) → rows (place t x ps) ≡ insert_row (t, x) (rows ps)
place_rows t x ps o s =
    let p = (place_put t x ps o s).1 in
    p.now ∙ sym (ap (insert_row (t, x)) p.was ∙ put_insert (t, x) p.low p.high p.below p.above)

pub many_inserted : (f : Row → Bool) (x : Row) (rs : List Row) → how_many f (insert_row x rs) ≡ (if' f x then suc (how_many f rs) else how_many f rs)
unfolding insert_row how_many if'◌then◌else◌
many_inserted f x [] = refl
many_inserted f x (r ∷ rs) =
    by (not_above x r)
    (λ h. by (f x) (λ k. by (f r) (λ m. rw (h, m, k, many_inserted f x rs, k)) (λ m. rw (h, m, k, many_inserted f x rs, k)))
    (λ k. by (f r) (λ m. rw (h, m, k, many_inserted f x rs, k)) (λ m. rw (h, m, k, many_inserted f x rs, k))))
    (λ h. rw h)
