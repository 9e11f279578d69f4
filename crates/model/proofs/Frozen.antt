-- What the running checkpoint will store of the frozen pages, in list order, is not touched by transactions; and each thaw
-- takes the first of them away.
use Rattle.basics.proofs.Kit.{◌≡◌, refl, sym, ◌∙◌, some, none, Option, List, [], ◌∷◌, ◌++◌, map, tail, ℕ}
use Rattle.basics.specs.Basics.{if'◌then◌else◌, any, first}
use Rattle.basics.proofs.Facts.{by, never}
use Rattle.block_forms.specs.Tuple.{Tuple}
use Rattle.model.specs.State.{Page}
use Rattle.model.specs.Rules.{shown, fresh, list_of}
use Rattle.model.specs.Rules.{thaw, thaw_on, is_pending, split_all, without_pending, live, is_frozen, around}
use Rattle.basics.proofs.Elements.{some_eq}
use Rattle.model.proofs.Moves.{Moves, moves_settle, all_come, still_frozen}

-- a page's table and tuples, as an image has them
abbrev pub Content : Type 0
Content = ℕ × List Tuple

-- the frozen pages' images
unfoldable pub images : List Page → List Content
images [] = []
images (p ∷ ps) = if' p.frozen then (p.table, shown p.tuples) ∷ images ps else images ps

images_append : (a b : List Page) → images (a ++ b) ≡ images a ++ images b
unfolding images if'◌then◌else◌
images_append [] b = refl
images_append (p ∷ a) b = by p.frozen (λ h. rw (h, images_append a b)) (λ h. rw (h, images_append a b))

pub images_moves : Moves (λ ps qs. images qs ≡ images ps)
images_moves = record {
  same = λ ps. refl;
  chain = λ ps qs rs f g. g ∙ f;
  left = λ c ps qs f. rw (images_append c qs, f, images_append c ps);
  right = λ c ps qs f. rw (images_append qs c, f, images_append ps c);
  comes = λ t ts. unfold images if'◌then◌else◌ fresh in refl;
  goes = λ p h. unfold images if'◌then◌else◌ in rw h;
  stays = λ p ts h e. unfold images if'◌then◌else◌ still_frozen in rw (h, e);
}

-- ---- thawing takes the first image away

images_thaw_on : (b : ℕ) (o : Option Page) (p : Page) (ps : List Page) → images (list_of o) ≡ [] → images (thaw_on b o p ps) ≡ images ps
unfolding thaw_on if'◌then◌else◌ images
images_thaw_on b o p ps f =
    by (any (λ x. is_pending x.pending) p.tuples)
    (λ h. rw h (moves_settle _ images_moves _ (all_come _ images_moves p.table (split_all (map without_pending (live p.tuples)))) o _ ps ∙ rw (images_append (list_of o), f)))
    (λ h. rw (h, images_append (list_of o), f))

images_around_first : (f : Option Page → Page → List Page → List Page)
    → ((o : Option Page) (p : Page) (ps : List Page) → images (list_of o) ≡ [] → images (f o p ps) ≡ images ps)
    → (o : Option Page) (ps : List Page) → images (list_of o) ≡ [] → images (around is_frozen f o ps) ≡ tail (images ps)
unfolding around is_frozen images if'◌then◌else◌ list_of
images_around_first f F o [] g = g
images_around_first f F o (p ∷ ps) g =
    by p.frozen (λ h. rw (h, around) (F o p ps g))
    (λ h. rw (h, around, images_append (list_of o), g) (images_around_first f F (some p) ps (rw h)))

pub images_thaw : (b : ℕ) (ps : List Page) → images (thaw b ps) ≡ tail (images ps)
unfolding thaw list_of images
images_thaw b ps = images_around_first (thaw_on b) (images_thaw_on b) none ps refl

-- the first frozen page has the first image
pub images_first : (ps : List Page) (p : Page) → first is_frozen ps ≡ some p → images ps ≡ (p.table, shown p.tuples) ∷ tail (images ps)
unfolding first images is_frozen if'◌then◌else◌
images_first [] p e = never e
images_first (q ∷ ps) p e =
    by q.frozen (λ h. let k : q ≡ p = some_eq (rw (h, first) at e) in rw (h, k)) (λ h. rw h (images_first ps p (rw (h, first) at e)))

pub images_none : (ps : List Page) → first is_frozen ps ≡ none → images ps ≡ []
unfolding first images is_frozen if'◌then◌else◌
images_none [] e = refl
images_none (q ∷ ps) e = by q.frozen (λ h. never (sym (rw (h, first) at e))) (λ h. rw h (images_none ps (rw (h, first) at e)))
