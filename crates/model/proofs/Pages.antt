-- A property of pages that every fresh page has, and a frozen page whatever its tuples, is kept by the rules.
use Rattle.basics.proofs.Kit.{◌≡◌, sym, subst, Bool, true, false, some, none, Option, List, [], ◌∷◌, map, ℕ}
use Rattle.basics.specs.Basics.{if'◌then◌else◌, first, any}
use Rattle.basics.proofs.Facts.{AllOf, by, never}
use Rattle.model.specs.State.{Page, Held}
use Rattle.model.specs.Rules.{fresh, list_of, around, thaw}
use Rattle.model.specs.Rules.{is_frozen, is_pending, thaw_on, split_all, without_pending, live}
use Rattle.basics.proofs.Elements.{all_append, some_eq, all_parts}
use Rattle.model.proofs.Moves.{still_frozen, Moves, moves_settle, all_come}

module _ (Q : Page → Type 0) (Q-fresh : (t : ℕ) (ts : List Held) → Q (fresh t ts))
    (Q-frozen : (p : Page) (ts : List Held) → p.frozen ≡ true → Q p → Q (still_frozen p ts)) where
  pub all_moves : Moves (λ ps qs. AllOf Q ps → AllOf Q qs)
  all_moves = record {
    same = λ ps a. a;
    chain = λ ps qs rs f g a. g (f a);
    left = λ c ps qs f a. let k = all_parts Q c ps a in all_append Q c qs k.0 (f k.1);
    right = λ c ps qs f a. let k = all_parts Q ps c a in all_append Q qs c (f k.0) k.1;
    comes = λ t ts a. (Q-fresh t ts, tt);
    goes = λ p h a. tt;
    stays = λ p ts h e a. (Q-frozen p ts h a.0, tt);
  }

  all_around_first : (hit : Page → Bool) (f : Option Page → Page → List Page → List Page) (q : Page)
      → ((o : Option Page) (ps : List Page) → AllOf Q (list_of o) → AllOf Q ps → AllOf Q (f o q ps))
      → (o : Option Page) (ps : List Page) → first hit ps ≡ some q → AllOf Q (list_of o) → AllOf Q ps → AllOf Q (around hit f o ps)
  unfolding around list_of first
  all_around_first hit f q F o [] e l a = never e
  all_around_first hit f q F o (p ∷ ps) e l a =
      by (hit p) (λ h. let k : p ≡ q = some_eq (rw (h, first) at e) in rw (h, around) (subst (λ r. AllOf Q (f o r ps)) (sym k) (F o ps l a.1)))
      (λ h. rw (h, around) (all_append Q (list_of o) _ l (all_around_first hit f q F (some p) ps (rw (h, first) at e) (a.0, tt) a.1)))

  -- the thawed page is clean if nothing was pending
  pub all_thaw : (b : ℕ) (p : Page) (ps : List Page) → first is_frozen ps ≡ some p
      → (any (λ x. is_pending x.pending) p.tuples ≡ false → Q (record { table = p.table; block = b; frozen = false; tuples = p.tuples }))
      → AllOf Q ps → AllOf Q (thaw b ps)
  unfolding thaw thaw_on if'◌then◌else◌ list_of
  all_thaw b p ps e c a =
      all_around_first is_frozen (thaw_on b) p
      (λ o qs l g. by (any (λ x. is_pending x.pending) p.tuples)
      (λ h. rw h (moves_settle _ all_moves _ (all_come _ all_moves p.table (split_all (map without_pending (live p.tuples)))) o _ qs (all_append Q (list_of o) qs l g)))
      (λ h. rw h (all_append Q (list_of o) _ l (c h, g))))
      none ps e tt a
