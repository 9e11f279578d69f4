-- A total over the pages, to which a fresh page adds nothing and a frozen page the same whatever its tuples, is not raised by the rules.
use Rattle.basics.proofs.Kit.{◌≡◌, Bool, true, false, some, none, Option, List, [], ◌∷◌, map, ℕ, ◌+◌, ◌≤◌, arith}
use Rattle.basics.specs.Basics.{if'◌then◌else◌, sum, any}
use Rattle.basics.proofs.Facts.{by}
use Rattle.basics.proofs.Elements.{sum_append}
use Rattle.model.specs.State.{Page, Held}
use Rattle.model.specs.Rules.{list_of, fresh, without_pending}
use Rattle.model.specs.Rules.{around, thaw, is_frozen, thaw_on, is_pending, live, split_all}
use Rattle.model.proofs.Moves.{still_frozen, Moves, moves_settle, all_come}

module _ (w : Page → ℕ) (w-fresh : (t : ℕ) (ts : List Held) → w (fresh t ts) ≡ 0)
    (w-frozen : (p : Page) (ts : List Held) → p.frozen ≡ true → w (still_frozen p ts) ≡ w p) where
  -- the total is not raised
  abbrev Less : List Page → List Page → Type 0
  Less ps qs = sum w qs ≤ sum w ps

  pub sum_moves : Moves Less
  sum_moves = record {
    same = λ ps. omega arith;
    chain = λ ps qs rs f g. omega arith;
    left = λ c ps qs f. omega (arith, sum_append w c ps, sum_append w c qs);
    right = λ c ps qs f. omega (arith, sum_append w ps c, sum_append w qs c);
    comes = λ t ts. unfold sum in omega (arith, w-fresh t ts);
    goes = λ p h. unfold sum in omega arith;
    stays = λ p ts h e. unfold sum in omega (arith, w-frozen p ts h);
  }

  -- more: what the change of the page may add
  sum_around : (hit : Page → Bool) (f : Option Page → Page → List Page → List Page) (more : ℕ)
      → ((o : Option Page) (p : Page) (ps : List Page) → sum w (f o p ps) ≤ sum w (list_of o) + (w p + sum w ps) + more)
      → (o : Option Page) (ps : List Page) → sum w (around hit f o ps) ≤ sum w (list_of o) + sum w ps + more
  unfolding around list_of sum
  sum_around hit f more F o [] = omega arith
  sum_around hit f more F o (p ∷ ps) =
      by (hit p) (λ h. rw (h, around) (F o p ps))
      (λ h. let l = sum_around hit f more F (some p) ps in let e = sum_append w (list_of o) (around hit f (some p) ps) in rw (h, around) (omega arith))

  -- the thawed page, if it is clean, may add
  pub sum_thaw : (b more : ℕ) (ps : List Page) → ((p : Page) → w (record { table = p.table; block = b; frozen = false; tuples = p.tuples }) ≤ more)
      → sum w (thaw b ps) ≤ sum w ps + more
  unfolding thaw list_of sum
  sum_thaw b more ps c = let l = sum_around is_frozen (thaw_on b) more on none ps in omega arith
    where
      on : (o : Option Page) (p : Page) (ps : List Page) → sum w (thaw_on b o p ps) ≤ sum w (list_of o) + (w p + sum w ps) + more
      on o p ps = unfold thaw_on if'◌then◌else◌ sum in
          by (any (λ x. is_pending x.pending) p.tuples)
          (λ h. let hs = map without_pending (live p.tuples) in let tss = split_all hs in
          let l = moves_settle Less sum_moves (map (fresh p.table) tss) (all_come Less sum_moves p.table tss) o (fresh p.table hs) ps in
          rw h (omega (arith, l, sum_append w (list_of o) ps)))
          (λ h. let k = c p in let e = sum_append w (list_of o) (record { table = p.table; block = b; frozen = false; tuples = p.tuples } ∷ ps) in rw h (omega arith))
