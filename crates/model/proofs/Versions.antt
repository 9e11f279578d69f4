-- The versions of a key on a well-formed store, and an insert behind the transaction's own delete mark.
use Rattle.basics.proofs.Kit.{◌≡◌, refl, sym, ap, ◌∙◌, true, false, not, ◌&&◌, some, List, ℕ, eqb, length}
use Rattle.basics.specs.Basics.{if'◌then◌else◌, any, is_some, keep, last}
use Rattle.basics.proofs.Facts.{AllOf, by, lie}
use Rattle.block_forms.specs.Tuple.{Owner, committed, tentative, is_tentative}
use Rattle.image_rows.specs.Rows.{Row, is_at, is_own, is_by, follows}
use Rattle.model.specs.State.{Store}
use Rattle.model.specs.Sight.{rows, is_foreign, versions, seen_of, seen}
use Rattle.model.specs.Transactions.{open_numbers, full, argument_tests, key_test, key_tests, tuple_tests, write_tests, write_call}
use Rattle.model.specs.WellFormed.{VersionOrder}
use Rattle.model.specs.Seen.{InsertsDeleted}
use Rattle.basics.proofs.Elements.{Mem, mem_all, all_map, kept_mem, any_off, last_mem, pairs_map, pairs_both, pairs_keep}
use Rattle.basics.proofs.Lists.{paired_true}
use Rattle.model.proofs.Effects.{unless_skip}
use Rattle.model.proofs.Placing.{Before}
use Rattle.model.proofs.RowAfter.{at_as}
use Rattle.model.proofs.Valid.{Valid, Chain}
use Rattle.model.proofs.Closing.{not_beside}
use Rattle.model.proofs.Keeps.{rows_rising, rows_differ}
use Rattle.model.proofs.Tests.{follows_join}
use Rattle.model.proofs.Well.{sound}

module _ (s : Store) (v : Valid s) (t k : ℕ) where
  abbrev rs : List Row
  rs = rows s.pages

  -- the versions are rows at the key
  at_key : AllOf (λ q. (is_at t k q ≡ true) × Mem q rs) (versions t k s.pages)
  unfolding versions
  at_key = kept_mem (is_at t k) rs

  version_at : {q : Row} → Mem q (versions t k s.pages) → (is_at t k q ≡ true) × Mem q rs
  version_at m = mem_all (λ q. (is_at t k q ≡ true) × Mem q rs) m at_key

  each_follows : (r q : Row) → Mem r (versions t k s.pages) → Mem q (versions t k s.pages) → Before r q × Chain r q → follows r q ≡ true
  each_follows r q mr mq h = follows_join r q h.0 h.1 (λ w. lie (sym w ∙ at_as t k q r (version_at mq).0 ∙ (version_at mr).0))

  module _ (tx : ℕ) (r : Row) (newest : last (is_own tx) (versions t k s.pages) ≡ some r) where
    -- beside an own version there is none of another transaction
    not_foreign : (q : Row) → (is_at t k q ≡ true) × Mem q rs → (o : Owner) → q.1.owner ≡ o → (is_tentative o && not (is_by tx o)) ≡ false
    unfolding is_tentative is_by
    not_foreign q m committed e = refl
    not_foreign q m (tentative u n) e =
        let own = last_mem (is_own tx) (versions t k s.pages) r newest in
        let ra = version_at own.0 in
        by (eqb u tx) (λ h. ap not h)
        (λ h. absurd (not_beside tx (open_numbers s.active) rs v.sees (rows_differ s v) q r u n m.1 e h ra.1 own.1 (at_as t k q r m.0 ∙ ra.0)))

    none_foreign : any (is_foreign tx) (versions t k s.pages) ≡ false
    unfolding is_foreign
    none_foreign = any_off _ (versions t k s.pages) (all_map _ _ (λ q m. not_foreign q m q.1.owner refl) (versions t k s.pages) at_key)

    not_seen : r.1.mark ≡ true → is_some (seen tx t k s) ≡ false
    unfolding seen seen_of if'◌then◌else◌ is_some
    not_seen h = rw (newest, seen_of) (rw h)

pub version_order : VersionOrder
unfolding versions
version_order s w t k =
    let v = (sound s w).valid in
    let vs : List Row = keep (is_at t k) (rows s.pages) in
    let both = pairs_both Before Chain (rows s.pages) (rows_rising s v) v.sees.chain in
    (v.sees.heads t k, paired_true follows vs (pairs_map _ _ vs (each_follows s v t k) (pairs_keep (λ r q. Before r q × Chain r q) (is_at t k) (rows s.pages) both)))

pub inserts_deleted : InsertsDeleted
unfolding write_call write_tests tuple_tests key_tests key_test
inserts_deleted s w tx t k bs r newest h =
    let v = (sound s w).valid in
    let tests = argument_tests tx t (length bs) s in
    unless_skip tests _ 12 _ s _ (none_foreign s v t k tx r newest) ∙ unless_skip tests (full s) 13 _ s _ (not_seen s v t k tx r newest h)
