-- The listing of the open transactions: sorted, each number as often as it stands; on a well-formed store each once.
use Rattle.basics.proofs.Kit.{leb, ltb, suc, eqb, ◌≤◌, ◌<◌}
use Rattle.basics.specs.Basics.{sorted}
use Rattle.basics.proofs.Elements.{pairs_map, le_true}
use Rattle.basics.proofs.Lists.{paired_true}
use Rattle.basics.proofs.Sorted.{many_sorted, in_sorted, ordered_sorted, rising_sorted}
use Rattle.model.specs.Transactions.{open_numbers}
use Rattle.model.specs.Seen.{ListedOnce, ListedSorted}
use Rattle.model.proofs.Well.{sound}

pub listed_sorted : ListedSorted
listed_sorted s =
    let os = open_numbers s.active in
    (paired_true leb (sorted os) (pairs_map (λ j k. j ≤ k) _ (sorted os) (λ j k m n l. le_true j k l) (ordered_sorted os)), λ tx. many_sorted (eqb tx) os)

pub listed_once : ListedOnce
listed_once s w =
    let os = open_numbers s.active in
    let rise = rising_sorted os (sound s w).listed.0 in
    (paired_true ltb (sorted os) (pairs_map (λ j k. j < k) _ (sorted os) (λ j k m n l. le_true (suc j) k l) rise), λ tx. in_sorted tx os)
