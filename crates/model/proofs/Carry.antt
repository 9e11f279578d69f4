-- Operations by place at entry, carried out one after another, are the operations by number: what went since stood before.
use Rattle.basics.proofs.Kit.{◌≡◌, refl, sym, ap, ◌∙◌, subst, ⊎_elim, ◌≢◌, List, [], ◌∷◌, ◌++◌, append_assoc, map, ℕ, suc, ◌+◌, ◌≤◌, ◌<◌, ◌-◌, eqb, length, take, drop, get_or, length-append}
use Rattle.basics.proofs.Kit.{length-take, length-drop, take-append-drop, length-map, drop-drop, drop-cons, arith}
use Rattle.basics.specs.Basics.{if'◌then◌else◌}
use Rattle.basics.proofs.Facts.{by, AllOf}
use Rattle.model.specs.State.{Page}
use Rattle.model.specs.Sight.{held}
use Rattle.model.specs.Places.{PlaceOp, commit_place, remove_place, carry_out, remove_row, commit_row}
use Rattle.model.specs.Transactions.{tagged}
use Rattle.basics.proofs.Elements.{Pairs, pairs_parts, pairs_append, all_map, eqb_self, eqb-true}
use Rattle.model.proofs.ByNumber.{Op, to_commit, to_remove, place_in}
use Rattle.model.proofs.Rows.{held_plain, as_row, number_of}
use Rattle.model.proofs.Places.{numbers, Less, remove_numbers, commit_numbers, remove, commit, perform}
use Rattle.basics.proofs.Parts.{remove_at_seam}
use Rattle.basics.specs.Lists.{first_index}

-- operations in two parts
pub carry_append : (n : ℕ) (a b : List PlaceOp) (ps : List Page) → carry_out n (a ++ b) ps ≡ carry_out n b (carry_out n a ps)
unfolding carry_out
carry_append n [] b ps = refl
carry_append n (commit_place i ∷ a) b ps = carry_append n a b _
carry_append n (remove_place i ∷ a) b ps = carry_append n a b _

-- the operation by number, where ns are the numbers at entry
unfoldable pub numbered : List ℕ → PlaceOp → Op
numbered ns (commit_place i) = to_commit (get_or ns i 0)
numbered ns (remove_place i) = to_remove (get_or ns i 0)

-- places from k to below n; behind a removal only later ones
abbrev pub Rising : ℕ → ℕ → List PlaceOp → Type 0
Rising n k [] = Unit {0}
Rising n k (commit_place i ∷ os) = (k ≤ i) × (i < n) × Rising n k os
Rising n k (remove_place i ∷ os) = (k ≤ i) × (i < n) × Rising n (suc i) os

-- the numbers now, ms: from place k on they are as at entry
record Tail (ns : List ℕ) (k : ℕ) (ms : List ℕ) : Type 0 where
  front : List ℕ
  is : ms ≡ front ++ drop k ns
  short : length front ≤ k

tail_more : (ns : List ℕ) (k j : ℕ) (ms : List ℕ) → Tail ns k ms → k ≤ j → Tail ns j ms
tail_more ns k j ms t h =
    let more = take (j - k) (drop k ns) in
    let z : k + (j - k) ≡ j = omega arith in
    let e : drop k ns ≡ more ++ drop j ns = sym (take-append-drop (j - k) (drop k ns)) ∙ ap (λ x. more ++ x) (drop-drop (j - k) k ns ∙ ap (λ x. drop x ns) z) in
    let l = length-append t.front more in
    let m = length-take (j - k) (drop k ns) in
    record {
      front = t.front ++ more;
      is = t.is ∙ ap (λ x. t.front ++ x) e ∙ sym (append_assoc t.front more (drop j ns));
      short = omega (arith, t.short);
    }

place_seam : (n : ℕ) (a b : List ℕ) → AllOf (λ x. x ≢ n) a → place_in n (a ++ n ∷ b) ≡ length a
unfolding first_index if'◌then◌else◌
place_seam n [] b h = rw (eqb_self n)
place_seam n (x ∷ a) b h = by (eqb x n) (λ e. absurd (h.0 (eqb-true x n e))) (λ e. rw (e, place_seam n a b h.1))

held_numbers : (ps : List Page) → length (held ps) ≡ length (numbers ps)
held_numbers ps = ap length (held_plain ps) ∙ length-map (tagged ps) as_row ∙ sym (length-map (tagged ps) number_of)

module _ (ns : List ℕ) where
  -- where the tuple of place i stands now
  module _ (i : ℕ) (h : i < length ns) (ps : List Page) (t : Tail ns i (numbers ps)) (d : Pairs (λ a b. a ≢ b) (numbers ps)) where
    now_split : numbers ps ≡ t.front ++ get_or ns i 0 ∷ drop (suc i) ns
    now_split = t.is ∙ ap (λ x. t.front ++ x) (drop-cons ns i 0 h)

    now_pairs : Pairs (λ a b. a ≢ b) t.front × Pairs (λ a b. a ≢ b) (get_or ns i 0 ∷ drop (suc i) ns)
        × AllOf (λ x. AllOf (λ y. x ≢ y) (get_or ns i 0 ∷ drop (suc i) ns)) t.front
    now_pairs = pairs_parts (λ a b. a ≢ b) t.front (get_or ns i 0 ∷ drop (suc i) ns) (subst (Pairs (λ a b. a ≢ b)) now_split d)

    now_place : place_in (get_or ns i 0) (numbers ps) ≡ length t.front
    now_place = ap (place_in (get_or ns i 0)) now_split
        ∙ place_seam (get_or ns i 0) t.front (drop (suc i) ns) (all_map _ _ (λ x k. k.0) t.front now_pairs.2)

    now_at : i - (length ns - length (held ps)) ≡ place_in (get_or ns i 0) (numbers ps)
    now_at =
        let a = ap length t.is ∙ length-append t.front (drop i ns) in
        omega (arith, held_numbers ps, length-drop i ns, now_place, t.short)

    now_less : Less (length t.front) (numbers (remove (get_or ns i 0) ps)) (numbers ps)
    now_less = subst (λ z. Less z (numbers (remove (get_or ns i 0) ps)) (numbers ps)) now_place
        (remove_numbers (place_in (get_or ns i 0) (numbers ps)) ps)

    now_removed : Tail ns (suc i) (numbers (remove (get_or ns i 0) ps)) × Pairs (λ a b. a ≢ b) (numbers (remove (get_or ns i 0) ps))
    now_removed = ⊎_elim
        (λ e. (subst (Tail ns (suc i)) (sym e) (tail_more ns i (suc i) (numbers ps) t (omega arith)), subst (Pairs (λ a b. a ≢ b)) (sym e) d))
        (λ e. let q = e ∙ ap (λ z. take (length t.front) z ++ drop (length t.front + 1) z) now_split ∙ remove_at_seam t.front (get_or ns i 0) (drop (suc i) ns) in (
          record { front = t.front; is = q; short = omega (arith, t.short) },
          subst (Pairs (λ a b. a ≢ b)) (sym q) (pairs_append (λ a b. a ≢ b) t.front (drop (suc i) ns) now_pairs.0 now_pairs.1.1
              (all_map _ _ (λ x k. k.1) t.front now_pairs.2)),
        )) now_less

  carry : (os : List PlaceOp) (k : ℕ) (ps : List Page) → Rising (length ns) k os → Tail ns k (numbers ps) → Pairs (λ a b. a ≢ b) (numbers ps)
      → carry_out (length ns) os ps ≡ perform (map (numbered ns) os) ps
  unfolding carry_out perform numbered
  carry [] k ps r t d = refl
  carry (commit_place i ∷ os) k ps r t d =
      let n = get_or ns i 0 in
      let t' = tail_more ns k i (numbers ps) t r.0 in
      let e : commit_row (i - (length ns - length (held ps))) ps ≡ commit n ps = ap (λ z. commit_row z ps) (now_at i r.1 ps t' d) in
      let same : numbers (commit n ps) ≡ numbers ps = commit_numbers (place_in n (numbers ps)) ps in
      ap (carry_out (length ns) os) e
      ∙ carry os k (commit n ps) r.2 (subst (Tail ns k) (sym same) t) (subst (Pairs (λ a b. a ≢ b)) (sym same) d)
  carry (remove_place i ∷ os) k ps r t d =
      let n = get_or ns i 0 in
      let t' = tail_more ns k i (numbers ps) t r.0 in
      let e : remove_row (i - (length ns - length (held ps))) ps ≡ remove n ps = ap (λ z. remove_row z ps) (now_at i r.1 ps t' d) in
      let g = now_removed i r.1 ps t' d in
      ap (carry_out (length ns) os) e ∙ carry os (suc i) (remove n ps) r.2 g.0 g.1

-- from entry on
pub carry_out_lem : (os : List PlaceOp) (ps : List Page) → Rising (length (numbers ps)) 0 os → Pairs (λ a b. a ≢ b) (numbers ps)
    → carry_out (length (held ps)) os ps ≡ perform (map (numbered (numbers ps)) os) ps
carry_out_lem os ps r d =
    ap (λ z. carry_out z os ps) (held_numbers ps) ∙ carry (numbers ps) os 0 ps r (record { front = []; is = refl; short = omega arith }) d
