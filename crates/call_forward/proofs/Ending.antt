-- What is open, aborted, and the aborts in the log.
use Rattle.basics.proofs.Kit.{◌≡◌, refl, sym, ap, ◌∙◌, subst, List, ◌++◌, append-nil, map, ℕ, zero, suc, ◌+◌, ◌*◌, ◌-◌, ◌≤◌, ◌<◌, length, take, drop, get_or, arith}
use Rattle.basics.proofs.Kit.{length-append, length-take, length-drop, drop_of_length-le}
use Rattle.basics.specs.Basics.{AllOf, sorted}
use Rattle.basics.specs.Lists.{over, tab}
use Rattle.basics.proofs.Elements.{all_in, in_all}
use Rattle.basics.proofs.Sorted.{in_sorted, length_sorted}
use Rattle.block_forms.specs.Limits.{transaction_limit}
use Rattle.block_forms.specs.Spell.{zeros}
use Rattle.block_forms.proofs.Spelled.{length_zeros}
use Rattle.memory_bytes.specs.Bytes.{le4}
use Rattle.memory_layout.specs.Views.{open_at, open_count}
use Rattle.memory_layout.specs.Flat.{flat_of, opens_of}
use Rattle.memory_layout.specs.Store.{store_of, HoldsNow}
use Rattle.memory_layout.specs.Places.{opens_at}
use Rattle.model.specs.Transactions.{open_numbers}
use Rattle.model.proofs.Owners.{numbers_length}
use Rattle.log_records.specs.Records.{aborted_by, encode_records}
use Rattle.log_model.specs.Repeats.{repeat_all}
use Rattle.log_model.specs.RollForward.{aborts_of, zeroed_from}
use Rattle.call_forward.specs.Rolling.{store_now, AbortsFit, MayAbort, Aborted}

-- ---- numbers in a memory are low

module _ (m : List ℕ) (b : (j : ℕ) → get_or m j 0 < 256) where
  open_low : (i : ℕ) → (open_at m i).transaction < transaction_limit
  unfolding open_at le4
  open_low i = let a = opens_at + i * 4 in omega (arith, b a, b (a + 1), b (a + 2), b (a + 3))

  run_low : (a n : ℕ) → AllOf (λ tx. tx < transaction_limit) (open_numbers (tab (open_at m) a n))
  unfolding open_numbers
  run_low a zero = tt
  run_low a (suc n) = (open_low a, run_low (suc a) n)

  numbers_low : AllOf (λ tx. tx < transaction_limit) (open_numbers (flat_of m).opens)
  unfolding opens_of
  numbers_low = run_low 0 (open_count m)

  sorted_low : AllOf (λ tx. tx < transaction_limit) (sorted (open_numbers (flat_of m).opens))
  sorted_low = all_in _ (sorted (open_numbers (flat_of m).opens)) (λ x h. in_all _ x (open_numbers (flat_of m).opens) (sym (in_sorted x (open_numbers (flat_of m).opens)) ∙ h) numbers_low)

-- ---- the log

-- n zeros in the place of all bytes behind e
pub cleared : (log zs : List ℕ) (e n : ℕ) → e ≤ length log → zs ≡ zeros n → n ≡ length log - e → take e log ++ (zs ++ drop (length log - e) (drop e log)) ≡ zeroed_from e log
unfolding zeroed_from
cleared log zs e n h z l =
    let long : length (drop e log) ≤ length log - e = omega (arith, length-drop e log) in
    ap (λ v. take e log ++ (zs ++ v)) (drop_of_length-le (drop e log) long) ∙ ap (λ v. take e log ++ v) (append-nil zs ∙ z ∙ ap zeros l)

length_cleared : (log : List ℕ) (e : ℕ) → e ≤ length log → length (zeroed_from e log) ≡ length log
unfolding zeroed_from
length_cleared log e h = length-append (take e log) (zeros (length log - e)) ∙ rw (length_zeros (length log - e), length-take e log) (omega arith)

-- ---- both

aborts_are : (m : List ℕ) → aborts_of (store_now m) ≡ map aborted_by (sorted (open_numbers (flat_of m).opens))
unfolding aborts_of store_of
aborts_are m = refl

module _ (m log : List ℕ) (e n : ℕ) (h : MayAbort m log e n) (ns : List ℕ) (q : ns ≡ sorted (open_numbers (flat_of m).opens)) (log1 : List ℕ) (z : log1 ≡ zeroed_from e log) where
  pub aborts_fit : ((j : ℕ) → get_or m j 0 < 256) → AbortsFit log1 e ns
  aborts_fit b =
      let l = ap length q ∙ length_sorted (open_numbers (flat_of m).opens) ∙ numbers_length (flat_of m).opens in
      let k = ap length z ∙ length_cleared log e (omega (arith, h.room)) in
      record { low = subst (AllOf (λ tx. tx < transaction_limit)) (sym q) (sorted_low m b); room = omega (arith, h.room, h.count, l, k) }

  pub all_aborted : (m' log' : List ℕ) → HoldsNow m m' (repeat_all (map aborted_by ns) (store_now m)) → log' ≡ over log1 e (encode_records (map aborted_by ns)) → Aborted m log e m' log'
  all_aborted m' log' s w =
      let a : map aborted_by ns ≡ aborts_of (store_now m) = ap (map aborted_by) q ∙ sym (aborts_are m) in
      record {
        memory = subst (λ v. HoldsNow m m' (repeat_all v (store_now m))) a s;
        bytes = w ∙ ap (λ v. over v e (encode_records (map aborted_by ns))) z ∙ ap (λ v. over (zeroed_from e log) e (encode_records v)) a;
      }
