-- Opens and aborts of transactions in a list, one after another: on the store in a memory, and in a log.
use Rattle.basics.proofs.Kit.{◌≡◌, refl, sym, ap, ◌∙◌, subst, Bool, true, false, List, [], ◌∷◌, ◌++◌, append-nil, map, ℕ, ◌+◌, ◌*◌, ◌≤◌, ◌<◌, length, take, drop, get_or, arith}
use Rattle.basics.proofs.Kit.{length-take, take-suc, take_all, add-one}
use Rattle.basics.specs.Basics.{sum}
use Rattle.basics.specs.Lists.{over}
use Rattle.basics.proofs.Elements.{all_at}
use Rattle.basics.proofs.Lists.{map_append}
use Rattle.basics.proofs.Iterations.{drop_iteration, drop_end}
use Rattle.basics.proofs.Overs.{over_nil, over_then, length_over}
use Rattle.block_bits.specs.Bits.{bits_in, field}
use Rattle.block_forms.specs.Limits.{transaction_limit}
use Rattle.block_forms.proofs.Laws.{entries_count}
use Rattle.log_records.specs.Records.{opened_by, aborted_by, short_fields, log_fields, log_size, encode_record, encode_records, end_of}
use Rattle.log_records.specs.Entries.{change_is, entry_as, change_size, Room, MarkAt}
use Rattle.log_records.specs.declared.Change.TheVariants.{Open, Abort}
use Rattle.log_records.proofs.Logs.{length_records, records_append}
use Rattle.log_records.proofs.Marks.{entry_nth}
use Rattle.memory_layout.specs.Store.{holds_store, HoldsNow}
use Rattle.log_model.specs.Repeats.{repeat_all}
use Rattle.call_forward.specs.Rolling.{store_now, OneRepeated, AllRepeated, marked_by, MayOpen, AbortsFit}
use Rattle.call_forward.proofs.Repeated.{Stored, stored_start, stored_next, stored_end, Left, left_start, left_next, left_stop, left_end}

-- ---- aborts, on the store

abbrev pub Aborting : List ℕ → List ℕ → List ℕ → ℕ → Type 0
Aborting s₀ txs s i = (i ≤ length txs) × Stored s₀ (map aborted_by txs) s (map aborted_by (drop i txs))

pub aborting_start : (s txs : List ℕ) → holds_store s ≡ true → Aborting s txs s 0
aborting_start s txs h = (omega arith, stored_start s (map aborted_by txs) h)

module _ (s₀ txs s : List ℕ) (i : ℕ) (a : Aborting s₀ txs s i) where
  pub aborting_next : i < length txs → {ok : Bool} {s' : List ℕ} → OneRepeated (change_is (Abort (get_or txs i 0)) []) s ok s' → Aborting s₀ txs s' (i + 1)
  unfolding change_is
  aborting_next h o = (omega arith, stored_next (subst (λ z. Stored s₀ (map aborted_by txs) s (map aborted_by z)) (drop_iteration txs i h) a.1) o)

  pub aborting_end : length txs ≤ i → HoldsNow s₀ s (repeat_all (map aborted_by txs) (store_now s₀))
  aborting_end h = stored_end (subst (λ z. Stored s₀ (map aborted_by txs) s (map aborted_by z)) (drop_end txs i h) a.1)

-- ---- aborts, in a log

pub end_aborts : (txs : List ℕ) → end_of (map aborted_by txs) ≡ 2 * length txs
unfolding end_of sum log_size log_fields short_fields
end_aborts [] = refl
end_aborts (tx ∷ txs) = omega (arith, end_aborts txs)

pub length_aborts : (txs : List ℕ) → length (encode_records (map aborted_by txs)) ≡ 2 * length txs
length_aborts txs = length_records (map aborted_by txs) ∙ end_aborts txs

one_abort : (tx : ℕ) → encode_records (map aborted_by (tx ∷ [])) ≡ encode_record (aborted_by tx)
unfolding encode_records
one_abort tx = append-nil (encode_record (aborted_by tx))

aborts_more : (txs : List ℕ) (i : ℕ) → i < length txs
    → encode_records (map aborted_by (take (i + 1) txs)) ≡ encode_records (map aborted_by (take i txs)) ++ encode_record (aborted_by (get_or txs i 0))
aborts_more txs i h =
    ap (λ z. encode_records (map aborted_by z)) (ap (λ n. take n txs) (add-one i) ∙ take-suc txs i 0 h)
    ∙ ap encode_records (map_append aborted_by (take i txs) (get_or txs i 0 ∷ []))
    ∙ records_append (map aborted_by (take i txs)) (map aborted_by (get_or txs i 0 ∷ []))
    ∙ ap (λ z. encode_records (map aborted_by (take i txs)) ++ z) (one_abort (get_or txs i 0))

-- the aborts of the first i are in the log
abbrev pub Logging : List ℕ → ℕ → List ℕ → List ℕ → ℕ → Type 0
Logging log₀ e txs log i = (i ≤ length txs) × (length log ≡ length log₀) × (log ≡ over log₀ e (encode_records (map aborted_by (take i txs))))

pub logging_start : (log : List ℕ) (e : ℕ) (txs : List ℕ) → Logging log e txs log 0
unfolding encode_records
logging_start log e txs = (omega arith, refl, sym (over_nil log e))

module _ (log₀ : List ℕ) (e : ℕ) (txs log : List ℕ) (i : ℕ) (f : AbortsFit log₀ e txs) (l : Logging log₀ e txs log i) where
  pub logging_room : i < length txs → Room log (e + 2 * i) (Abort (get_or txs i 0)) []
  unfolding change_is entry_as change_size
  logging_room h =
      record { fits = all_at (λ tx. tx < transaction_limit) 0 txs i h f.low; told = refl; room = omega (arith, f.room, l.1) }

  pub logging_next : i < length txs → {log' : List ℕ} → log' ≡ over log (e + 2 * i) (encode_record (change_is (Abort (get_or txs i 0)) [])) → Logging log₀ e txs log' (i + 1)
  unfolding change_is
  logging_next h {log'} q =
      let xs = encode_records (map aborted_by (take i txs)) in
      let t : length (take i txs) ≡ i = simp length-take (omega (arith, l.0)) in
      let n : length (encode_records (map aborted_by (take i txs))) ≡ 2 * i = length_aborts (take i txs) ∙ ap (λ k. 2 * k) t in
      let is : log' ≡ over log₀ e (encode_records (map aborted_by (take (i + 1) txs))) =
      q ∙ ap (λ z. over z (e + 2 * i) (encode_record (aborted_by (get_or txs i 0)))) l.2
      ∙ over_then log₀ xs (encode_record (aborted_by (get_or txs i 0))) e (2 * i) (sym n) (omega (arith, f.room, n, l.0))
      ∙ ap (over log₀ e) (sym (aborts_more txs i h)) in
      let t' : length (take (i + 1) txs) ≡ i + 1 = simp length-take (omega arith) in
      let m = length_aborts (take (i + 1) txs) in
      (omega arith, ap length is ∙ length_over log₀ (encode_records (map aborted_by (take (i + 1) txs))) e (omega (arith, f.room, m, t')), is)

  pub logging_end : length txs ≤ i → log ≡ over log₀ e (encode_records (map aborted_by txs))
  logging_end h = l.2 ∙ ap (λ z. over log₀ e (encode_records (map aborted_by z))) (take_all i txs h)

-- ---- the opens of a mark

abbrev pub Opening : List ℕ → List ℕ → ℕ → ℕ → List ℕ → ℕ → Type 0
Opening s₀ log at n s i = (i ≤ n) × Left s₀ (map opened_by (marked_by log at n)) s (map opened_by (drop i (marked_by log at n)))

pub opening_start : (s log : List ℕ) (at n : ℕ) → holds_store s ≡ true → Opening s log at n s 0
opening_start s log at n h = (omega arith, left_start s (map opened_by (marked_by log at n)) h)

pub opening_mark : (s log : List ℕ) (at n i : ℕ) → MayOpen s log at n → i < n → MarkAt log at i
opening_mark s log at n i m h = record { few = omega (arith, m.few); inside = omega (arith, m.inside) }

module _ (s₀ log : List ℕ) (at n : ℕ) (s : List ℕ) (i : ℕ) (o : Opening s₀ log at n s i) where
  module _ (h : i < n) (tx : ℕ) (q : tx ≡ field (bits_in (drop at log)) (48 + 12 * i) 12) {ok : Bool} {s' : List ℕ} (one : OneRepeated (change_is (Open tx) []) s ok s') where
    first_left : Left s₀ (map opened_by (marked_by log at n)) s (opened_by tx ∷ map opened_by (drop (i + 1) (marked_by log at n)))
    first_left =
        let l = entries_count (drop at log) 48 n in
        let e : drop i (marked_by log at n) ≡ tx ∷ drop (i + 1) (marked_by log at n) =
        drop_iteration (marked_by log at n) i (omega arith) ∙ ap (λ z. z ∷ drop (i + 1) (marked_by log at n)) (entry_nth (drop at log) 48 n i h ∙ sym q) in
        subst (λ z. Left s₀ (map opened_by (marked_by log at n)) s (map opened_by z)) e o.1

    pub opening_next : ok ≡ true → Opening s₀ log at n s' (i + 1)
    unfolding change_is
    opening_next k = (omega arith, left_next first_left one k)

    pub opening_stop : ok ≡ false → AllRepeated (map opened_by (marked_by log at n)) s₀ false s'
    unfolding change_is
    opening_stop k = left_stop first_left one k

  pub opening_end : n ≤ i → AllRepeated (map opened_by (marked_by log at n)) s₀ true s
  opening_end h =
      let l = entries_count (drop at log) 48 n in
      left_end (subst (λ z. Left s₀ (map opened_by (marked_by log at n)) s (map opened_by z)) (drop_end (marked_by log at n) i (omega arith)) o.1)
