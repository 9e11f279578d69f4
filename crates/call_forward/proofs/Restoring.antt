-- The tests of roll-forward in their order: what each finds, and where it ends.
use Rattle.basics.proofs.Kit.{◌≡◌, refl, sym, ap, ◌∙◌, subst, true, some, none, Option, List, [], ℕ, ◌+◌, ◌*◌, ◌≤◌, ◌<◌, length, arith}
use Rattle.std.specs.Prelude.{Some, None, Ok, Err}
use Rattle.std.specs.Prelude.{Option as Place}
use Rattle.basics.proofs.Kit.{lt-ltb, le-ltb, length-append}
use Rattle.basics.specs.Basics.{if'◌then◌else◌, sorted}
use Rattle.basics.specs.Lists.{over}
use Rattle.basics.proofs.Facts.{by, by-option, clash}
use Rattle.basics.proofs.Sorted.{length_sorted}
use Rattle.block_forms.specs.Tuple.{AllBytes}
use Rattle.image.specs.Stages.{Stage, refuses, holds}
use Rattle.model.specs.State.{Store}
use Rattle.model.specs.Transactions.{open_numbers}
use Rattle.model.proofs.Owners.{numbers_length}
use Rattle.log_records.specs.Records.{LogRecord, read_log, end_of, encode_records}
use Rattle.log_records.specs.Entries.{log_end}
use Rattle.log_records.proofs.Logs.{records_of_log, length_records}
use Rattle.log_model.specs.Repeats.{all_accepted}
use Rattle.log_model.specs.RollForward.{Forward, to_repeat, aborts_of, with_aborts, zeroed_from, end_forward, forward_of, forward_from, forward_below}
use Rattle.memory_layout.specs.Flat.{flat_of}
use Rattle.memory_layout.specs.Store.{holds_store, store_of}
use Rattle.call_contracts.specs.Shape.{meaning, RecoveredBy}
use Rattle.call_contracts.specs.declared.Reply.{Reply}
use Rattle.call_contracts.specs.declared.Reply.TheVariants.{Done, Count, Filled}
use Rattle.refusals.specs.declared.Refusal.{Refusal}
use Rattle.refusals.specs.Numbers.{number}
use Rattle.refusals.proofs.Numbers.{number_positive}
use Rattle.call_forward.specs.Rolling.{store_now, records_in, MayRepeat, SinceBy, MayAbort, Aborted, RestoredBy}
use Rattle.call_forward.proofs.Repeated.{now_is}
use Rattle.call_forward.proofs.Listed.{end_aborts}
use Rattle.model.specs.State as model

-- ---- recovery

-- what an accepted recovery has left
pub record Began (st : Stage Store) (s s1 : List ℕ) : Type 0 where
  pub is : st ≡ holds (store_now s1)
  pub has_store : holds_store s1 ≡ true
  pub size : length s1 ≡ length s

accepts : (r : Reply) (k : ℕ) → meaning (Ok r) [] ≡ model.refused k → ⊥
accepts Done k e = clash cc
accepts (Count n) k e = clash cc
accepts (Filled n) k e = clash cc

pub began : (st : Stage Store) (s s1 : List ℕ) (r : Reply) → RecoveredBy st s (Ok r) s1 → Began st s s1
unfolding RecoveredBy
began (refuses k) s s1 r q = absurd (accepts r k q.0)
began (holds z) s s1 r q =
    let k = now_is s s1 z q.1 in
    record { is = ap holds (sym k.1); has_store = k.0; size = q.1.size }

pub not_begun : (st : Stage Store) (s s1 : List ℕ) (e : Refusal) (log s' : List ℕ) → RecoveredBy st s (Err e) s1 → RestoredBy (forward_below log st) s log (Err e) s' log
unfolding RecoveredBy RestoredBy forward_below
not_begun (refuses k) s s1 e log s' r = (cc, refl)
not_begun (holds z) s s1 e log s' r = clash cc

-- ---- the other refusals

pub stopped : (st : Stage Forward) (s log s' : List ℕ) (e : Refusal) → st ≡ refuses (number e) → RestoredBy st s log (Err e) s' log
unfolding RestoredBy
stopped st s log s' e q = subst (λ z. RestoredBy z s log (Err e) s' log) (sym q) (refl, refl)

module _ (log s s1 : List ℕ) (st : Stage Store) (b : Began st s s1) where
  begun : forward_below log st ≡ forward_from log (read_log log) (store_now s1)
  unfolding forward_below
  begun = ap (forward_below log) b.is

  -- ---- the whole log

  pub not_whole : {l : Place ℕ} → l ≡ log_end (read_log log) → l ≡ None → forward_below log st ≡ refuses 31
  unfolding forward_from log_end
  not_whole e w =
      begun ∙ by-option (read_log log) (λ h. ap (λ o. forward_from log o (store_now s1)) h)
      (λ rs h. let k = sym w ∙ e ∙ ap log_end h in clash cc)

-- the records of a whole log, and where they end
pub record Whole (log : List ℕ) (e : ℕ) : Type 0 where
  pub records : List LogRecord
  pub read : read_log log ≡ some records
  pub ends : e ≡ end_of records
  pub inside : e ≤ length log

pub is_whole : (log : List ℕ) → AllBytes log → {l : Place ℕ} → l ≡ log_end (read_log log) → (end : ℕ) → l ≡ Some end → Whole log end
unfolding log_end
is_whole log b e end w =
    by-option (read_log log) (λ h. let k = sym w ∙ e ∙ ap log_end h in clash cc)
    (λ rs h.
    let q : end ≡ end_of rs = let k = sym w ∙ e ∙ ap log_end h in cc in
    let d = records_of_log log b rs h in
    let n = ap length d.is ∙ length-append (encode_records rs) d.rest in
    record { records = rs; read = h; ends = q; inside = omega (arith, q, n, length_records rs) })

pub may_repeat : (log s1 : List ℕ) (e : ℕ) → Whole log e → holds_store s1 ≡ true → MayRepeat s1 log 0
may_repeat log s1 e w h = record { has_store = h; inside = omega arith; records = w.records; read = w.read }

-- ---- what was repeated

module _ (log : List ℕ) (rs : List LogRecord) (s1 s2 : List ℕ) {v : ℕ} where
  pub since_stop : (o : Option (List LogRecord)) → SinceBy o s1 v s2 → (v ≡ 0 → ⊥) → forward_of log rs o (store_now s1) ≡ refuses v
  unfolding SinceBy forward_of if'◌then◌else◌
  since_stop none r nz = ap refuses (sym r)
  since_stop (some qs) r nz =
      by (all_accepted qs (store_now s1)) (λ h. let z : v ≡ 0 = r.0 ∙ rw h in absurd (nz z)) (λ h. let z : v ≡ 31 = r.0 ∙ rw h in rw h (ap refuses (sym z)))

  pub since_go : (o : Option (List LogRecord)) → SinceBy o s1 v s2 → v ≡ 0
      → (forward_of log rs o (store_now s1) ≡ end_forward log rs (store_now s2)) × (holds_store s2 ≡ true) × (length s2 ≡ length s1)
  unfolding SinceBy forward_of if'◌then◌else◌
  since_go none r z = absurd (omega (arith, r, z))
  since_go (some qs) r z =
      let h = r.1 z in
      let k = now_is s1 s2 _ h in
      by (all_accepted qs (store_now s1)) (λ a. (rw a (ap (end_forward log rs) (sym k.1)), k.0, h.size))
      (λ a. let y : v ≡ 31 = r.0 ∙ rw a in absurd (omega (arith, y, z)))

-- ---- the aborts

end_open : (m : List ℕ) → end_of (aborts_of (store_now m)) ≡ 2 * length (flat_of m).opens
unfolding aborts_of store_of
end_open m =
    end_aborts (sorted (open_numbers (flat_of m).opens)) ∙ ap (λ n. 2 * n) (length_sorted (open_numbers (flat_of m).opens) ∙ numbers_length (flat_of m).opens)

module _ (log s s1 s2 : List ℕ) (st : Stage Store) (b : Began st s s1) (e : ℕ) (w : Whole log e) (v : ℕ)
    (r : SinceBy (to_repeat (store_now s1).level (records_in (read_log log))) s1 v s2) where
  since : SinceBy (to_repeat (store_now s1).level w.records) s1 v s2
  unfolding records_in
  since = subst (λ z. SinceBy (to_repeat (store_now s1).level (records_in z)) s1 v s2) w.read r

  from_log : forward_below log st ≡ forward_of log w.records (to_repeat (store_now s1).level w.records) (store_now s1)
  unfolding forward_from
  from_log = begun log s s1 st b ∙ ap (λ o. forward_from log o (store_now s1)) w.read

  refused_since : (v ≡ 0 → ⊥) → forward_below log st ≡ refuses v
  refused_since nz = from_log ∙ since_stop log w.records s1 s2 _ since nz

  module _ (z : v ≡ 0) where
    pub went : (forward_below log st ≡ end_forward log w.records (store_now s2)) × (holds_store s2 ≡ true) × (length s2 ≡ length s)
    went = let g = since_go log w.records s1 s2 _ since z in (from_log ∙ g.0, g.1, g.2 ∙ b.size)

    module _ (n : ℕ) (k : n ≡ length (flat_of s2).opens) where
      ends : end_of w.records + end_of (aborts_of (store_now s2)) ≡ e + 2 * n
      ends = omega (arith, w.ends, end_open s2, k)

      pub no_room : length log < e + 2 * n → forward_below log st ≡ refuses 29
      unfolding end_forward if'◌then◌else◌
      no_room h = went.0 ∙ rw (ends, lt-ltb (length log) (e + 2 * n) h)

      module _ (h : e + 2 * n ≤ length log) where
        pub may_abort : MayAbort s2 log e n
        may_abort = record { has_store = went.1; count = k; room = h }

        ended : forward_below log st ≡ holds (with_aborts log w.records (store_now s2))
        unfolding end_forward if'◌then◌else◌
        ended = went.0 ∙ rw (ends, le-ltb (length log) (e + 2 * n) h)

        pub restored : (s3 log3 : List ℕ) → Aborted s2 log e s3 log3 → RestoredBy (forward_below log st) s log (Ok (e + 2 * n)) s3 log3
        unfolding RestoredBy with_aborts
        restored s3 log3 a =
            subst (λ y. RestoredBy y s log (Ok (e + 2 * n)) s3 log3) (sym ended) (
              sym ends,
              record { size = a.memory.size ∙ went.2; store = a.memory.store },
              a.bytes ∙ ap (λ y. over (zeroed_from y log) y (encode_records (aborts_of (store_now s2)))) w.ends,
            )

pub stopped_since : {log s s1 : List ℕ} (s2 : List ℕ) {st : Stage Store} → Began st s s1 → {end : ℕ} → Whole log end → (e : Refusal)
    → SinceBy (to_repeat (store_now s1).level (records_in (read_log log))) s1 (number e) s2 → (s' : List ℕ) → RestoredBy (forward_below log st) s log (Err e) s' log
stopped_since {log} {s} {s1} s2 {st} b {end} w e r s' =
    stopped _ s log s' e (refused_since log s s1 s2 st b end w (number e) r (λ z. omega (arith, z, number_positive e)))
