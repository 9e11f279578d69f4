-- What holds while power is off, and that a roll-forward then does what is promised.
use Rattle.basics.proofs.Kit.{◌≡◌, ap, ◌∙◌, subst, true, false, some, List, ◌++◌, ℕ, suc, ◌+◌, ◌≤◌, min, ltb, length, arith, ◌⊎◌, inl, inr, ⊎_elim}
use Rattle.basics.specs.Basics.{if'◌then◌else◌}
use Rattle.basics.proofs.Facts.{by}
use Rattle.basics.proofs.Elements.{leb-false}
use Rattle.block_forms.specs.Tuple.{AllBytes}
use Rattle.image.specs.Stages.{refuses, holds}
use Rattle.model.specs.State.{Store}
use Rattle.model.specs.Sight.{rows}
use Rattle.model.specs.Recover.{memory_for, recover}
use Rattle.model.specs.WellFormed.{WellFormed}
use Rattle.model.proofs.Starts.{recovered_well}
use Rattle.log_records.specs.Records.{LogRecord, encode_records, read_log, ended, end_of}
use Rattle.log_records.proofs.Logs.{log_of_records}
use Rattle.log_model.specs.Repeats.{repeat_all, all_accepted}
use Rattle.log_model.specs.RollForward.{Forward, aborts_of, with_aborts, end_forward, forward_of, forward_from, forward_below, roll_forward}
use Rattle.log_model.specs.History.{completed, BringsBack}
use Rattle.log_model.proofs.Repeating.{AllRecordsFit, repeat_well}
use Rattle.log_model.proofs.Marks.{Marked, Origin, Resumes, resumes, brings_back}
use Rattle.log_model.proofs.Cuts.{Back, idle_back, open_back, same_back}

-- the whole records rs of the log, and an image that brings back a store at its place in them
pub record Dead (s₀ : Store) (img log : List ℕ) (rs : List LogRecord) : Type 0 where
  pub origin : Origin s₀
  pub rest : List ℕ
  pub is : log ≡ encode_records rs ++ rest
  pub ends : ended rest ≡ true
  pub fit : AllRecordsFit rs
  pub acc : all_accepted rs s₀ ≡ true
  pub bytes : AllBytes img
  pub back : (m : ℕ) → memory_for s₀.capacity ≤ m → Back s₀ rs img m

pub dead_read : {s₀ : Store} {img log : List ℕ} {rs : List LogRecord} → Dead s₀ img log rs → read_log log ≡ some rs
dead_read {rs = rs} d = ap read_log d.is ∙ log_of_records rs d.fit d.rest d.ends

-- a roll-forward that has recovered r: what it repeats is accepted, and leads where all records lead
pub record Rolled (s₀ : Store) (img log : List ℕ) (rs : List LogRecord) (m second : ℕ) (r : Store) : Type 0 where
  pub recovers : recover (min m second) img ≡ holds r
  pub capacity : r.capacity ≡ s₀.capacity
  pub marked : Marked s₀ rs (rows r.pages) r.next r.level
  pub resumed : Resumes s₀ r rs
  pub is : roll_forward m second img log ≡ end_forward log rs (repeat_all resumed.records r)

module _ (s₀ : Store) (img log : List ℕ) (rs : List LogRecord) (d : Dead s₀ img log rs) (m second : ℕ) where
  pub rolled : (r : Store) → recover (min m second) img ≡ holds r → Rolled s₀ img log rs m second r
  rolled r e =
      let n = memory_for s₀.capacity in
      let b = d.back n (omega arith) in
      let same = same_back n (min m second) img b.store r b.recovers e in
      let mk = subst (λ z. Marked s₀ rs (rows z.pages) z.next z.level) same b.marked in
      let cap = subst (λ z. z.capacity ≡ s₀.capacity) same b.capacity in
      let k = resumes s₀ d.origin rs d.fit d.acc r (recovered_well (min m second) img r e) (idle_back (min m second) img r e) cap (open_back (min m second) img r e) mk in
      record { recovers = e; capacity = cap; marked = mk; resumed = k; is = unfolded r e k }
    where
      unfolded : (r : Store) → recover (min m second) img ≡ holds r → (k : Resumes s₀ r rs) → roll_forward m second img log ≡ end_forward log rs (repeat_all k.records r)
      unfolded r e k = unfold roll_forward forward_below forward_from forward_of if'◌then◌else◌ in rw (e, dead_read d, k.found, k.accepts)

  -- the store in which what is open is aborted
  abbrev Repeated : (r : Store) → Rolled s₀ img log rs m second r → Store
  Repeated r k = repeat_all k.resumed.records r

  pub repeated_well : (r : Store) (k : Rolled s₀ img log rs m second r) → WellFormed (Repeated r k)
  repeated_well r k = repeat_well k.resumed.records r k.resumed.fit (recovered_well (min m second) img r k.recovers)

  pub end_of_lem : (r : Store) (k : Rolled s₀ img log rs m second r) → (roll_forward m second img log ≡ refuses 29)
      ⊎ ((end_of rs + end_of (aborts_of (Repeated r k)) ≤ length log) × (roll_forward m second img log ≡ holds (with_aborts log rs (Repeated r k))))
  end_of_lem r k =
      by (ltb (length log) (end_of rs + end_of (aborts_of (Repeated r k))))
      (λ h. inl (k.is ∙ full h))
      (λ h. inr (le_of (length log) (end_of rs + end_of (aborts_of (Repeated r k))) h, k.is ∙ fits h))
    where
      full : ltb (length log) (end_of rs + end_of (aborts_of (Repeated r k))) ≡ true → end_forward log rs (Repeated r k) ≡ refuses 29
      full h = unfold end_forward if'◌then◌else◌ in rw h

      fits : ltb (length log) (end_of rs + end_of (aborts_of (Repeated r k))) ≡ false → end_forward log rs (Repeated r k) ≡ holds (with_aborts log rs (Repeated r k))
      fits h = unfold end_forward if'◌then◌else◌ in rw h

      le_of : (a b : ℕ) → ltb a b ≡ false → b ≤ a
      le_of a b h = omega (arith, leb-false (suc a) b h)

  -- ---- the promise

  pub restored : memory_for s₀.capacity ≤ m → memory_for s₀.capacity ≤ second
      → (roll_forward m second img log ≡ refuses 29) ⊎ ((f : Forward) × (roll_forward m second img log ≡ holds f) × BringsBack f.store (completed rs s₀))
  restored p q =
      let b = d.back (min m second) (omega (arith, p, q)) in
      let k = rolled b.store b.recovers in
      let y = Repeated b.store k in
      ⊎_elim (λ h. inl h)
      (λ h. inr (with_aborts log rs y, h.1, (unfold with_aborts in brings_back s₀ y rs d.origin d.fit (repeated_well b.store k) k.resumed.agrees)))
      (end_of_lem b.store k)
