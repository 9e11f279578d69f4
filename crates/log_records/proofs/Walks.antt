-- A walk along a log: what stands at a byte, one record further (`walk_next`), or the end of the walk (`walk_end`, `walk_bad`); where the log ends,
-- and the place of its last mark.
use Rattle.basics.proofs.Kit.{◌≡◌, refl, sym, ap, ◌∙◌, subst, true, false, Bool, some, none, Option, List, [], ◌∷◌, ℕ, ◌+◌, ◌-◌, ◌≤◌, ◌<◌, length, drop, arith}
use Rattle.basics.proofs.Kit.{length-drop, drop-drop, drop_of_length-le, ⊎_elim, zero-add, add-zero, add_assoc, eqb, eqb-true}
use Rattle.basics.specs.Basics.{if'◌then◌else◌, sum}
use Rattle.basics.proofs.Numbers.{lt_or_ge}
use Rattle.basics.proofs.Facts.{by, by-option, never, lie, clash}
use Rattle.basics.proofs.Elements.{some_eq, all_drop}
use Rattle.block_forms.specs.Tuple.{Byte, AllBytes}
use Rattle.log_records.specs.Records.{LogRecord, opened_by, committed_by, aborted_by, inserted_by, replaced_by, deleted_by, mark_of, RecordFits, short_fields, delete_fields, log_fields, log_size}
use Rattle.log_records.specs.Records.{decode_record, ended, followed_by, read_log, end_of, is_mark, from_mark}
use Rattle.std.specs.Prelude.{Some, None}
use Rattle.std.specs.Prelude.{Option as Place}
use Rattle.log_records.specs.Laws.{Read}
use Rattle.log_records.specs.Entries.{entry_as, entry_of, entry_in, change_size, SmallEntry, entry_size, mark_size, log_end, last_mark}
use Rattle.log_records.specs.declared.Entry.{Entry}
use Rattle.log_records.specs.declared.Entry.TheVariants.{End, Malformed, Call, Mark}
use Rattle.log_records.proofs.Spelling.{tuple_size, mark_size_lem, two_bytes}
use Rattle.log_records.proofs.Changes.{change_two}
use Rattle.log_records.proofs.Laws.{encode_decode}
use Rattle.log_records.proofs.Logs.{log_ended, log_next, log_none, log_split}
use Rattle.log_records.proofs.Fronts.{read_length}

-- ---- one record

-- a record takes as many bytes as what stands there says
pub size_of_entry : (r : LogRecord) → entry_size (entry_as r) ≡ log_size r
unfolding entry_size entry_as change_size log_size log_fields short_fields delete_fields
size_of_entry (opened_by tx) = refl
size_of_entry (committed_by tx) = refl
size_of_entry (aborted_by tx) = refl
size_of_entry (inserted_by tx t k bs) = sym (tuple_size 2 tx t k bs)
size_of_entry (replaced_by tx t k bs) = sym (tuple_size 3 tx t k bs)
size_of_entry (deleted_by tx t k) = refl
size_of_entry (mark_of l txs) = sym (mark_size_lem l txs)

small_record : (r : LogRecord) → RecordFits r → SmallEntry (entry_as r)
unfolding entry_as
small_record (opened_by tx) f = tt
small_record (committed_by tx) f = tt
small_record (aborted_by tx) f = tt
small_record (inserted_by tx t k bs) f = omega (arith, f.1.limit)
small_record (replaced_by tx t k bs) f = omega (arith, f.1.limit)
small_record (deleted_by tx t k) f = tt
small_record (mark_of l txs) f = omega (arith, f.count)

-- a mark of level l stands there
unfoldable pub mark_in : ℕ → Entry → Bool
mark_in l End = false
mark_in l Malformed = false
mark_in l (Call c) = false
mark_in l (Mark m n) = eqb m l

marks : (l : ℕ) (r : LogRecord) → mark_in l (entry_as r) ≡ is_mark l r
unfolding mark_in entry_as is_mark
marks l (opened_by tx) = refl
marks l (committed_by tx) = refl
marks l (aborted_by tx) = refl
marks l (inserted_by tx t k bs) = refl
marks l (replaced_by tx t k bs) = refl
marks l (deleted_by tx t k) = refl
marks l (mark_of m txs) = refl

-- what is neither the end nor malformed takes a byte at least
pub some_size : (e : Entry) → (e ≡ End → ⊥) → (e ≡ Malformed → ⊥) → 0 < entry_size e
unfolding entry_size mark_size
some_size End f g = absurd (f refl)
some_size Malformed f g = absurd (g refl)
some_size (Call c) f g = omega (arith, change_two c)
some_size (Mark l n) f g = omega arith

-- ---- what stands at a byte of a log

-- the end, bytes that are no record, or a record
front_cases : {X : Type 0} (xs : List ℕ) {e : Entry} → e ≡ entry_in xs → (ended xs ≡ true → e ≡ End → X) → (ended xs ≡ false → decode_record xs ≡ none → e ≡ Malformed → X)
    → ((r : LogRecord) → ended xs ≡ false → decode_record xs ≡ some r → e ≡ entry_as r → X) → X
unfolding entry_in entry_of if'◌then◌else◌
front_cases xs q ends bad going =
    by (ended xs) (λ h. ends h (q ∙ rw h))
    (λ h. by-option (decode_record xs) (λ d. bad h d (q ∙ rw (h, d))) (λ r d. going r h d (q ∙ rw (h, d))))

-- a record stands at byte `at`
pub record Next (log : List ℕ) (at size : ℕ) (e : Entry) : Type 0 where
  pub what : LogRecord
  pub is : e ≡ entry_as what
  pub takes : size ≡ log_size what
  pub more : read_log (drop at log) ≡ followed_by what (read_log (drop (at + size) log))
  pub inside : at + size ≤ length log

module _ (log : List ℕ) (b : AllBytes log) (at : ℕ) {e : Entry} (q : e ≡ entry_in (drop at log)) where
  abbrev rest : List ℕ
  rest = drop at log

  read_here : (r : LogRecord) → decode_record rest ≡ some r → Read rest r
  read_here r d = encode_decode rest (all_drop Byte at log b) r d

  pub small_entry : SmallEntry e
  small_entry = front_cases rest q (λ h s. subst SmallEntry (sym s) tt) (λ h d s. subst SmallEntry (sym s) tt)
      (λ r h d s. subst SmallEntry (sym s) (small_record r (read_here r d).fits))

  pub walk_end : e ≡ End → read_log rest ≡ some []
  unfolding entry_size
  walk_end t = front_cases rest q (λ h s. log_ended rest h) (λ h d s. clash cc)
      (λ r h d s. absurd (omega (arith, sym (size_of_entry r) ∙ ap entry_size (sym s ∙ t), two_bytes r)))

  pub walk_bad : e ≡ Malformed → read_log rest ≡ none
  unfolding entry_size
  walk_bad t = front_cases rest q (λ h s. clash cc) (λ h d s. log_none rest h d)
      (λ r h d s. absurd (omega (arith, sym (size_of_entry r) ∙ ap entry_size (sym s ∙ t), two_bytes r)))

  module _ {size : ℕ} (z : size ≡ entry_size e) where
    pub walk_next : at ≤ length log → (size ≡ 0 → ⊥) → Next log at size e
    unfolding entry_size
    walk_next room going = front_cases rest q (λ h s. absurd (going (z ∙ ap entry_size s))) (λ h d s. absurd (going (z ∙ ap entry_size s)))
        (λ r h d s.
        let k : size ≡ log_size r = z ∙ ap entry_size s ∙ size_of_entry r in
        let l = length-drop at log in record {
          what = r;
          is = s;
          takes = k;
          more = log_next rest r h d ∙ ap (λ n. followed_by r (read_log n)) (drop-drop (log_size r) at log ∙ ap (λ n. drop (at + n) log) (sym k));
          inside = omega (arith, read_length rest r (read_here r d));
        })

-- ---- where a log ends

-- where a log ends that has these records from byte `at` on
abbrev pub end_from : ℕ → Option (List LogRecord) → Place ℕ
end_from at none = None
end_from at (some rs) = Some (at + end_of rs)

pub end_start : (o : Option (List LogRecord)) → log_end o ≡ end_from 0 o
unfolding log_end
end_start none = refl
end_start (some rs) = ap Some (sym (zero-add (end_of rs)))

end_next : (r : LogRecord) (at : ℕ) (o : Option (List LogRecord)) → end_from at (followed_by r o) ≡ end_from (at + log_size r) o
unfolding followed_by end_of sum
end_next r at none = refl
end_next r at (some rs) = ap Some (sym (add_assoc at (log_size r) (sum log_size rs)))

module _ (log : List ℕ) (at : ℕ) {x : Place ℕ} (i : x ≡ end_from at (read_log (drop at log))) where
  pub end_turn : (size : ℕ) {e : Entry} → Next log at size e → x ≡ end_from (at + size) (read_log (drop (at + size) log))
  end_turn size n =
      i ∙ ap (end_from at) n.more ∙ end_next n.what at (read_log (drop (at + size) log)) ∙ ap (λ k. end_from (at + k) (read_log (drop (at + size) log))) (sym n.takes)

  pub end_whole : read_log (drop at log) ≡ some [] → Some at ≡ x
  unfolding end_of sum
  end_whole e = sym (i ∙ ap (end_from at) e ∙ ap Some (add-zero at))

  pub end_bad : read_log (drop at log) ≡ none → None ≡ x
  end_bad e = sym (i ∙ ap (end_from at) e)

-- ---- the last mark

-- the place found, where the records qs of all rs from byte `at` on start with the last mark; p was found before
abbrev mark_or : ℕ → List LogRecord → Place ℕ → Option (List LogRecord) → Place ℕ
mark_or at rs p o = elim o [ none ↦ p | some qs ↦ Some (at + (end_of rs - end_of qs)) ]

-- the place of the last mark of level l in a log that has these records from byte `at` on
abbrev pub mark_from : ℕ → ℕ → Place ℕ → Option (List LogRecord) → Place ℕ
mark_from l at p none = None
mark_from l at p (some rs) = mark_or at rs p (from_mark l rs)

module _ (l : ℕ) (r : LogRecord) (rs : List LogRecord) where
  from_later : {qs : List LogRecord} → from_mark l rs ≡ some qs → from_mark l (r ∷ rs) ≡ some qs
  unfolding from_mark
  from_later e = ap (λ o. elim o [ some qs ↦ some qs | none ↦ if' is_mark l r then some (r ∷ rs) else none ]) e

  from_here : from_mark l rs ≡ none → is_mark l r ≡ true → from_mark l (r ∷ rs) ≡ some (r ∷ rs)
  unfolding from_mark if'◌then◌else◌
  from_here e t = ap (λ o. elim o [ some qs ↦ some qs | none ↦ if' is_mark l r then some (r ∷ rs) else none ]) e ∙ rw t

  from_off : from_mark l rs ≡ none → is_mark l r ≡ false → from_mark l (r ∷ rs) ≡ none
  unfolding from_mark if'◌then◌else◌
  from_off e t = ap (λ o. elim o [ some qs ↦ some qs | none ↦ if' is_mark l r then some (r ∷ rs) else none ]) e ∙ rw t

-- the records from the last mark on are some of all
from_less : (l : ℕ) (rs : List LogRecord) {qs : List LogRecord} → from_mark l rs ≡ some qs → end_of qs ≤ end_of rs
unfolding from_mark end_of sum
from_less l [] e = never e
from_less l (r ∷ rs) e =
    by-option (from_mark l rs)
    (λ h. by (is_mark l r)
    (λ t. omega (arith, ap (sum log_size) (some_eq (sym (from_here l r rs h t) ∙ e))))
    (λ t. never (sym (from_off l r rs h t) ∙ e)))
    (λ ps h. let k = some_eq (sym (from_later l r rs h) ∙ e) in omega (arith, from_less l rs h, ap (sum log_size) k))

pub mark_start : (l : ℕ) (o : Option (List LogRecord)) → last_mark l o ≡ mark_from l 0 None o
unfolding last_mark
mark_start l none = refl
mark_start l (some rs) =
    by-option (from_mark l rs)
    (λ h. ap (λ o. elim o [ none ↦ None | some qs ↦ Some (end_of rs - end_of qs) ]) h ∙ sym (ap (mark_or 0 rs None) h))
    (λ qs h. ap (λ o. elim o [ none ↦ None | some ps ↦ Some (end_of rs - end_of ps) ]) h
    ∙ ap Some (sym (zero-add (end_of rs - end_of qs))) ∙ sym (ap (mark_or 0 rs None) h))

-- one record further, which is a mark of level l or not
module _ (l : ℕ) (r : LogRecord) (at : ℕ) (p : Place ℕ) where
  mark_here : is_mark l r ≡ true → (o : Option (List LogRecord)) → mark_from l at p (followed_by r o) ≡ mark_from l (at + log_size r) (Some at) o
  unfolding followed_by end_of sum
  mark_here t none = refl
  mark_here t (some rs) =
      by-option (from_mark l rs)
      (λ h.
      let e : at + (log_size r + sum log_size rs - (log_size r + sum log_size rs)) ≡ at = omega arith in
      ap (mark_or at (r ∷ rs) p) (from_here l r rs h t) ∙ ap Some e ∙ sym (ap (mark_or (at + log_size r) rs (Some at)) h))
      (λ qs h.
      let e : at + (log_size r + sum log_size rs - sum log_size qs) ≡ at + log_size r + (sum log_size rs - sum log_size qs) = omega (arith, from_less l rs h) in
      ap (mark_or at (r ∷ rs) p) (from_later l r rs h) ∙ ap Some e ∙ sym (ap (mark_or (at + log_size r) rs (Some at)) h))

  mark_off : is_mark l r ≡ false → (o : Option (List LogRecord)) → mark_from l at p (followed_by r o) ≡ mark_from l (at + log_size r) p o
  unfolding followed_by end_of sum
  mark_off t none = refl
  mark_off t (some rs) =
      by-option (from_mark l rs)
      (λ h. ap (mark_or at (r ∷ rs) p) (from_off l r rs h t) ∙ sym (ap (mark_or (at + log_size r) rs p) h))
      (λ qs h.
      let e : at + (log_size r + sum log_size rs - sum log_size qs) ≡ at + log_size r + (sum log_size rs - sum log_size qs) = omega (arith, from_less l rs h) in
      ap (mark_or at (r ∷ rs) p) (from_later l r rs h) ∙ ap Some e ∙ sym (ap (mark_or (at + log_size r) rs p) h))

module _ (log : List ℕ) (l at : ℕ) (p : Place ℕ) {x : Place ℕ} (i : x ≡ mark_from l at p (read_log (drop at log))) where
  pub mark_taken : (size : ℕ) {e : Entry} {g : Place ℕ} → Next log at size e → mark_in l e ≡ true → g ≡ Some at
      → x ≡ mark_from l (at + size) g (read_log (drop (at + size) log))
  mark_taken size n t eg =
      let o = read_log (drop (at + size) log) in
      rw eg
      (i ∙ ap (mark_from l at p) n.more ∙ mark_here l n.what at p (sym (ap (mark_in l) n.is ∙ marks l n.what) ∙ t) o
      ∙ ap (λ k. mark_from l (at + k) (Some at) o) (sym n.takes))

  pub mark_passed : (size : ℕ) {e : Entry} {g : Place ℕ} → Next log at size e → mark_in l e ≡ false → g ≡ p
      → x ≡ mark_from l (at + size) g (read_log (drop (at + size) log))
  mark_passed size n t eg =
      let o = read_log (drop (at + size) log) in
      rw eg
      (i ∙ ap (mark_from l at p) n.more ∙ mark_off l n.what at p (sym (ap (mark_in l) n.is ∙ marks l n.what) ∙ t) o
      ∙ ap (λ k. mark_from l (at + k) p o) (sym n.takes))

  pub mark_end : read_log (drop at log) ≡ some [] → p ≡ x
  unfolding from_mark
  mark_end e = sym (i ∙ ap (mark_from l at p) e)

  pub mark_bad : read_log (drop at log) ≡ none → None ≡ x
  mark_bad e = sym (i ∙ ap (mark_from l at p) e)

-- ---- the last mark, for callers

mark_is : (l : ℕ) (r : LogRecord) (rs : List LogRecord) {qs : List LogRecord} → is_mark l r ≡ true → qs ≡ r ∷ rs
    → (txs : List ℕ) × (ps : List LogRecord) × (qs ≡ mark_of l txs ∷ ps)
unfolding is_mark
mark_is l (opened_by tx) rs t e = lie t
mark_is l (committed_by tx) rs t e = lie t
mark_is l (aborted_by tx) rs t e = lie t
mark_is l (inserted_by tx a k bs) rs t e = lie t
mark_is l (replaced_by tx a k bs) rs t e = lie t
mark_is l (deleted_by tx a k) rs t e = lie t
mark_is l (mark_of m txs) rs t e = (txs, rs, e ∙ ap (λ n. mark_of n txs ∷ rs) (eqb-true m l t))

-- the records from the last mark on start with it
pub mark_first : (l : ℕ) (rs : List LogRecord) {qs : List LogRecord} → from_mark l rs ≡ some qs → (txs : List ℕ) × (ps : List LogRecord) × (qs ≡ mark_of l txs ∷ ps)
unfolding from_mark
mark_first l [] e = never e
mark_first l (r ∷ rs) e =
    by-option (from_mark l rs)
    (λ h. by (is_mark l r) (λ t. mark_is l r rs t (some_eq (sym e ∙ from_here l r rs h t))) (λ t. never (sym (from_off l r rs h t) ∙ e)))
    (λ ps h. mark_first l rs (h ∙ sym (from_later l r rs h) ∙ e))

-- the last mark of a whole log stands at byte `at`
pub record Marked (xs : List ℕ) (l : ℕ) (rs : List LogRecord) (at : ℕ) : Type 0 where
  pub records : List LogRecord
  pub from : from_mark l rs ≡ some records
  pub read : read_log (drop at xs) ≡ some records
  pub inside : at < length xs

-- a record is read only inside a log
read_inside : (xs : List ℕ) (at : ℕ) {r : LogRecord} {rs : List LogRecord} → read_log (drop at xs) ≡ some (r ∷ rs) → at < length xs
unfolding ended
read_inside xs at {r} {rs} e =
    ⊎_elim (λ (h : at < length xs). h)
    (λ (h : length xs ≤ at). let d = drop_of_length-le xs h in lie (sym (log_split (drop at xs) r rs e).going ∙ ap ended d)) (lt_or_ge at (length xs))

-- they are read where they stand
from_place : (xs : List ℕ) (rs : List LogRecord) → read_log xs ≡ some rs → (l : ℕ) {qs : List LogRecord} → from_mark l rs ≡ some qs
    → read_log (drop (end_of rs - end_of qs) xs) ≡ some qs
unfolding from_mark end_of sum
from_place xs [] e l h = never h
from_place xs (r ∷ rs) e l {qs} h =
    by-option (from_mark l rs)
    (λ n. by (is_mark l r)
    (λ t.
    let k : r ∷ rs ≡ qs = some_eq (sym (from_here l r rs n t) ∙ h) in
    let z : log_size r + sum log_size rs - sum log_size qs ≡ 0 = omega (arith, ap (sum log_size) k) in
    ap (λ m. read_log (drop m xs)) z ∙ e ∙ ap some k)
    (λ t. never (sym (from_off l r rs n t) ∙ h)))
    (λ ps n.
    let k : ps ≡ qs = some_eq (sym (from_later l r rs n) ∙ h) in
    let less = from_less l rs (n ∙ ap some k) in
    let z : log_size r + sum log_size rs - sum log_size qs ≡ log_size r + (sum log_size rs - sum log_size qs) = omega arith in
    ap (λ m. read_log (drop m xs)) z ∙ ap read_log (sym (drop-drop (sum log_size rs - sum log_size qs) (log_size r) xs))
    ∙ from_place (drop (log_size r) xs) rs (log_split xs r rs e).behind l (n ∙ ap some k))

module _ (xs : List ℕ) (l : ℕ) (rs : List LogRecord) (whole : read_log xs ≡ some rs) {p : Place ℕ} (e : p ≡ last_mark l (read_log xs)) where
  place_by : {o : Option (List LogRecord)} → from_mark l rs ≡ o → p ≡ mark_or 0 rs None o
  place_by h = e ∙ ap (last_mark l) whole ∙ mark_start l (some rs) ∙ ap (mark_or 0 rs None) h

  -- a mark that is found
  pub mark_found : (at : ℕ) → p ≡ Some at → Marked xs l rs at
  mark_found at f =
      by-option (from_mark l rs)
      (λ h. let k = sym f ∙ place_by h in clash cc)
      (λ qs h.
      let a : at ≡ end_of rs - end_of qs = (let k = sym f ∙ place_by h in cc) ∙ zero-add (end_of rs - end_of qs) in
      let r : read_log (drop at xs) ≡ some qs = ap (λ m. read_log (drop m xs)) a ∙ from_place xs rs whole l h in
      let m = mark_first l rs h in
      record { records = qs; from = h; read = r; inside = read_inside xs at (r ∙ ap some m.2) })

  -- no mark is
  pub mark_missing : p ≡ None → from_mark l rs ≡ none
  mark_missing f = by-option (from_mark l rs) (λ h. h) (λ qs h. let k = sym f ∙ place_by h in clash cc)
