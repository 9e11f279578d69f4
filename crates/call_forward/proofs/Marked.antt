-- The records to repeat: those of the whole log, or from the last mark on its opens and the records behind it.
use Rattle.basics.proofs.Kit.{◌≡◌, refl, sym, ap, ◌∙◌, subst, Bool, true, false, ◌&&◌, some, none, Option, List, ◌++◌, map, ℕ, zero, suc, ◌+◌, ◌*◌, ◌/◌, ◌≤◌, length, drop, arith}
use Rattle.std.specs.Prelude.{Some, None, Result, Ok, Err}
use Rattle.std.specs.Prelude.{Option as Place}
use Rattle.std.specs.Result.{is_ok, MatchResult}
use Rattle.refusals.specs.declared.Refusal.{Refusal}
use Rattle.refusals.specs.declared.Refusal.TheVariants.{BadLog}
use Rattle.refusals.specs.Numbers.{number_in}
use Rattle.basics.proofs.Kit.{drop-drop, length-drop}
use Rattle.basics.specs.Basics.{if'◌then◌else◌}
use Rattle.basics.proofs.Facts.{lie}
use Rattle.basics.proofs.Elements.{all_drop}
use Rattle.block_forms.specs.Tuple.{Byte, AllBytes}
use Rattle.block_forms.specs.Decode.{read_entries}
use Rattle.log_records.specs.Records.{LogRecord, opened_by, mark_of, log_size, read_log, from_mark}
use Rattle.log_records.specs.Entries.{entry_as, entry_in, mark_size, last_mark}
use Rattle.log_records.specs.declared.Entry.{Entry}
use Rattle.log_records.specs.declared.Entry.TheVariants.{Mark}
use Rattle.log_records.proofs.Spelling.{mark_size_lem}
use Rattle.log_records.proofs.Laws.{encode_decode, mark_entries}
use Rattle.log_records.proofs.Logs.{log_split}
use Rattle.log_records.proofs.Fronts.{read_length}
use Rattle.log_records.proofs.Walks.{mark_first, Marked, mark_found, mark_missing}
use Rattle.log_model.specs.Repeats.{repeat_all, all_accepted}
use Rattle.log_model.specs.RollForward.{opens_of, behind_mark, to_repeat}
use Rattle.log_model.proofs.Repeating.{repeat_append, accepted_append}
use Rattle.call_forward.specs.Rolling.{store_now, AllRepeated, records_in, MayRepeat, marked_by, MayOpen, MayRepeatMarked, SinceBy}
use Rattle.call_forward.proofs.Repeated.{now_is}
use Rattle.call_forward.proofs.Walking.{entry_read}

-- ---- a mark and what is behind it

pub record MarkHere (s log : List ℕ) (at n : ℕ) (txs : List ℕ) (ps : List LogRecord) : Type 0 where
  pub opens : MayOpen s log at n
  pub marked : marked_by log at n ≡ txs
  pub read : read_log (drop (at + mark_size n) log) ≡ some ps
  pub inside : at + mark_size n ≤ length log
  pub all : records_in (behind_mark (read_log (drop at log))) ≡ map opened_by txs ++ ps

-- the entry of a mark
pub at_mark : (s log : List ℕ) (at : ℕ) (h : MayRepeatMarked s log at) {e : Entry} → e ≡ entry_in (drop at log) → e ≡ Mark h.level (length h.transactions)
unfolding entry_as
at_mark s log at h q =
    let f = log_split (drop at log) (mark_of h.level h.transactions) h.records h.read in
    q ∙ entry_read (drop at log) (mark_of h.level h.transactions) f.going f.first

module _ (s log : List ℕ) (at : ℕ) (b : AllBytes log) (h : MayRepeatMarked s log at) {e : Entry} (q : e ≡ entry_in (drop at log)) {l n : ℕ} (k : e ≡ Mark l n) where
  pub mark_here : MarkHere s log at n h.transactions h.records
  unfolding records_in behind_mark opens_of mark_size
  mark_here =
      let txs = h.transactions in
      let f = log_split (drop at log) (mark_of h.level txs) h.records h.read in
      let d = encode_decode (drop at log) (all_drop Byte at log b) (mark_of h.level txs) f.first in
      let c : n ≡ length h.transactions = let m = sym k ∙ at_mark s log at h q in cc in
      let z : log_size (mark_of h.level h.transactions) ≡ 6 + (3 * n + 1) / 2 = mark_size_lem h.level txs ∙ ap mark_size (sym c) in
      let w = read_length (drop at log) (mark_of h.level txs) d in
      let l = length-drop at log in
      record {
        opens = record { has_store = h.has_store; few = omega (arith, d.fits.count, c); inside = omega (arith, w, z, l, h.inside) };
        marked = ap (read_entries (drop at log) 48) c ∙ ap (λ v. read_entries v 48 (length txs)) d.is ∙ mark_entries h.level txs d.rest d.fits;
        read = ap read_log (ap (λ v. drop (at + v) log) (sym z) ∙ sym (drop-drop (log_size (mark_of h.level txs)) at log)) ∙ f.behind;
        inside = omega (arith, w, z, l, h.inside);
        all = ap (λ o. records_in (behind_mark o)) h.read;
      }

-- a refused open
pub opens_stop : (m m' : List ℕ) (a b : List LogRecord) {ok : Bool} → AllRepeated a m ok m' → ok ≡ false → AllRepeated (a ++ b) m false m'
opens_stop m m' a b o e =
    record {
      answer = sym (accepted_append a b (store_now m) ∙ ap (λ z. z && all_accepted b (repeat_all a (store_now m))) (sym o.answer ∙ e));
      memory = λ k. lie k;
    }

-- first the ones, then the others
pub opens_then : (m m1 m' : List ℕ) (a b : List LogRecord) {ok fine : Bool} → AllRepeated a m ok m1 → ok ≡ true → AllRepeated b m1 fine m' → AllRepeated (a ++ b) m fine m'
opens_then m m1 m' a b o e p =
    let s = o.memory e in
    let k = now_is m m1 _ s in
    record {
      answer = p.answer ∙ ap (all_accepted b) k.1 ∙ sym (accepted_append a b (store_now m) ∙ ap (λ z. z && all_accepted b (repeat_all a (store_now m))) (sym o.answer ∙ e));
      memory = λ f. let t = p.memory f in record { size = t.size ∙ s.size; store = t.store ∙ ap (λ z. some (repeat_all b z)) k.1 ∙ ap some (sym (repeat_append a b (store_now m))) };
    }

-- ---- what is to be repeated

-- what was repeated, with every refusal as 31
pub since_by : (m m' : List ℕ) (qs : List LogRecord) (r r' : Result (Unit {0}) Refusal) → AllRepeated qs m (is_ok r) m' → {o : Option (List LogRecord)} → o ≡ some qs
    → MatchResult r (λ x. r' ≡ Ok x) (λ e. r' ≡ Err BadLog) → SinceBy o m (number_in r') m'
unfolding SinceBy if'◌then◌else◌
since_by m m' qs (Ok u) r' a e h = subst (λ z. SinceBy z m (number_in r') m') (sym e) (rw h (sym (rw (sym a.answer)), λ z. a.memory refl))
since_by m m' qs (Err k) r' a e h = subst (λ z. SinceBy z m (number_in r') m') (sym e) (rw h (sym (rw (sym a.answer)), λ z. absurd (omega arith)))

pub since_none : (m m' : List ℕ) {o : Option (List LogRecord)} → o ≡ none → SinceBy o m 30 m'
unfolding SinceBy
since_none m m' e = subst (λ z. SinceBy z m 30 m') (sym e) refl

-- level 0
pub from_start : (l : ℕ) (o : Option (List LogRecord)) → l ≡ 0 → to_repeat l (records_in o) ≡ some (records_in o)
unfolding to_repeat
from_start l o e = ap (λ n. to_repeat n (records_in o)) e

above : (l : ℕ) (rs : List LogRecord) → (l ≡ 0 → ⊥) → to_repeat l rs ≡ behind_mark (from_mark l rs)
unfolding to_repeat
above zero rs h = absurd (h refl)
above (suc l) rs h = refl

module _ (s log : List ℕ) (l : ℕ) (h : MayRepeat s log 0) (high : l ≡ 0 → ⊥) {p : Place ℕ} (e : p ≡ last_mark l (read_log log)) where
  is_all : records_in (read_log log) ≡ h.records
  unfolding records_in
  is_all = ap records_in h.read

  pub none_marked : p ≡ None → to_repeat l (records_in (read_log log)) ≡ none
  unfolding behind_mark
  none_marked f = ap (to_repeat l) is_all ∙ above l h.records high ∙ ap behind_mark (mark_missing log l h.records h.read e f)

  module _ (at : ℕ) (f : p ≡ Some at) where
    found : Marked log l h.records at
    found = mark_found log l h.records h.read e at f

    pub may_marked : MayRepeatMarked s log at
    may_marked =
        let m = mark_first l h.records found.from in
        record { has_store = h.has_store; inside = omega (arith, found.inside); level = l; transactions = m.0; records = m.1; read = found.read ∙ ap some m.2 }

    pub from_marked : to_repeat l (records_in (read_log log)) ≡ some (records_in (behind_mark (read_log (drop at log))))
    unfolding behind_mark records_in
    from_marked =
        let m = mark_first l h.records found.from in
        ap (to_repeat l) is_all ∙ above l h.records high ∙ ap behind_mark (found.from ∙ ap some m.2)
        ∙ sym (ap (λ o. some (records_in (behind_mark o))) (found.read ∙ ap some m.2))

-- ---- a mark's opens, then the records behind it

module _ (s log : List ℕ) (at n : ℕ) (txs : List ℕ) (ps : List LogRecord) (h : MarkHere s log at n txs ps) {ok : Bool} {s1 : List ℕ}
    (o : AllRepeated (map opened_by (marked_by log at n)) s ok s1) where
  opened : AllRepeated (map opened_by txs) s ok s1
  opened = subst (λ z. AllRepeated (map opened_by z) s ok s1) h.marked o

  pub marked_stop : ok ≡ false → AllRepeated (records_in (behind_mark (read_log (drop at log)))) s false s1
  marked_stop e = subst (λ z. AllRepeated z s false s1) (sym h.all) (opens_stop s s1 (map opened_by txs) ps opened e)

  module _ (e : ok ≡ true) (z : ℕ) (k : z ≡ mark_size n) where
    pub marked_may : MayRepeat s1 log (at + z)
    marked_may =
        record {
          has_store = (now_is s s1 _ (o.memory e)).0;
          inside = omega (arith, h.inside, k);
          records = ps;
          read = ap (λ v. read_log (drop (at + v) log)) k ∙ h.read;
        }

    pub marked_then : {fine : Bool} {s' : List ℕ} → AllRepeated (records_in (read_log (drop (at + z) log))) s1 fine s'
        → AllRepeated (records_in (behind_mark (read_log (drop at log)))) s fine s'
    unfolding records_in
    marked_then {fine} {s'} a =
        subst (λ q. AllRepeated q s fine s') (sym h.all)
        (opens_then s s1 s' (map opened_by txs) ps opened e (subst (λ q. AllRepeated q s1 fine s') (ap records_in (ap (λ v. read_log (drop (at + v) log)) k ∙ h.read)) a))
