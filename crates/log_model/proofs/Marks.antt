-- Where in the records a recovered store stands, and that repeating goes on from there.
use Rattle.basics.proofs.Kit.{◌≡◌, refl, sym, ap, ◌∙◌, subst, true, false, some, none, List, [], ◌∷◌, ◌++◌, append_assoc, map, ℕ, zero, suc, ◌<◌, arith}
use Rattle.basics.specs.Basics.{if'◌then◌else◌, any, is_in}
use Rattle.basics.proofs.Facts.{by, lie}
use Rattle.basics.proofs.Elements.{all_parts, all_append, eqb_self}
use Rattle.basics.proofs.Searches.{any_append}
use Rattle.image_rows.specs.Rows.{Row, is_own}
use Rattle.model.specs.State.{Store}
use Rattle.model.specs.Sight.{rows}
use Rattle.model.specs.Transactions.{open_numbers, gives}
use Rattle.model.specs.Checkpoint.{is_running}
use Rattle.model.specs.Calls.{accepted}
use Rattle.model.specs.WellFormed.{WellFormed}
use Rattle.model.specs.Agree.{Agree}
use Rattle.model.proofs.Agree.{agree_sym, agree_sorted}
use Rattle.log_records.specs.Records.{LogRecord, opened_by, aborted_by, mark_of, is_mark, from_mark}
use Rattle.log_model.specs.Repeats.{call_of, call_if, repeat, repeat_all, all_accepted}
use Rattle.log_model.specs.Logged.{unwritten}
use Rattle.log_model.specs.RollForward.{opens_of, behind_mark, to_repeat, aborts_of}
use Rattle.log_model.specs.History.{completed, BringsBack}
use Rattle.log_model.proofs.Repeating.{AllRecordsFit, repeat_well, repeat_idle, repeat_stays, repeat_append, accepted_parts, accepted_both, repeat_agree}
use Rattle.log_model.proofs.Opening.{agree_of, mark_opens, opens_fit, may_open, aborts_of_lem, aborts_of_fit}

-- ---- the last mark of a level

no_mark : (l : ℕ) (rs : List LogRecord) → any (is_mark l) rs ≡ false → from_mark l rs ≡ none
unfolding from_mark any if'◌then◌else◌
no_mark l [] h = refl
no_mark l (r ∷ rs) h = by (is_mark l r) (λ k. lie (sym (rw (k, any) at h))) (λ k. rw (no_mark l rs (rw (k, any) at h), k))

here_mark : (l : ℕ) (r : LogRecord) (rs : List LogRecord) → is_mark l r ≡ true → any (is_mark l) rs ≡ false → from_mark l (r ∷ rs) ≡ some (r ∷ rs)
unfolding from_mark if'◌then◌else◌
here_mark l r rs k h = rw (no_mark l rs h, k)

past_mark : (l : ℕ) (before qs ps : List LogRecord) → from_mark l qs ≡ some ps → from_mark l (before ++ qs) ≡ some ps
unfolding from_mark
past_mark l [] qs ps h = h
past_mark l (r ∷ before) qs ps h = rw (past_mark l before qs ps h)

-- ---- where a recovered store stands

-- with the rows hs, the next number n and the level l: at the log's start, or at the last mark of its level
pub data Marked (s₀ : Store) (rs : List LogRecord) (hs : List Row) (n l : ℕ) : Type 0 where
  at_start : l ≡ 0 → hs ≡ rows s₀.pages → n ≡ s₀.next → Marked s₀ rs hs n l
  at_mark : (before behind : List LogRecord) → rs ≡ before ++ mark_of l (unwritten (repeat_all before s₀).active) ∷ behind
      → any (is_mark l) behind ≡ false → 0 < l → hs ≡ rows (repeat_all before s₀).pages → n ≡ (repeat_all before s₀).next → Marked s₀ rs hs n l

-- more records, none of them a mark of that level
pub marked_more : {s₀ : Store} {rs : List LogRecord} {hs : List Row} {n l : ℕ} (qs : List LogRecord) → any (is_mark l) qs ≡ false → Marked s₀ rs hs n l
    → Marked s₀ (rs ++ qs) hs n l
marked_more qs h (at_start e r n) = at_start e r n
marked_more {l = l} qs h (at_mark before behind e k p r n) =
    at_mark before (behind ++ qs) (ap (λ z. z ++ qs) e ∙ append_assoc before _ qs) (any_append (is_mark l) behind qs ∙ rw (k, h)) p r n

-- ---- repeating from there

-- the store that the history was made with
pub record Origin (s₀ : Store) : Type 0 where
  pub well : WellFormed s₀
  pub idle : is_running s₀.checkpoint ≡ false
  pub opened : (u : ℕ) → is_in u (open_numbers s₀.active) ≡ any (is_own u) (rows s₀.pages)

-- what is repeated, and that it leads to the store that all records lead to
pub record Resumes (s₀ r : Store) (rs : List LogRecord) : Type 0 where
  pub records : List LogRecord
  pub found : to_repeat r.level rs ≡ some records
  pub fit : AllRecordsFit records
  pub accepts : all_accepted records r ≡ true
  pub agrees : Agree (repeat_all records r) (repeat_all rs s₀)

module _ (s₀ : Store) (origin : Origin s₀) (rs : List LogRecord) (fit : AllRecordsFit rs) (acc : all_accepted rs s₀ ≡ true)
    (r : Store) (w : WellFormed r) (i : is_running r.checkpoint ≡ false) (c : r.capacity ≡ s₀.capacity)
    (o : (u : ℕ) → is_in u (open_numbers r.active) ≡ any (is_own u) (rows r.pages)) where
  from_start : r.level ≡ 0 → rows r.pages ≡ rows s₀.pages → r.next ≡ s₀.next → Resumes s₀ r rs
  from_start l e n =
      let a = agree_of r s₀ w origin.well c n e (λ u. o u ∙ ap (any (is_own u)) e ∙ sym (origin.opened u)) in
      let k = repeat_agree rs s₀ r fit origin.well w (agree_sym a) i acc in
      record { records = rs; found = unfold to_repeat in rw l; fit = fit; accepts = k.0; agrees = agree_sym k.1 }

  level_found : (l : ℕ) (txs : List ℕ) (before behind : List LogRecord) → rs ≡ before ++ mark_of l txs ∷ behind → any (is_mark l) behind ≡ false → 0 < l
      → to_repeat l rs ≡ some (map opened_by txs ++ behind)
  unfolding to_repeat
  level_found zero txs before behind e h p = absurd (omega arith)
  level_found (suc l) txs before behind e h p =
      ap (λ z. behind_mark (from_mark (suc l) z)) e
      ∙ ap behind_mark (past_mark (suc l) before _ _ (here_mark (suc l) (mark_of (suc l) txs) behind (unfold is_mark in eqb_self (suc l)) h))
      ∙ (unfold behind_mark opens_of in refl)

  from_mark_lem : (before behind : List LogRecord) → rs ≡ before ++ mark_of r.level (unwritten (repeat_all before s₀).active) ∷ behind
      → any (is_mark r.level) behind ≡ false → 0 < r.level → rows r.pages ≡ rows (repeat_all before s₀).pages → r.next ≡ (repeat_all before s₀).next
      → Resumes s₀ r rs
  from_mark_lem before behind e h p q n =
      let z = repeat_all before s₀ in
      let m = mark_of r.level (unwritten (repeat_all before s₀).active) in
      let txs = unwritten (repeat_all before s₀).active in
      let fits = all_parts _ before (m ∷ behind) (subst AllRecordsFit e fit) in
      let v = repeat_well before s₀ fits.0 origin.well in
      let cap = c ∙ sym (repeat_stays before s₀).capacity in
      let k = mark_opens r z w v cap n q o in
      let of = opens_fit txs (may_open r z w v cap n q o).low in
      let acc' = accepted_parts before (m ∷ behind) s₀ (ap (λ x. all_accepted x s₀) (sym e) ∙ acc) in
      let rest : all_accepted behind z ≡ true = mark_past r.level txs behind z acc'.1 in
      let y = repeat_all (map opened_by txs) r in
      let b = repeat_agree behind z y fits.1.1 v (repeat_well (map opened_by txs) r of w) (agree_sym k.1) (repeat_idle (map opened_by txs) r i) rest in
      let all : repeat_all rs s₀ ≡ repeat_all behind z = ap (λ x. repeat_all x s₀) e ∙ repeat_append before (m ∷ behind) s₀ ∙ mark_store r.level txs behind z in
      record {
        records = map opened_by txs ++ behind;
        found = level_found r.level txs before behind e h p;
        fit = all_append _ (map opened_by txs) behind of fits.1.1;
        accepts = accepted_both (map opened_by txs) behind r k.0 b.0;
        agrees = subst (λ x. Agree x (repeat_all rs s₀)) (sym (repeat_append (map opened_by txs) behind r)) (subst (Agree (repeat_all behind y)) (sym all) (agree_sym b.1));
      }
    where
      mark_past : (l : ℕ) (txs : List ℕ) (behind : List LogRecord) (z : Store) → all_accepted (mark_of l txs ∷ behind) z ≡ true → all_accepted behind z ≡ true
      mark_past l txs behind z h = unfold all_accepted repeat call_of call_if gives accepted in h

      mark_store : (l : ℕ) (txs : List ℕ) (behind : List LogRecord) (z : Store) → repeat_all (mark_of l txs ∷ behind) z ≡ repeat_all behind z
      mark_store l txs behind z = unfold repeat_all repeat call_of call_if gives in refl

  pub resumes : Marked s₀ rs (rows r.pages) r.next r.level → Resumes s₀ r rs
  resumes (at_start l e n) = from_start l e n
  resumes (at_mark before behind e h p q n) = from_mark_lem before behind e h p q n

-- ---- what is left open is aborted on both

pub brings_back : (s₀ y : Store) (rs : List LogRecord) → Origin s₀ → AllRecordsFit rs → WellFormed y → Agree y (repeat_all rs s₀)
    → BringsBack (repeat_all (aborts_of y) y) (completed rs s₀)
unfolding completed
brings_back s₀ y rs origin fit w a =
    let t = repeat_all rs s₀ in
    let v = repeat_well rs s₀ fit origin.well in
    let same : aborts_of y ≡ aborts_of t = unfold aborts_of in ap (map aborted_by) (agree_sorted y t w v a) in
    let k = aborts_of_lem y w in
    let b = repeat_agree (aborts_of y) y t (aborts_of_fit y w) w v a (repeat_idle rs s₀ origin.idle) k.0 in
    let c = subst (λ z. Agree (repeat_all (aborts_of y) y) (repeat_all z t)) same b.1 in
    record { rows = c.rows; next = c.next; nobody = k.1 }
