-- The search for own rows: a row that is not tentative belongs to no transaction.
use Rattle.basics.proofs.Kit.{◌≡◌, refl, sym, ap, ◌∙◌, ⊎_elim, false, not, List, ℕ, ◌+◌, ◌≤◌, ◌<◌, ◌-◌, length, take, drop, get_or, length-take, length-drop, get_or-drop, get_or-take, arith}
use Rattle.basics.specs.Basics.{if'◌then◌else◌, any}
use Rattle.basics.proofs.Facts.{by}
use Rattle.block_forms.specs.Tuple.{Owner, committed, tentative, is_tentative}
use Rattle.image_rows.specs.Rows.{is_by}
use Rattle.model.specs.State.{Held}
use Rattle.model.specs.Rules.{is_removing, is_committing, applied, as_committed}
use Rattle.basics.proofs.Elements.{off_any, and_no, all_at}
use Rattle.basics.proofs.Tabs.{lt_or_ge}
use Rattle.memory_layout.specs.Flat.{flat_of, no_row, row_in, Room}
use Rattle.memory_rows.specs.Rows.{is_live_own, is_owned}
use Rattle.std.specs.Prelude.{Option as Found, Some, None}
use Rattle.engine_close.specs.Close.{tagged_of, is_own_row, FirstOwn}
use Rattle.engine_close.proofs.Memory.{row_is, tagged_length}

-- rows i up to r are not own
abbrev pub NotOwn : List ℕ → ℕ → ℕ → ℕ → Type 0
NotOwn m tx i r = (j : ℕ) → i ≤ j → j < r → is_own_row tx (tagged_of m) j ≡ false

-- rows behind r up to e are not own
abbrev pub NotLater : List ℕ → ℕ → ℕ → ℕ → Type 0
NotLater m tx r e = (j : ℕ) → r < j → j < e → is_own_row tx (tagged_of m) j ≡ false

by_none : (tx : ℕ) (o : Owner) → is_tentative o ≡ false → is_by tx o ≡ false
unfolding is_tentative is_by
by_none tx committed e = refl
by_none tx (tentative u s) e = absurd (let z : ◌≡◌ {A = ℕ} 0 1 = cc in omega arith)

own_not : (tx : ℕ) (h : Held) → is_owned h ≡ false → is_live_own tx h ≡ false
unfolding is_owned is_live_own applied as_committed if'◌then◌else◌
own_not tx h e =
    by (is_committing h.pending) (λ k. rw k ((unfold is_by in and_no (not (is_removing h.pending)))))
    (λ k. rw (k, by_none tx h.tuple.owner e) (and_no (not (is_removing h.pending))))

module _ (m : List ℕ) (room : Room m) (tx : ℕ) where
  pub own_is : (i : ℕ) → is_own_row tx (tagged_of m) i ≡ is_live_own tx (row_in (flat_of m) i)
  unfolding is_own_row
  own_is i = ap (is_live_own tx) (row_is m room i)

  pub not_own_more : {i r : ℕ} → NotOwn m tx i r → is_live_own tx (row_in (flat_of m) r) ≡ false → NotOwn m tx i (r + 1)
  not_own_more {i} {r} n o j x y = ⊎_elim (λ z. n j x z) (λ z. let q : j ≡ r = omega arith in own_is j ∙ ap (λ k. is_live_own tx (row_in (flat_of m) k)) q ∙ o) (lt_or_ge j r)

  pub not_own_then : {i r e : ℕ} → NotOwn m tx i r → NotOwn m tx r e → NotOwn m tx i e
  not_own_then {i} {r} a b j x y = ⊎_elim (λ z. a j x z) (λ z. b j z y) (lt_or_ge j r)

  -- a group without a tentative row
  pub group_not_own : (g : ℕ) → g + 16 ≤ length (tagged_of m) → any is_owned (take 16 (drop g (flat_of m).rows)) ≡ false → NotOwn m tx g (g + 16)
  group_not_own g h e j x y =
      let hs = (flat_of m).rows in
      let l = length-take 16 (drop g hs) in
      let d = length-drop g hs in
      let z : g + (j - g) ≡ j = omega arith in
      let a = all_at (λ r. is_owned r ≡ false) no_row (take 16 (drop g hs)) (j - g) (omega (arith, tagged_length m room)) (off_any is_owned (take 16 (drop g hs)) e) in
      own_is j ∙ own_not tx (row_in (flat_of m) j)
      (ap is_owned (sym (get_or-take 16 (drop g hs) (j - g) no_row (omega arith) ∙ get_or-drop g hs (j - g) no_row ∙ ap (λ k. get_or hs k no_row) z)) ∙ a)

  pub not_later_more : {r e : ℕ} → NotLater m tx r e → is_live_own tx (row_in (flat_of m) r) ≡ false → NotLater m tx (r - 1) e
  not_later_more {r} n o j x y = ⊎_elim (λ z. n j z y) (λ z. let q : j ≡ r = omega arith in own_is j ∙ ap (λ k. is_live_own tx (row_in (flat_of m) k)) q ∙ o) (lt_or_ge r j)

-- no row from row i up to row g is an own row, and the first one from there on is found
pub own_on : {m : List ℕ} → Room m → (tx : ℕ) {i g n : ℕ} → i ≤ g → NotOwn m tx i g → n ≡ length (tagged_of m) → (o : Found ℕ) → FirstOwn (tagged_of m) tx g n o
    → FirstOwn (tagged_of m) tx i (length (tagged_of m)) o
own_on {m} room tx l p e (Some r) (o, h) =
    (record { low = omega (arith, o.low); most = omega (arith, e); passed = not_own_then m room tx p o.passed; found = λ x. o.found h }, omega arith)
own_on {m} room tx l p e None o =
    record { low = omega (arith, o.low, e); most = omega arith; passed = λ j x y. not_own_then m room tx p o.passed j x (omega arith); found = λ x. absurd (omega arith) }
