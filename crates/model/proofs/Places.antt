-- What operations by place do to all tuples held; and operations by number, which are those at the number's place.
use Rattle.basics.proofs.Kit.{◌≡◌, refl, sym, ap, ◌∙◌, ⊎_elim, ◌⊎◌, inl, inr, true, false, some, none, Option, List, [], ◌∷◌, ◌++◌, append_assoc, append-nil, map, ℕ, suc, ◌+◌, ◌≤◌, ◌<◌}
use Rattle.basics.proofs.Kit.{zero, ◌-◌, ltb, length, length-map, arith, subst, zero-add}
use Rattle.basics.specs.Basics.{if'◌then◌else◌, is_empty}
use Rattle.basics.proofs.Lists.{map_append}
use Rattle.basics.proofs.Facts.{by, AllOf}
use Rattle.model.specs.State.{Held, Page}
use Rattle.model.specs.Rules.{fresh, list_of, with_tuples, remove_now, pend_remove, commit_now, pend_commit, is_adding, is_removing, with_pending, as_committed}
use Rattle.model.specs.Places.{tagged, at_row, edit_at, pend_remove_at, remove_row_on, committed_at, commit_row_on, remove_row, commit_row}
use Rattle.basics.specs.Lists.{remove_at}
use Rattle.basics.proofs.Elements.{le_true, lt_false, leb-true, leb-false}
use Rattle.model.proofs.ByNumber.{place_in, numbers_on, Op, to_commit, to_remove}
use Rattle.model.proofs.Rows.{Entry, with_table, tagged_append, tagged_settle, tagged_page, number_of, edit_entry, Edits, Amends, edit_amends, away, kept_row, removed_edits}
use Rattle.model.proofs.Rows.{pend_remove_edits, kept_edits, pend_commit_edits, table_append, table_length}
use Rattle.model.proofs.Sound.{PageOk}
use Rattle.model.proofs.Shown.{taken_at_is}
use Rattle.basics.proofs.Parts.{remove_at_suc, remove_at_left, remove_at_right}
use Rattle.basics.proofs.Kit.{suc-add}
use Rattle.image_rows.specs.Rows.{Row}

-- ---- numbers

-- the numbers of all tuples held
abbrev pub numbers : List Page → List ℕ
numbers ps = map number_of (tagged ps)

numbers_table : (t : ℕ) (hs : List Held) → map number_of (with_table t hs) ≡ numbers_on hs
numbers_table t [] = refl
numbers_table t (h ∷ hs) = ap (λ z. h.tuple.number ∷ z) (numbers_table t hs)

numbers_cons : (p : Page) (ps : List Page) → numbers (p ∷ ps) ≡ numbers_on p.tuples ++ numbers ps
unfolding tagged
numbers_cons p ps = map_append number_of (with_table p.table p.tuples) (tagged ps) ∙ ap (λ z. z ++ numbers ps) (numbers_table p.table p.tuples)

-- ---- the page of a row

module _ (f : ℕ → Option Page → Page → List Page → List Page) (i : ℕ) (o : Option Page) (p : Page) (ps : List Page) where
  pub row_here : i < length p.tuples → at_row f i o (p ∷ ps) ≡ f i o p ps
  unfolding at_row
  row_here h = rw (le_true (suc i) (length p.tuples) h, at_row)

  pub row_past : length p.tuples ≤ i → at_row f i o (p ∷ ps) ≡ list_of o ++ at_row f (i - length p.tuples) (some p) ps
  unfolding at_row
  row_past h = rw (lt_false i (length p.tuples) h, at_row)

-- ---- all tuples after an operation by place

-- a is b, or b without element i
abbrev pub Less : {A : Type 0} → ℕ → List A → List A → Type 0
Less i a b = (a ≡ b) ⊎ (a ≡ remove_at i b)

edit_less : (g : Held → List Held) → ((h : Held) → (numbers_on (g h) ≡ h.tuple.number ∷ []) ⊎ (g h ≡ [])) → (j : ℕ) (hs : List Held)
    → Less j (numbers_on (edit_at g j hs)) (numbers_on hs)
unfolding edit_at
edit_less g k j [] = inl refl
edit_less g k zero (h ∷ hs) =
    ⊎_elim (λ e. inl (map_append _ (g h) hs ∙ ap (λ z. z ++ numbers_on hs) e)) (λ e. inr (ap (λ z. numbers_on (z ++ hs)) e)) (k h)
edit_less g k (suc j) (h ∷ hs) =
    ⊎_elim (λ e. inl (ap (λ z. h.tuple.number ∷ z) e)) (λ e. inr (ap (λ z. h.tuple.number ∷ z) e ∙ sym (remove_at_suc j h.tuple.number (numbers_on hs))))
    (edit_less g k j hs)

edit_same : (g : Held → List Held) → ((h : Held) → numbers_on (g h) ≡ h.tuple.number ∷ []) → (j : ℕ) (hs : List Held) → numbers_on (edit_at g j hs) ≡ numbers_on hs
unfolding edit_at
edit_same g k j [] = refl
edit_same g k zero (h ∷ hs) = map_append _ (g h) hs ∙ ap (λ z. z ++ numbers_on hs) (k h)
edit_same g k (suc j) (h ∷ hs) = ap (λ z. h.tuple.number ∷ z) (edit_same g k j hs)

-- the tuples of the page of row i, changed by E, among all
unfoldable pub entries_at : (ℕ → Page → List Held) → ℕ → List Page → List Entry
entries_at E i [] = []
entries_at E i (p ∷ ps) =
    elim (ltb i (length p.tuples)) [
      | true ↦ with_table p.table (E i p) ++ tagged ps
      | false ↦ with_table p.table p.tuples ++ entries_at E (i - length p.tuples) ps
    ]

row_entries : (f : ℕ → Option Page → Page → List Page → List Page) (E : ℕ → Page → List Held)
    → ((j : ℕ) (o : Option Page) (p : Page) (ps : List Page) → tagged (f j o p ps) ≡ tagged (list_of o) ++ (with_table p.table (E j p) ++ tagged ps))
    → (i : ℕ) (o : Option Page) (ps : List Page) → tagged (at_row f i o ps) ≡ tagged (list_of o) ++ entries_at E i ps
unfolding at_row entries_at
row_entries f E does i o [] = sym (append-nil (tagged (list_of o)))
row_entries f E does i o (p ∷ ps) =
    by (ltb i (length p.tuples)) (λ h. rw (h, at_row, entries_at) (does i o p ps))
    (λ h. rw (h, at_row, entries_at) (tagged_append (list_of o) (at_row f (i - length p.tuples) (some p) ps)
    ∙ ap (λ z. tagged (list_of o) ++ z) (row_entries f E does (i - length p.tuples) (some p) ps ∙ ap (λ z. z ++ entries_at E (i - length p.tuples) ps) (alone p))))
  where
    alone : (p : Page) → tagged (list_of (some p)) ≡ with_table p.table p.tuples
    alone p = unfold tagged list_of in append-nil (with_table p.table p.tuples)

less_left : (i : ℕ) (a b c : List ℕ) → i < length b → Less i a b → Less i (a ++ c) (b ++ c)
less_left i a b c h = ⊎_elim (λ e. inl (ap (λ z. z ++ c) e)) (λ e. inr (ap (λ z. z ++ c) e ∙ sym (remove_at_left i b c h)))

less_right : (i : ℕ) (c a b : List ℕ) → length c ≤ i → Less (i - length c) a b → Less i (c ++ a) (c ++ b)
less_right i c a b h = ⊎_elim (λ e. inl (ap (λ z. c ++ z) e)) (λ e. inr (ap (λ z. c ++ z) e ∙ sym (remove_at_right i c b h)))

numbers_page : (t : ℕ) (hs : List Held) (es : List Entry) → map number_of (with_table t hs ++ es) ≡ numbers_on hs ++ map number_of es
numbers_page t hs es = map_append number_of (with_table t hs) es ∙ ap (λ z. z ++ map number_of es) (numbers_table t hs)

module _ (E : ℕ → Page → List Held) where
  -- no number changes
  numbers_same : ((j : ℕ) (p : Page) → numbers_on (E j p) ≡ numbers_on p.tuples) → (i : ℕ) (ps : List Page) → map number_of (entries_at E i ps) ≡ numbers ps
  unfolding entries_at
  numbers_same k i [] = unfold tagged in refl
  numbers_same k i (p ∷ ps) =
      by (ltb i (length p.tuples))
      (λ h. rw (h, entries_at) (numbers_page p.table (E i p) (tagged ps) ∙ ap (λ z. z ++ numbers ps) (k i p) ∙ sym (numbers_cons p ps)))
      (λ h. rw (h, entries_at) (numbers_page p.table p.tuples (entries_at E (i - length p.tuples) ps)
      ∙ ap (λ z. numbers_on p.tuples ++ z) (numbers_same k (i - length p.tuples) ps) ∙ sym (numbers_cons p ps)))

  -- the one at that place is removed, or none
  numbers_less : ((j : ℕ) (p : Page) → Less j (numbers_on (E j p)) (numbers_on p.tuples)) → (i : ℕ) (ps : List Page)
      → Less i (map number_of (entries_at E i ps)) (numbers ps)
  unfolding entries_at
  numbers_less k i [] = inl (unfold tagged in refl)
  numbers_less k i (p ∷ ps) =
      let len : length (numbers_on p.tuples) ≡ length p.tuples = length-map p.tuples _ in
      by (ltb i (length p.tuples))
      (λ h. rw (h, entries_at, numbers_page p.table (E i p) (tagged ps), numbers_cons p ps)
      (less_left i (numbers_on (E i p)) (numbers_on p.tuples) (numbers ps) (omega (arith, leb-true (suc i) (length p.tuples) h)) (k i p)))
      (λ h. rw (h, entries_at, numbers_page p.table p.tuples (entries_at E (i - length p.tuples) ps), numbers_cons p ps)
      (less_right i (numbers_on p.tuples) _ (numbers ps) (omega (arith, leb-false (suc i) (length p.tuples) h))
      (rw len (numbers_less k (i - length p.tuples) ps))))

-- the tuples of a page after the removal of tuple j
unfoldable pub removed_on : ℕ → Page → List Held
removed_on j p = if' p.frozen then pend_remove_at j p.tuples else edit_at remove_now j p.tuples

-- after its commit
unfoldable pub committed_on : ℕ → Page → List Held
committed_on j p = if' p.frozen then edit_at pend_commit j p.tuples else edit_at commit_now j p.tuples

tagged_remove_row_on : (j : ℕ) (o : Option Page) (p : Page) (ps : List Page)
    → tagged (remove_row_on j o p ps) ≡ tagged (list_of o) ++ (with_table p.table (removed_on j p) ++ tagged ps)
unfolding remove_row_on removed_on if'◌then◌else◌ with_tuples fresh
tagged_remove_row_on j o p ps =
    let q = fresh p.table (edit_at remove_now j p.tuples) in
    by p.frozen (λ h. rw (h, tagged_page o _ ps)) (λ h. rw (h, tagged_settle (q ∷ []) o q ps (λ m. refl), tagged_page o q ps))

tagged_commit_row_on : (j : ℕ) (o : Option Page) (p : Page) (ps : List Page)
    → tagged (commit_row_on j o p ps) ≡ tagged (list_of o) ++ (with_table p.table (committed_on j p) ++ tagged ps)
unfolding commit_row_on committed_at committed_on if'◌then◌else◌ with_tuples fresh
tagged_commit_row_on j o p ps = by p.frozen (λ h. rw (h, tagged_page o _ ps)) (λ h. rw (h, tagged_page o _ ps))

-- all tuples after the removal, and after the commit, of row i: for any pages
pub tagged_remove_row : (i : ℕ) (ps : List Page) → tagged (remove_row i ps) ≡ entries_at removed_on i ps
unfolding remove_row
tagged_remove_row i ps = row_entries remove_row_on removed_on tagged_remove_row_on i none ps ∙ (unfold list_of tagged in refl)

pub tagged_commit_row : (i : ℕ) (ps : List Page) → tagged (commit_row i ps) ≡ entries_at committed_on i ps
unfolding commit_row
tagged_commit_row i ps = row_entries commit_row_on committed_on tagged_commit_row_on i none ps ∙ (unfold list_of tagged in refl)

later_number : (h : Held) → (numbers_on (pend_remove h) ≡ h.tuple.number ∷ []) ⊎ (pend_remove h ≡ [])
unfolding pend_remove if'◌then◌else◌ with_pending
later_number h = by (is_adding h.pending) (λ k. rw k (inr refl)) (λ k. rw k (inl refl))

removed_less : (j : ℕ) (p : Page) → Less j (numbers_on (removed_on j p)) (numbers_on p.tuples)
unfolding removed_on pend_remove_at if'◌then◌else◌ remove_now
removed_less j p =
    by p.frozen
    (λ h. by (is_empty (edit_at pend_remove j p.tuples)) (λ k. rw (h, k) (inl refl)) (λ k. rw (h, k) (edit_less pend_remove later_number j p.tuples)))
    (λ h. rw h (edit_less remove_now (λ x. inr refl) j p.tuples))

kept_number : (h : Held) → numbers_on (commit_now h) ≡ h.tuple.number ∷ []
unfolding commit_now as_committed
kept_number h = refl

pend_commit_number : (h : Held) → numbers_on (pend_commit h) ≡ h.tuple.number ∷ []
unfolding pend_commit if'◌then◌else◌ with_pending
pend_commit_number h =
    by (is_adding h.pending) (λ k. rw k (kept_number h)) (λ k. by (is_removing h.pending) (λ m. rw (k, m)) (λ m. rw (k, m)))

committed_same : (j : ℕ) (p : Page) → numbers_on (committed_on j p) ≡ numbers_on p.tuples
unfolding committed_on if'◌then◌else◌
committed_same j p = by p.frozen (λ h. rw h (edit_same pend_commit pend_commit_number j p.tuples)) (λ h. rw h (edit_same commit_now kept_number j p.tuples))

pub remove_numbers : (i : ℕ) (ps : List Page) → Less i (numbers (remove_row i ps)) (numbers ps)
remove_numbers i ps = rw (tagged_remove_row i ps) (numbers_less removed_on removed_less i ps)

pub commit_numbers : (i : ℕ) (ps : List Page) → numbers (commit_row i ps) ≡ numbers ps
commit_numbers i ps = rw (tagged_commit_row i ps) (numbers_same committed_on committed_same i ps)

-- ---- operations by number

-- the tuple of number n is removed
abbrev pub remove : ℕ → List Page → List Page
remove n ps = remove_row (place_in n (numbers ps)) ps

-- the tuple of number n is committed
abbrev pub commit : ℕ → List Page → List Page
commit n ps = commit_row (place_in n (numbers ps)) ps

-- the operations, one after another
unfoldable pub perform : List Op → List Page → List Page
perform [] ps = ps
perform (to_commit n ∷ os) ps = perform os (commit n ps)
perform (to_remove n ∷ os) ps = perform os (remove n ps)

edit_here : (g : Held → List Held) (t j : ℕ) (hs : List Held) (es : List Entry) → j < length hs → with_table t (edit_at g j hs) ++ es ≡ edit_entry g j (with_table t hs ++ es)
unfolding edit_at edit_entry
edit_here g t j [] es l = absurd (omega arith)
edit_here g t zero (h ∷ hs) es l = rw (table_append t (g h) hs, append_assoc (with_table t (g h)) (with_table t hs) es)
edit_here g t (suc j) (h ∷ hs) es l = ap (λ z. (t, h) ∷ z) (edit_here g t j hs es (omega arith))

edit_past : (g : Held → List Held) (c : List Entry) (i : ℕ) (es : List Entry) → c ++ edit_entry g i es ≡ edit_entry g (length c + i) (c ++ es)
unfolding edit_entry
edit_past g [] i es = ap (λ k. edit_entry g k es) (sym (zero-add i))
edit_past g (x ∷ c) i es = ap (λ z. x ∷ z) (edit_past g c i es) ∙ ap (λ k. edit_entry g k (x ∷ (c ++ es))) (sym (suc-add (length c) i))

-- a is b with an edit that makes G of the live row, at place i
record Edited (G : Row → List Row) (i : ℕ) (a b : List Entry) : Type 0 where
  by_edit : Held → List Held
  edits : Edits by_edit G
  is : a ≡ edit_entry by_edit i b

-- the same of the tuples of one page
record EditedOn (G : Row → List Row) (j : ℕ) (a b : List Held) : Type 0 where
  by_edit : Held → List Held
  edits : Edits by_edit G
  is : a ≡ edit_at by_edit j b

-- what is done to one page is done to all tuples
edited : (G : Row → List Row) (E : ℕ → Page → List Held) → ((j : ℕ) (p : Page) → PageOk p → EditedOn G j (E j p) p.tuples) → (g : Held → List Held) → Edits g G
    → (i : ℕ) (ps : List Page) → AllOf PageOk ps → Edited G i (entries_at E i ps) (tagged ps)
unfolding entries_at tagged edit_entry
edited G E on g d i [] a = record { by_edit = g; edits = d; is = refl }
edited G E on g d i (p ∷ ps) a =
    let c = with_table p.table p.tuples in
    by (ltb i (length p.tuples))
    (λ h. let k = on i p a.0 in rw (h, entries_at) (record {
      by_edit = k.by_edit;
      edits = k.edits;
      is = ap (λ z. with_table p.table z ++ tagged ps) k.is ∙ edit_here k.by_edit p.table i p.tuples (tagged ps) (leb-true (suc i) (length p.tuples) h);
    }))
    (λ h. let j = i - length p.tuples in let k = edited G E on g d j ps a.1 in
    let e : length c + j ≡ i = omega (arith, table_length p.table p.tuples, leb-false (suc i) (length p.tuples) h) in rw (h, entries_at) (record {
      by_edit = k.by_edit;
      edits = k.edits;
      is = ap (λ z. c ++ z) k.is ∙ edit_past k.by_edit c j (tagged ps) ∙ ap (λ z. edit_entry k.by_edit z (c ++ tagged ps)) e;
    }))

edited_amends : (G : Row → List Row) (n : ℕ) (a b : List Entry) → Edited G (place_in n (map number_of b)) a b → Amends G n a b
edited_amends G n a b k = subst (λ z. Amends G n z b) (sym k.is) (edit_amends k.by_edit G k.edits n b)

removed_on_lem : (j : ℕ) (p : Page) → PageOk p → EditedOn away j (removed_on j p) p.tuples
unfolding removed_on if'◌then◌else◌
removed_on_lem j p ok =
    by p.frozen (λ h. record { by_edit = pend_remove; edits = pend_remove_edits; is = rw h (taken_at_is j p.tuples (ok.2 h).1) })
    (λ h. record { by_edit = remove_now; edits = removed_edits; is = rw h })

committed_on_lem : (j : ℕ) (p : Page) → EditedOn kept_row j (committed_on j p) p.tuples
unfolding committed_on if'◌then◌else◌
committed_on_lem j p =
    by p.frozen (λ h. record { by_edit = pend_commit; edits = pend_commit_edits; is = rw h }) (λ h. record { by_edit = commit_now; edits = kept_edits; is = rw h })

pub amends_remove : (n : ℕ) (ps : List Page) → AllOf PageOk ps → Amends away n (tagged (remove n ps)) (tagged ps)
amends_remove n ps a = rw (tagged_remove_row (place_in n (numbers ps)) ps)
    (edited_amends away n _ (tagged ps) (edited away removed_on removed_on_lem remove_now removed_edits (place_in n (numbers ps)) ps a))

pub amends_commit : (n : ℕ) (ps : List Page) → AllOf PageOk ps → Amends kept_row n (tagged (commit n ps)) (tagged ps)
amends_commit n ps a = rw (tagged_commit_row (place_in n (numbers ps)) ps)
    (edited_amends kept_row n _ (tagged ps) (edited kept_row committed_on (λ j p ok. committed_on_lem j p) commit_now kept_edits (place_in n (numbers ps)) ps a))
