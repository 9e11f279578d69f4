-- What an operation at a row does, on any pages: to its page, and to the list of all tuples.
use Rattle.basics.proofs.Kit.{◌≡◌, refl, sym, ap, ◌∙◌, ap₂, Bool, true, false, some, none, Option, List, [], ◌∷◌, ◌++◌, append_assoc, map, ℕ, suc, ◌+◌, ◌≤◌, ◌<◌, zero, ◌-◌, length, take}
use Rattle.basics.proofs.Kit.{drop, get_or, set, length-append, take-append-drop, length-set, length-map, set-get_or, arith}
use Rattle.basics.specs.Basics.{if'◌then◌else◌, is_empty}
use Rattle.basics.proofs.Facts.{by, lie}
use Rattle.model.specs.State.{Pending, nothing, adding, committing, removing, Held, Page}
use Rattle.model.specs.Rules.{list_of, fresh, with_tuples, settle, remove_now, pend_remove, commit_now, pend_commit, is_adding, is_removing, with_pending}
use Rattle.model.specs.Places.{edit_at, pend_remove_at, remove_row_on, committed_at, commit_row_on, remove_row, commit_row, on_page, tagged, RowOn, RowByPage, RemovedNow, RemovedLater}
use Rattle.basics.specs.Lists.{remove_at}
use Rattle.model.specs.Places.{LastStays, RemovedStays, committed_tuple, CommittedRow}
use Rattle.basics.proofs.Elements.{nonempty, le_true, lt_false, length_zero}
use Rattle.model.proofs.Rows.{with_table, tagged_append}
use Rattle.model.proofs.Places.{row_here, row_past, entries_at, removed_on, committed_on, tagged_remove_row, tagged_commit_row}
use Rattle.basics.proofs.Parts.{remove_at_suc, remove_middle, set_middle, map_set, map_remove, length_remove, drop_none}

-- ---- the page of a row

-- the first page is passed
tagged_length : (q : Page) (qs : List Page) → length (tagged (q ∷ qs)) ≡ length q.tuples + length (tagged qs)
unfolding tagged
tagged_length q qs = length-append (map (λ h. (q.table, h)) q.tuples) (tagged qs) ∙ ap (λ z. z + length (tagged qs)) (length-map q.tuples _)

on_first : (q : Page) (qs : List Page) (i j : ℕ) (p : Page) → RowOn (q ∷ qs) i 0 j p → (q ≡ p) × (i ≡ j)
unfolding tagged
on_first q qs i j p o = let e = o.page in (cc, omega (arith, o.place))

on_later : (q : Page) (qs : List Page) (i k j : ℕ) (p : Page) → RowOn (q ∷ qs) i (suc k) j p
    → (length q.tuples ≤ i) × RowOn qs (i - length q.tuples) k j p
on_later q qs i k j p o =
    let l = tagged_length q (take k qs) in
    (omega (arith, o.place), record { page = o.page; place = omega (arith, o.place); inside = o.inside })

pub row_by_page : RowByPage
unfolding on_page
row_by_page f [] i k j p o prev = absurd (drop_none k p (drop (suc k) []) o.page)
row_by_page f (q ∷ qs) i zero j p o prev =
    let w = on_first q qs i j p o in
    row_here f i prev q qs (omega (arith, o.inside, w.1, ap (λ z. length z.tuples) w.0)) ∙ ap (λ z. f z prev q qs) w.1
row_by_page f (q ∷ qs) i (suc k) j p o prev =
    let w = on_later q qs i k j p o in
    row_past f i prev q qs w.0 ∙ ap (λ z. list_of prev ++ z) (row_by_page f qs (i - length q.tuples) k j p w.1 (some q))

-- ---- all tuples

module _ (E : ℕ → Page → List Held) where
  changed_here : (i : ℕ) (p : Page) (ps : List Page) → i < length p.tuples → entries_at E i (p ∷ ps) ≡ with_table p.table (E i p) ++ tagged ps
  unfolding entries_at
  changed_here i p ps h = rw (le_true (suc i) (length p.tuples) h, entries_at)

  changed_past : (i : ℕ) (p : Page) (ps : List Page) → length p.tuples ≤ i
      → entries_at E i (p ∷ ps) ≡ with_table p.table p.tuples ++ entries_at E (i - length p.tuples) ps
  unfolding entries_at
  changed_past i p ps h = rw (lt_false i (length p.tuples) h, entries_at)

  -- the tuples before the page, its own, those behind it
  changed_on : (ps : List Page) (i k j : ℕ) (p : Page) → RowOn ps i k j p
      → entries_at E i ps ≡ tagged (take k ps) ++ (map (λ h. (p.table, h)) (E j p) ++ tagged (drop (suc k) ps))
  unfolding tagged
  changed_on [] i k j p o = absurd (drop_none k p (drop (suc k) []) o.page)
  changed_on (q ∷ qs) i zero j p o =
      let w = on_first q qs i j p o in
      changed_here i q qs (omega (arith, o.inside, w.1, ap (λ z. length z.tuples) w.0))
      ∙ ap₂ (λ z n. with_table z.table (E n z) ++ tagged qs) w.0 w.1
  changed_on (q ∷ qs) i (suc k) j p o =
      let w = on_later q qs i k j p o in
      changed_past i q qs w.0
      ∙ ap (λ b. with_table q.table q.tuples ++ b) (changed_on qs (i - length q.tuples) k j p w.1)
      ∙ sym (append_assoc (map (λ h. (q.table, h)) q.tuples) (tagged (take k qs)) _)

tagged_on : (ps : List Page) (i k j : ℕ) (p : Page) → RowOn ps i k j p
    → tagged ps ≡ tagged (take k ps) ++ (map (λ h. (p.table, h)) p.tuples ++ tagged (drop (suc k) ps))
tagged_on ps i k j p o = ap tagged (sym (take-append-drop k ps) ∙ ap (λ z. take k ps ++ z) o.page) ∙ tagged_append (take k ps) (p ∷ drop (suc k) ps)
    ∙ (unfold tagged in refl)

-- ---- one tuple of a page

module _ (g : Held → List Held) (d : Held) where
  pub edit_none : (hs : List Held) (j : ℕ) → j < length hs → g (get_or hs j d) ≡ [] → edit_at g j hs ≡ remove_at j hs
  unfolding edit_at
  edit_none [] j h e = absurd (omega arith)
  edit_none (x ∷ xs) zero h e = ap (λ z. z ++ xs) e
  edit_none (x ∷ xs) (suc j) h e = ap (λ z. x ∷ z) (edit_none xs j (omega arith) e) ∙ sym (remove_at_suc j x xs)

  pub edit_one : (x : Held) (hs : List Held) (j : ℕ) → g (get_or hs j d) ≡ x ∷ [] → edit_at g j hs ≡ set hs j x
  unfolding edit_at
  edit_one x [] j e = refl
  edit_one x (y ∷ ys) zero e = ap (λ z. z ++ ys) e
  edit_one x (y ∷ ys) (suc j) e = ap (λ z. y ∷ z) (edit_one x ys j e)

taken_is : (j : ℕ) (hs left : List Held) → edit_at pend_remove j hs ≡ left → 0 < length left → pend_remove_at j hs ≡ left
unfolding pend_remove_at if'◌then◌else◌
taken_is j hs left e l = ap (λ z. if' is_empty z then hs else z) e ∙ ap (λ b. if' b then hs else left) (nonempty left l)

-- the removal of tuple j on a frozen page
module _ (j : ℕ) (hs : List Held) (d : Held) (inside : j < length hs) where
  later_none : is_adding (get_or hs j d).pending ≡ true → edit_at pend_remove j hs ≡ remove_at j hs
  unfolding pend_remove if'◌then◌else◌
  later_none e = edit_none pend_remove d hs j inside (rw e)

  -- the last one stays
  pub taken_last : is_adding (get_or hs j d).pending ≡ true → length hs ≡ 1 → pend_remove_at j hs ≡ hs
  unfolding pend_remove_at if'◌then◌else◌ is_empty
  taken_last e l = ap (λ z. if' is_empty z then hs else z) (later_none e ∙ length_zero (remove_at j hs) (length_remove j hs inside ∙ omega arith))

  pub taken_away : is_adding (get_or hs j d).pending ≡ true → 1 < length hs → pend_remove_at j hs ≡ remove_at j hs
  taken_away e l = taken_is j hs (remove_at j hs) (later_none e) (omega (arith, length_remove j hs inside))

  pub taken_noted : (x : Held) → is_adding (get_or hs j d).pending ≡ false → x ≡ with_pending removing (get_or hs j d) → pend_remove_at j hs ≡ set hs j x
  unfolding pend_remove if'◌then◌else◌
  taken_noted x e ex = taken_is j hs (set hs j x) (edit_one pend_remove d x hs j (rw (e, ex) refl)) (omega (arith, length-set hs j x))

module _ (p : Page) (j : ℕ) (d : Held) (inside : j < length p.tuples) where
  page_removed : (p.frozen ≡ true → (is_adding (get_or p.tuples j d).pending ≡ true) × (1 < length p.tuples)) → removed_on j p ≡ remove_at j p.tuples
  page_removed f = by p.frozen (λ h. frozen h (f h)) (λ h. thawed h)
    where
      frozen : p.frozen ≡ true → (is_adding (get_or p.tuples j d).pending ≡ true) × (1 < length p.tuples) → removed_on j p ≡ remove_at j p.tuples
      frozen h a = unfold removed_on if'◌then◌else◌ in ap (λ b. if' b then pend_remove_at j p.tuples else edit_at remove_now j p.tuples) h
          ∙ taken_away j p.tuples d inside a.0 a.1

      thawed : p.frozen ≡ false → removed_on j p ≡ remove_at j p.tuples
      thawed h = unfold removed_on if'◌then◌else◌ remove_now in ap (λ b. if' b then pend_remove_at j p.tuples else edit_at remove_now j p.tuples) h
          ∙ edit_none remove_now d p.tuples j inside refl

  page_noted : p.frozen ≡ true → is_adding (get_or p.tuples j d).pending ≡ false → removed_on j p ≡ set p.tuples j (with_pending removing (get_or p.tuples j d))
  unfolding removed_on if'◌then◌else◌
  page_noted h a =
      ap (λ b. if' b then pend_remove_at j p.tuples else edit_at remove_now j p.tuples) h
      ∙ taken_noted j p.tuples d inside _ a refl

  page_committed : committed_on j p ≡ set p.tuples j (committed_tuple p.frozen (get_or p.tuples j d))
  page_committed = by p.frozen (λ h. frozen h) (λ h. thawed h)
    where
      both : Bool → List Held
      both b = if' b then edit_at pend_commit j p.tuples else edit_at commit_now j p.tuples

      later : (h : Held) → pend_commit h ≡ committed_tuple true h ∷ []
      later h = unfold pend_commit commit_now committed_tuple if'◌then◌else◌ in by (is_adding h.pending) (λ a. rw a)
          (λ a. by (is_removing h.pending) (λ r. rw (a, r)) (λ r. rw (a, r)))

      now : (h : Held) → commit_now h ≡ committed_tuple false h ∷ []
      now h = unfold commit_now committed_tuple if'◌then◌else◌ in refl

      frozen : p.frozen ≡ true → committed_on j p ≡ set p.tuples j (committed_tuple p.frozen (get_or p.tuples j d))
      frozen h = unfold committed_on if'◌then◌else◌ in ap both h ∙ edit_one pend_commit d (committed_tuple true (get_or p.tuples j d)) p.tuples j (later (get_or p.tuples j d))
          ∙ ap (λ b. set p.tuples j (committed_tuple b (get_or p.tuples j d))) (sym h)

      thawed : p.frozen ≡ false → committed_on j p ≡ set p.tuples j (committed_tuple p.frozen (get_or p.tuples j d))
      thawed h = unfold committed_on if'◌then◌else◌ in ap both h ∙ edit_one commit_now d (committed_tuple false (get_or p.tuples j d)) p.tuples j (now (get_or p.tuples j d))
          ∙ ap (λ b. set p.tuples j (committed_tuple b (get_or p.tuples j d))) (sym h)

-- ---- one tuple among all

module _ (ps : List Page) (i k j : ℕ) (p : Page) (o : RowOn ps i k j p) where
  tag : Held → ℕ × Held
  tag h = (p.table, h)

  all_removed : tagged (remove_row i ps) ≡ tagged (take k ps) ++ (map tag (removed_on j p) ++ tagged (drop (suc k) ps))
  unfolding tag
  all_removed = tagged_remove_row i ps ∙ changed_on removed_on ps i k j p o

  all_committed : tagged (commit_row i ps) ≡ tagged (take k ps) ++ (map tag (committed_on j p) ++ tagged (drop (suc k) ps))
  unfolding tag
  all_committed = tagged_commit_row i ps ∙ changed_on committed_on ps i k j p o

  inside_tagged : j < length (map tag p.tuples)
  inside_tagged = omega (arith, o.inside, length-map p.tuples tag)

  -- one tuple less on the page
  all_less : (hs : List Held) → hs ≡ remove_at j p.tuples → tagged (take k ps) ++ (map tag hs ++ tagged (drop (suc k) ps)) ≡ remove_at i (tagged ps)
  unfolding tag
  all_less hs e =
      ap (λ l. tagged (take k ps) ++ (l ++ tagged (drop (suc k) ps))) (ap (map tag) e ∙ map_remove tag p.tuples j o.inside)
      ∙ sym (ap₂ (λ n l. remove_at n l) o.place (tagged_on ps i k j p o)
      ∙ remove_middle (tagged (take k ps)) (map tag p.tuples) (tagged (drop (suc k) ps)) j inside_tagged)

  -- one tuple of the page changed
  all_set : (hs : List Held) (x : Held) → hs ≡ set p.tuples j x → tagged (take k ps) ++ (map tag hs ++ tagged (drop (suc k) ps)) ≡ set (tagged ps) i (p.table, x)
  unfolding tag
  all_set hs x e =
      ap (λ l. tagged (take k ps) ++ (l ++ tagged (drop (suc k) ps))) (ap (map tag) e ∙ map_set tag p.tuples j x)
      ∙ sym (ap₂ (λ n l. set l n (p.table, x)) o.place (tagged_on ps i k j p o)
      ∙ set_middle (tagged (take k ps)) (map tag p.tuples) (tagged (drop (suc k) ps)) j (p.table, x) inside_tagged)

pub removed_now : RemovedNow
removed_now ps i k j p d o f = all_removed ps i k j p o ∙ all_less ps i k j p o (removed_on j p) (page_removed p j d o.inside f)

pub removed_later : RemovedLater
removed_later ps i k j p d o f a =
    all_removed ps i k j p o ∙ all_set ps i k j p o (removed_on j p) (with_pending removing (get_or p.tuples j d)) (page_noted p j d o.inside f a)

pub committed_row : CommittedRow
committed_row ps i k j p d o =
    all_committed ps i k j p o ∙ all_set ps i k j p o (committed_on j p) (committed_tuple p.frozen (get_or p.tuples j d)) (page_committed p j d o.inside)

-- ---- where nothing changes

-- a page that stays
on_same : (f : Option Page → Page → List Page → List Page) (ps : List Page) (k : ℕ) (p : Page) → drop k ps ≡ p ∷ drop (suc k) ps
    → ((o : Option Page) (qs : List Page) → f o p qs ≡ list_of o ++ p ∷ qs) → (prev : Option Page) → on_page f k prev ps ≡ list_of prev ++ ps
unfolding on_page list_of
on_same f [] k p e h prev = absurd (drop_none k p (drop (suc k) []) e)
on_same f (q ∷ qs) zero p e h prev = let w : q ≡ p = cc in ap (λ z. f prev z qs) w ∙ h prev qs ∙ ap (λ z. list_of prev ++ z ∷ qs) (sym w)
on_same f (q ∷ qs) (suc k) p e h prev = ap (λ z. list_of prev ++ z) (on_same f qs k p e h (some q))

pub last_stays : LastStays
unfolding remove_row list_of
last_stays ps i k j p d o f a l =
    row_by_page remove_row_on ps i k j p o none ∙ on_same (remove_row_on j) ps k p o.page (λ r qs. stays r qs) none
  where
    stays : (r : Option Page) (qs : List Page) → remove_row_on j r p qs ≡ list_of r ++ p ∷ qs
    stays r qs = unfold remove_row_on if'◌then◌else◌ with_tuples in
        ap (λ b. if' b then list_of r ++ with_tuples p (pend_remove_at j p.tuples) ∷ qs
        else settle (fresh p.table (edit_at remove_now j p.tuples) ∷ []) r (fresh p.table (edit_at remove_now j p.tuples)) qs) f
        ∙ ap (λ hs. list_of r ++ with_tuples p hs ∷ qs) (taken_last j p.tuples d o.inside a l)

removing_kept : (h : Held) → is_removing h.pending ≡ true → pend_commit h ≡ h ∷ []
unfolding pend_commit if'◌then◌else◌
removing_kept h r = rw (not_adding h.pending r, r)
  where
    not_adding : (w : Pending) → is_removing w ≡ true → is_adding w ≡ false
    not_adding nothing e = unfold is_adding in refl
    not_adding adding e = lie (unfold is_removing in e)
    not_adding committing e = unfold is_adding in refl
    not_adding removing e = unfold is_adding in refl

pub removed_stays : RemovedStays
unfolding commit_row list_of
removed_stays ps i k j p d o f a = row_by_page commit_row_on ps i k j p o none ∙ on_same (commit_row_on j) ps k p o.page (λ r qs. stays r qs) none
  where
    same : edit_at pend_commit j p.tuples ≡ p.tuples
    same = edit_one pend_commit d (get_or p.tuples j d) p.tuples j (removing_kept (get_or p.tuples j d) a) ∙ set-get_or p.tuples j d

    stays : (r : Option Page) (qs : List Page) → commit_row_on j r p qs ≡ list_of r ++ p ∷ qs
    stays r qs = unfold commit_row_on committed_at if'◌then◌else◌ with_tuples in
        ap (λ b. list_of r ++ (if' b then with_tuples p (edit_at pend_commit j p.tuples) else fresh p.table (edit_at commit_now j p.tuples)) ∷ qs) f
        ∙ ap (λ hs. list_of r ++ with_tuples p hs ∷ qs) same
