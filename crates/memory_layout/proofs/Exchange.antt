-- Pages as runs of the rows: where each starts and what it holds; what becomes of the pages where rows and entries change together.
use Rattle.basics.proofs.Kit.{◌≡◌, refl, sym, ap, ◌∙◌, List, [], ◌∷◌, ◌++◌, ℕ, suc, ◌+◌, ◌≤◌, ◌<◌, zero, ◌-◌, add-one, length, take, drop, get_or, set, length-drop}
use Rattle.basics.proofs.Kit.{length-set, drop_of_length-le, set_split, drop-drop, take-add, take_all, take-suc, get_or-drop, length-take-le, get_or-take, arith}
use Rattle.basics.specs.Basics.{sum}
use Rattle.model.specs.State.{Held, Page}
use Rattle.basics.specs.Lists.{insert_at, remove_at}
use Rattle.memory_layout.specs.Flat.{Flat, entry_in, no_entry}
use Rattle.memory_layout.specs.Store.{page_of, nest, pages_in, page_in, total, start_of}
use Rattle.memory_layout.specs.declared.Entry.{Entry}
use Rattle.memory_layout.proofs.Nest.{Counted, counted_length, total_append, total_split, counted_append, counted_take, counted_drop, nest_at, length_nest, nest_replace}
use Rattle.basics.proofs.Parts.{insert_within, remove_within, set_within}
use Rattle.basics.proofs.Parts.{length_insert, length_remove, cut_rows}

-- ---- entries that have rows

pub counted_set : (es : List Entry) (p : ℕ) (e : Entry) → Counted es → 1 ≤ e.count → Counted (set es p e)
counted_set [] p e c h = c
counted_set (d ∷ es) zero e c h = (h, c.1)
counted_set (d ∷ es) (suc p) e c h = (c.0, counted_set es p e c.1 h)

-- r entries from p on exchanged
pub counted_exchange : (es ms : List Entry) (p r : ℕ) → Counted es → Counted ms → Counted (take p es ++ (ms ++ drop (p + r) es))
counted_exchange es ms p r c cm = counted_append (take p es) _ (counted_take p es c) (counted_append ms _ cm (counted_drop (p + r) es c))

-- where an entry has two rows, there are more rows than entries
pub counted_more : (es : List Entry) (p : ℕ) → Counted es → p < length es → 1 < (get_or es p no_entry).count → length es < total es
unfolding total sum
counted_more [] p c h t = absurd (omega arith)
counted_more (e ∷ es) zero c h t = omega (arith, counted_length es c.1)
counted_more (e ∷ es) (suc p) c h t = omega (arith, c.0, counted_more es p c.1 (omega arith) t)

-- ---- one or two new pages

pub nest_one : (e : Entry) (ws : List Held) → e.count ≡ length ws → nest (e ∷ []) ws ≡ page_of e ws ∷ []
unfolding nest
nest_one e ws l = ap (λ (z : List Held). page_of e z ∷ []) (take_all e.count ws (omega arith))

pub nest_two : (d e : Entry) (ws : List Held) → d.count + e.count ≡ length ws
    → nest (d ∷ e ∷ []) ws ≡ page_of d (take d.count ws) ∷ page_of e (drop d.count ws) ∷ []
unfolding nest
nest_two d e ws l =
    ap (λ (z : List Held). page_of d (take d.count ws) ∷ page_of e z ∷ []) (take_all e.count (drop d.count ws) (simp length-drop (omega arith)))

-- ---- pages by place

module _ (f : Flat) where
  pub start_next : (p : ℕ) → p < length f.entries → start_of f (p + 1) ≡ start_of f p + (entry_in f p).count
  unfolding total sum
  start_next p h =
      let es : List Entry = f.entries in
      let a : total (take (p + 1) es) ≡ total (take p es ++ get_or es p no_entry ∷ []) =
      ap (λ (z : ℕ). total (take z es)) (add-one p) ∙ ap total (take-suc es p no_entry h) in
      let b : total (take p es ++ get_or es p no_entry ∷ []) ≡ total (take p es) + ((get_or es p no_entry).count + 0) = total_append (take p es) (get_or es p no_entry ∷ []) in
      omega arith

  pub pages_count : length (pages_in f) ≡ length f.entries
  pages_count = length_nest f.entries f.rows

  pub pages_end : (p : ℕ) → length f.entries ≤ p → drop p (pages_in f) ≡ []
  pages_end p h = drop_of_length-le (pages_in f) {i = p} (omega (arith, pages_count))

  pub page_at_lem : (p : ℕ) → p < length f.entries → drop p (pages_in f) ≡ page_in f p ∷ drop (suc p) (pages_in f)
  unfolding page_in
  page_at_lem p h = nest_at f.entries f.rows p no_entry h

-- ---- where the pages have all rows

module _ (f : Flat) (full : total f.entries ≡ length f.rows) where
  pub start_le : (p : ℕ) → start_of f p ≤ length f.rows
  start_le p = omega (arith, total_split p f.entries, full)

  pub start_in : (p : ℕ) → p < length f.entries → start_of f p + (entry_in f p).count ≤ length f.rows
  start_in p h = omega (arith, start_next f p h, start_le (p + 1))

  pub page_long : (p : ℕ) → p < length f.entries → length (page_in f p).tuples ≡ (entry_in f p).count
  unfolding page_in page_of
  page_long p h = length-take-le (entry_in f p).count (drop (start_of f p) f.rows) (simp length-drop (omega (arith, start_in p h)))

  -- tuple j of page p
  pub tuple_at : (p j : ℕ) (d : Held) → j < (entry_in f p).count → get_or (page_in f p).tuples j d ≡ get_or f.rows (start_of f p + j) d
  unfolding page_in page_of
  tuple_at p j d h = get_or-take (entry_in f p).count (drop (start_of f p) f.rows) j d h ∙ get_or-drop (start_of f p) f.rows j d

  -- r pages from p on, with the c rows from s on, become others
  pub exchange : (p r s c : ℕ) (ms : List Entry) (ws : List Held) → s ≡ start_of f p → s + c ≡ start_of f (p + r) → length ws ≡ total ms
      → nest (take p f.entries ++ (ms ++ drop (p + r) f.entries)) (take s f.rows ++ (ws ++ drop (s + c) f.rows))
      ≡ take p (pages_in f) ++ (nest ms ws ++ drop (p + r) (pages_in f))
  exchange p r s c ms ws es ends lw = nest_replace f.entries f.rows p r s c ms ws es ends (omega (arith, start_le p)) lw

-- ---- one page

module _ (f : Flat) (full : total f.entries ≡ length f.rows) (p : ℕ) (h : p < length f.entries) where
  abbrev s : ℕ
  s = start_of f p

  abbrev n : ℕ
  n = (entry_in f p).count

  abbrev run : List Held
  run = take (entry_in f p).count (drop (start_of f p) f.rows)

  run_long : length (take (entry_in f p).count (drop (start_of f p) f.rows)) ≡ (entry_in f p).count
  run_long = length-take-le n (drop s f.rows) (simp length-drop (omega (arith, start_in f full p h)))

  -- other pages for it
  pub for_page : (ms : List Entry) (ws : List Held) → length ws ≡ total ms
      → nest (take p f.entries ++ (ms ++ drop (p + 1) f.entries)) (take (start_of f p) f.rows ++ (ws ++ drop (start_of f p + (entry_in f p).count) f.rows))
      ≡ take p (pages_in f) ++ (nest ms ws ++ drop (suc p) (pages_in f))
  for_page ms ws l =
      exchange f full p 1 s n ms ws refl (sym (start_next f p h)) l
      ∙ ap (λ (k : ℕ). take p (pages_in f) ++ (nest ms ws ++ drop k (pages_in f))) (add-one p)

  -- another page for it
  pub page_set : (e : Entry) (ws R : List Held) → e.count ≡ length ws → R ≡ take (start_of f p) f.rows ++ (ws ++ drop (start_of f p + (entry_in f p).count) f.rows)
      → nest (set f.entries p e) R ≡ take p (pages_in f) ++ page_of e ws ∷ drop (suc p) (pages_in f)
  unfolding total sum
  page_set e ws R l eR =
      let eE : set f.entries p e ≡ take p f.entries ++ (e ∷ [] ++ drop (p + 1) f.entries) =
      set_split f.entries p e h ∙ ap (λ (k : ℕ). take p f.entries ++ e ∷ drop k f.entries) (sym (add-one p)) in
      (λ i. nest (eE i) (eR i))
      ∙ for_page (e ∷ []) ws (omega arith) ∙ ap (λ (z : List Page). take p (pages_in f) ++ (z ++ drop (suc p) (pages_in f))) (nest_one e ws l)

  -- its entry changed
  pub entry_set : (e : Entry) → e.count ≡ (entry_in f p).count
      → nest (set f.entries p e) f.rows ≡ take p (pages_in f) ++ page_of e (page_in f p).tuples ∷ drop (suc p) (pages_in f)
  unfolding page_in page_of
  entry_set e l = page_set e run f.rows (l ∙ sym run_long) (cut_rows s n f.rows)

  module _ (i : ℕ) (least : start_of f p ≤ i) where
    abbrev j : ℕ
    j = i - start_of f p

    i_is : i ≡ start_of f p + (i - start_of f p)
    i_is = omega arith

    pub row_inserted : (e : Entry) (x : Held) → i ≤ start_of f p + (entry_in f p).count → e.count ≡ (entry_in f p).count + 1
        → nest (set f.entries p e) (insert_at i x f.rows) ≡ take p (pages_in f) ++ page_of e (insert_at (i - start_of f p) x (page_in f p).tuples) ∷ drop (suc p) (pages_in f)
    unfolding page_in page_of
    row_inserted e x most l =
        page_set e (insert_at j x run) (insert_at i x f.rows) (omega (arith, length_insert j x run (omega (arith, run_long)), run_long))
        (ap (λ (z : ℕ). insert_at z x f.rows) i_is ∙ insert_within f.rows s j n x (omega arith))

    module _ (most : i < start_of f p + (entry_in f p).count) where
      pub row_removed : (e : Entry) → e.count + 1 ≡ (entry_in f p).count
          → nest (set f.entries p e) (remove_at i f.rows) ≡ take p (pages_in f) ++ page_of e (remove_at (i - start_of f p) (page_in f p).tuples) ∷ drop (suc p) (pages_in f)
      unfolding page_in page_of
      row_removed e l =
          page_set e (remove_at j run) (remove_at i f.rows) (omega (arith, length_remove j run (omega (arith, run_long)), run_long))
          (ap (λ (z : ℕ). remove_at z f.rows) i_is ∙ remove_within f.rows s j n (omega arith))

      pub row_changed : (e : Entry) (x : Held) → e.count ≡ (entry_in f p).count
          → nest (set f.entries p e) (set f.rows i x) ≡ take p (pages_in f) ++ page_of e (set (page_in f p).tuples (i - start_of f p) x) ∷ drop (suc p) (pages_in f)
      unfolding page_in page_of
      row_changed e x l =
          page_set e (set run j x) (set f.rows i x) (l ∙ sym (length-set run j x ∙ run_long))
          (ap (λ (z : ℕ). set f.rows z x) i_is ∙ set_within f.rows s j n (omega arith) x (start_in f full p h))

      -- the only row goes, and the page with it
      pub row_dropped : (entry_in f p).count ≡ 1 → nest (remove_at p f.entries) (remove_at i f.rows) ≡ take p (pages_in f) ++ drop (suc p) (pages_in f)
      unfolding total sum nest
      row_dropped one =
          let e : i ≡ start_of f p = omega arith in
          let z : i + 1 ≡ start_of f p + (entry_in f p).count = omega arith in
          (λ j. nest (remove_at p f.entries) (take (e j) f.rows ++ drop (z j) f.rows)) ∙ for_page [] [] refl

  -- cut after its first d .count rows
  pub page_split : (d e : Entry) → d.count + e.count ≡ (entry_in f p).count
      → nest (take p f.entries ++ d ∷ e ∷ drop (p + 1) f.entries) f.rows
      ≡ take p (pages_in f) ++ page_of d (take d.count (page_in f p).tuples) ∷ page_of e (drop d.count (page_in f p).tuples) ∷ drop (suc p) (pages_in f)
  unfolding page_in page_of total sum
  page_split d e l =
      ap (nest (take p f.entries ++ d ∷ e ∷ drop (p + 1) f.entries)) (cut_rows s n f.rows)
      ∙ for_page (d ∷ e ∷ []) run (run_long ∙ omega arith)
      ∙ ap (λ (z : List Page). take p (pages_in f) ++ (z ++ drop (suc p) (pages_in f))) (nest_two d e run (l ∙ sym run_long))

-- ---- two pages, or none

module _ (f : Flat) (full : total f.entries ≡ length f.rows) (p : ℕ) where
  pub pages_joined : (e : Entry) → p + 1 < length f.entries → e.count ≡ (entry_in f p).count + (entry_in f (p + 1)).count
      → nest (take p f.entries ++ e ∷ drop (p + 2) f.entries) f.rows
      ≡ take p (pages_in f) ++ page_of e ((page_in f p).tuples ++ (page_in f (p + 1)).tuples) ∷ drop (p + 2) (pages_in f)
  unfolding page_in page_of total sum
  pages_joined e lt l =
      let rs : List Held = f.rows in
      let x : ℕ = (entry_in f p).count in
      let y : ℕ = (entry_in f (p + 1)).count in
      let s : ℕ = start_of f p in
      let n1 : start_of f (p + 1) ≡ s + x = start_next f p (omega arith) in
      let z2 : p + 1 + 1 ≡ p + 2 = omega arith in
      let n2 : start_of f (p + 1 + 1) ≡ start_of f (p + 1) + y = start_next f (p + 1) lt in
      let le = start_in f full (p + 1) lt in
      let two : take (x + y) (drop s rs) ≡ take x (drop s rs) ++ take y (drop (start_of f (p + 1)) rs) =
      take-add x y (drop s rs) ∙ ap (λ (z : List Held). take x (drop s rs) ++ take y z) (drop-drop x s rs ∙ ap (λ (k : ℕ). drop k rs) (sym n1)) in
      let lr : length (take (x + y) (drop s rs)) ≡ x + y = length-take-le (x + y) (drop s rs) (simp length-drop (omega arith)) in
      ap (nest (take p f.entries ++ e ∷ drop (p + 2) f.entries)) (cut_rows s (x + y) rs)
      ∙ exchange f full p 2 s (x + y) (e ∷ []) (take (x + y) (drop s rs)) refl (omega (arith, ap (start_of f) z2)) (lr ∙ omega arith)
      ∙ ap (λ (z : List Page). take p (pages_in f) ++ (z ++ drop (p + 2) (pages_in f))) (nest_one e (take (x + y) (drop s rs)) (l ∙ sym lr))
      ∙ ap (λ (z : List Held). take p (pages_in f) ++ page_of e z ∷ drop (p + 2) (pages_in f)) two

  -- a new page of one row
  pub page_added : (e : Entry) (x : Held) → e.count ≡ 1
      → nest (insert_at p e f.entries) (insert_at (start_of f p) x f.rows) ≡ take p (pages_in f) ++ page_of e (x ∷ []) ∷ drop p (pages_in f)
  unfolding total sum
  page_added e x l =
      let s : ℕ = start_of f p in
      let sz : s ≡ s + 0 = omega arith in
      let pz : p ≡ p + 0 = omega arith in
      (λ i. nest (take p f.entries ++ e ∷ drop (pz i) f.entries) (take s f.rows ++ x ∷ drop (sz i) f.rows))
      ∙ exchange f full p 0 s 0 (e ∷ []) (x ∷ []) refl (sym sz ∙ ap (start_of f) pz) (omega arith)
      ∙ (λ i. take p (pages_in f) ++ (nest_one e (x ∷ []) l i ++ drop (sym pz i) (pages_in f)))
