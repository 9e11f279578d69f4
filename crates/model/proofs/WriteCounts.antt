-- A transaction's live rows are as many as the writes accepted since it opened: the count is kept from the calls and answers alone.
use Rattle.block_forms.specs.Limits.{most_statement}
use Rattle.basics.proofs.Kit.{◌≡◌, refl, sym, ap, ◌∙◌, Bool, true, false, not, List, [], ◌∷◌, ℕ, suc, ◌≤◌, min, eqb, ltb, length, arith, min-eq_left}
use Rattle.basics.specs.Basics.{if'◌then◌else◌, how_many, any, first, is_in}
use Rattle.basics.proofs.Facts.{lie, by, AllOf, by-option, and_true}
use Rattle.block_forms.specs.Tuple.{tentative, committed, Owner}
use Rattle.image_rows.specs.Rows.{is_own, is_by, Row}
use Rattle.image.specs.Stages.{directories_for}
use Rattle.model.specs.State.{Answer, Store, Outcome, Page, Checkpoint, idle, running, Active}
use Rattle.model.specs.Rules.{is_frozen}
use Rattle.model.specs.Sight.{rows}
use Rattle.model.specs.Transactions.{gives, changed, open_numbers, with_open, new_tuple, written_by, with_write, after_write, with_tuple, without, committed_pages, aborted_pages}
use Rattle.model.specs.Checkpoint.{begin_call, with_progress, store_page, made, allocate, step_at, step_of, store_directory, store_header, step_call, run_call}
use Rattle.model.specs.Calls.{TransactionCall, transact, Effect, no_effect, start_of, write_of, commit_of, abort_of, effect, Call, transacts, begins, steps, runs, call, effect_of, accepted}
use Rattle.model.specs.Calls.{is_transaction, others, with_writer, writers, after_calls, had_written}
use Rattle.basics.proofs.Elements.{Mem, many_none, all_map, eqb-true, all_mem, eqb_sym, many_length, in_keep, not-true, le_true, in_here, eqb_self, and_no, and_yes, any_many, in_past}
use Rattle.model.proofs.Owners.{count_append, count_new, numbers_write, count_write, count_other, numbers_without, count_without}
use Rattle.model.proofs.Effects.{unless_keeps, Does, refuses, answers, starts, writes, finishes, undoes, does}
use Rattle.model.proofs.NoStores.{step_frame, step_keeps, run_keeps, call_leaves}
use Rattle.model.proofs.Rows.{rows_freeze, thaw_rows, sub_length}
use Rattle.model.proofs.RowAfter.{gather, after_commit, commit_rows, after_abort, abort_rows}
use Rattle.model.proofs.Valid.{Valid, Counted, Opened}
use Rattle.model.proofs.Closing.{Comes, as_is, final, not_own, own_owner, gather_all, many_gather, commit_comes, commit_stays, abort_comes, abort_stays}
use Rattle.model.proofs.ByPlace.{commit_carried, abort_carried}
use Rattle.model.proofs.Keeps.{rows_differ, step_valid, keeps, rows_sub}
use Rattle.model.proofs.Inserted.{insert_row, place_rows, many_inserted}

-- ---- the count, from the calls and their answers

-- c: how many tuples transaction u had written before the call
unfoldable pub wrote : ℕ → ℕ → ℕ → ℕ
wrote u tx c = if' eqb tx u then suc c else c

unfoldable pub closed : ℕ → ℕ → ℕ → ℕ
closed u tx c = if' eqb tx u then 0 else c

unfoldable pub noted : Effect → ℕ → ℕ → ℕ
noted no_effect u c = c
noted (start_of tx) u c = c
noted (write_of tx) u c = wrote u tx c
noted (commit_of tx) u c = closed u tx c
noted (abort_of tx) u c = closed u tx c

unfoldable pub tally : Effect → Answer → ℕ → ℕ → ℕ
tally c a u n = if' accepted a then noted c u n else n

-- a transaction's live rows
unfoldable pub own : ℕ → Store → ℕ
own u s = how_many (is_own u) (rows s.pages)

abbrev Tallies : Effect → Store → Outcome → Type 0
Tallies c s o = (u : ℕ) → own u o.store ≡ tally c o.answer u (own u s)

-- ---- writing

own_new : (u tx k : ℕ) (bs : List ℕ) (m : Bool) (t : ℕ) (s : Store) → is_own u (t, new_tuple tx k bs m s) ≡ eqb tx u
unfolding is_own is_by new_tuple
own_new u tx k bs m t s = refl

pub written_rows : (s : Store) → Valid s → (tx t k : ℕ) (bs : List ℕ) (m : Bool)
    → rows (with_tuple tx t k bs m s).store.pages ≡ insert_row (t, new_tuple tx k bs m s) (rows s.pages)
unfolding with_tuple after_write gives changed new_tuple
written_rows s v tx t k bs m = place_rows t (new_tuple tx k bs m s) s.pages v.pages v.has.rising

written_own : (s : Store) → Valid s → (tx t k : ℕ) (bs : List ℕ) (m : Bool) (u : ℕ) → own u (with_tuple tx t k bs m s).store ≡ wrote u tx (own u s)
unfolding own wrote
written_own s v tx t k bs m u =
    ap (how_many (is_own u)) (written_rows s v tx t k bs m) ∙ many_inserted (is_own u) (t, new_tuple tx k bs m s) (rows s.pages)
    ∙ ap (λ b. if' b then suc (how_many (is_own u) (rows s.pages)) else how_many (is_own u) (rows s.pages)) (own_new u tx k bs m t s)

-- ---- closing

module _ (tx : ℕ) (rs : List Row) (F : Row → List Row)
    (comes : (r : Row) → Mem r rs → AllOf (Comes tx r) (F r))
    (stays : (r : Row) (u s : ℕ) → Mem r rs → r.1.owner ≡ tentative u s → eqb u tx ≡ false → F r ≡ r ∷ []) where
  removed_own : (r a : Row) → Comes tx r a → is_own tx a ≡ false
  removed_own r a (as_is n) = n
  removed_own r a (final p q o z) = not_own tx a o

  other_own : (u : ℕ) (r a : Row) → is_own u r ≡ false → Comes tx r a → is_own u a ≡ false
  other_own u r a h (as_is n) = h
  other_own u r a h (final p q o z) = not_own u a o

  one_own : (u : ℕ) → eqb u tx ≡ false → (r : Row) → Mem r rs → how_many (is_own u) (F r) ≡ how_many (is_own u) (r ∷ [])
  one_own u d r m =
      by (is_own u r)
      (λ h. ap (how_many (is_own u)) (stays r u (own_owner u r h).0 m (own_owner u r h).1 d))
      (λ h. many_none (is_own u) (F r) (all_map (Comes tx r) (λ a. is_own u a ≡ false) (λ a c. other_own u r a h c) (F r) (comes r m))
      ∙ sym (many_none (is_own u) (r ∷ []) (h, tt)))

  closed_own : (u : ℕ) → how_many (is_own u) (gather F rs) ≡ closed u tx (how_many (is_own u) rs)
  unfolding closed if'◌then◌else◌
  closed_own u =
      by (eqb tx u)
      (λ e. let q = eqb-true tx u e in rw e (many_none (is_own u) (gather F rs)
      (gather_all (λ a. is_own u a ≡ false) F rs
      (all_mem _ rs (λ r m. all_map (Comes tx r) (λ a. is_own u a ≡ false) (λ a c. ap (λ z. is_own z a) (sym q) ∙ removed_own r a c) (F r) (comes r m))))))
      (λ e. rw e (many_gather (is_own u) F rs (all_mem _ rs (λ r m. one_own u (eqb_sym tx u e) r m))))

pub committed_rows : (tx : ℕ) (s : Store) → Valid s → rows (committed_pages tx s.pages) ≡ gather (after_commit tx (rows s.pages)) (rows s.pages)
committed_rows tx s v = (commit_carried s.pages v.has.rising v.has.differ v.pages tx).1 ∙ commit_rows tx (rows s.pages) (rows_differ s v)

pub aborted_rows : (tx : ℕ) (s : Store) → Valid s → rows (aborted_pages tx s.pages) ≡ gather (after_abort tx) (rows s.pages)
aborted_rows tx s v = (abort_carried s.pages v.has.rising v.has.differ v.pages tx).1 ∙ abort_rows tx (rows s.pages) (rows_differ s v)

-- ---- the checkpoint leaves the rows

pub begin_rows : (s : Store) → rows (begin_call s).store.pages ≡ rows s.pages
unfolding begin_call gives with_progress
begin_rows s = unless_keeps (λ t. rows t.pages ≡ rows s.pages) _ s _ refl (λ p. rows_freeze s.pages)

page_rows : (n : ℕ) (es ds : List ℕ) (p : Page) (s : Store) → Valid s → rows (store_page n es ds p s).store.pages ≡ rows s.pages
unfolding store_page made with_progress
page_rows n es ds p s v = (thaw_rows (allocate s) s.pages v.pages).1

step_rows : (s : Store) → Valid s → rows (step_at s.checkpoint s).store.pages ≡ rows s.pages
unfolding step_at step_of gives if'◌then◌else◌ store_directory store_header made with_progress
step_rows s v = go s.checkpoint
  where
    go : (c : Checkpoint) → rows (step_at c s).store.pages ≡ rows s.pages
    go idle = refl
    go (running n es ds) =
        by-option (first is_frozen s.pages)
        (λ f. rw (f, step_of) (by (ltb (length ds) (directories_for (length es))) (λ k. rw (k, if'◌then◌else◌)) (λ k. rw (k, if'◌then◌else◌))))
        (λ p f. rw (f, step_of) (page_rows n es ds p s v))

-- the rows of s, step by step
steps_rows : (s t : Store) → Valid t × (rows t.pages ≡ rows s.pages)
    → Valid (step_at t.checkpoint t).store × (rows (step_at t.checkpoint t).store.pages ≡ rows s.pages)
steps_rows s t p = (step_valid t p.0, step_rows t p.0 ∙ p.1)

pub step_call_rows : (len : ℕ) (s : Store) → Valid s → rows (step_call len s).store.pages ≡ rows s.pages
step_call_rows len s v = (step_keeps (λ t. Valid t × (rows t.pages ≡ rows s.pages)) (steps_rows s) len s (v, refl)).1

pub run_rows_lem : (limit len : ℕ) (s : Store) → Valid s → rows (run_call limit len s).store.pages ≡ rows s.pages
run_rows_lem limit len s v = (run_keeps (λ t. Valid t × (rows t.pages ≡ rows s.pages)) (steps_rows s) limit len s (v, refl)).1

committed_own : (tx : ℕ) (s : Store) → Valid s → (u : ℕ) → how_many (is_own u) (rows (committed_pages tx s.pages)) ≡ closed u tx (own u s)
unfolding own
committed_own tx s v u =
    let os = open_numbers s.active in
    let rs = rows s.pages in
    let d = rows_differ s v in
    ap (how_many (is_own u)) (committed_rows tx s v) ∙ closed_own tx rs (after_commit tx rs) (commit_comes tx os rs v.sees d) (commit_stays tx os rs v.sees d) u

aborted_own : (tx : ℕ) (s : Store) → Valid s → (u : ℕ)
    → how_many (is_own u) (rows (aborted_pages tx s.pages)) ≡ closed u tx (own u s)
unfolding own
aborted_own tx s v u =
    let os = open_numbers s.active in
    let rs = rows s.pages in
    let d = rows_differ s v in
    ap (how_many (is_own u)) (aborted_rows tx s v) ∙ closed_own tx rs (after_abort tx) (abort_comes tx os rs v.sees d) (abort_stays tx os rs v.sees d) u

does_tally : (c : TransactionCall) (s : Store) (o : Outcome) → Does c s o → Valid s → Tallies (effect c) s o
unfolding tally noted accepted if'◌then◌else◌ gives changed own with_tuple
does_tally c s o (refuses n) v u = refl
does_tally c s o (answers a e h) v u = rw (h, e)
does_tally c s o (starts tx e l i f) v u = rw e
does_tally c s o (writes tx t k bs m e a) v u = rw e (written_own s v tx t k bs m u)
does_tally c s o (finishes tx e) v u = rw e (committed_own tx s v u)
does_tally c s o (undoes tx e) v u = rw e (aborted_own tx s v u)

-- a checkpoint leaves the rows and counts nothing
stays_tally : (s : Store) (o : Outcome) → rows o.store.pages ≡ rows s.pages → Tallies no_effect s o
unfolding tally noted if'◌then◌else◌ own
stays_tally s o r u = by (accepted o.answer) (λ h. rw h (ap (how_many (is_own u)) r)) (λ h. rw h (ap (how_many (is_own u)) r))

-- every call counts as it answers
pub tallies : (c : Call) (s : Store) → Valid s → Tallies (effect_of c) s (call c s)
unfolding call effect_of
tallies (transacts c) s v = does_tally c s (transact c s) (does c s) v
tallies begins s v = stays_tally s (begin_call s) (begin_rows s)
tallies (steps len) s v = stays_tally s (step_call len s) (step_call_rows len s v)
tallies (runs limit len) s v = stays_tally s (run_call limit len s) (run_rows_lem limit len s v)

-- ---- the counts of the open transactions

counted_rows : (s z : Store) → z.active ≡ s.active → rows z.pages ≡ rows s.pages → Counted s → Counted z
counted_rows s z a e c tx i = ap (written_by tx) a ∙ c tx (ap (λ y. is_in tx (open_numbers y)) (sym a) ∙ i) ∙ ap (how_many (is_own tx)) (sym e)

-- a transaction that is not open has no row
not_open_lem : (tx : ℕ) (os : List ℕ) (o : Owner) → is_in tx os ≡ false → Opened os o → is_by tx o ≡ false
unfolding is_by
not_open_lem tx os committed n h = refl
not_open_lem tx os (tentative u st) n h = by (eqb u tx) (λ e. lie (sym n ∙ ap (λ z. is_in z os) (sym (eqb-true u tx e)) ∙ h)) (λ e. e)

not_own_open : (tx : ℕ) (os : List ℕ) (r : Row) → is_in tx os ≡ false → Opened os r.1.owner → is_own tx r ≡ false
unfolding is_own
not_own_open tx os r n h = not_open_lem tx os r.1.owner n h

-- a right count is that of its live rows
own_count : (s : Store) → Counted s → (u : ℕ) → is_in u (open_numbers s.active) ≡ true → written_by u s.active ≡ own u s
unfolding own
own_count s c u i = c u i

counted_open : (tx : ℕ) (s : Store) → Valid s → Counted s → Counted (with_open tx s)
unfolding changed
counted_open tx s v c u i =
    by (is_in u (open_numbers s.active))
    (λ h. count_append u tx s.active h ∙ c u h)
    (λ h. count_new u tx s.active h
    ∙ sym (many_none (is_own u) (rows s.pages)
    (all_map (λ r. Opened (open_numbers s.active) r.1.owner) (λ r. is_own u r ≡ false)
    (λ r k. not_own_open u (open_numbers s.active) r h k) (rows s.pages) v.sees.open')))

more_rows_lem : (s : Store) → Valid s → (u : ℕ) → suc (own u s) ≤ most_statement
unfolding own
more_rows_lem s v u = omega (arith, many_length (is_own u) (rows s.pages), sub_length (rows_sub s.pages), v.has.few, v.cap)

counted_written : (s : Store) → Valid s → Counted s → (tx t k : ℕ) (bs : List ℕ) (m : Bool) → Counted (with_tuple tx t k bs m s).store
unfolding with_tuple after_write gives changed own
counted_written s v c tx t k bs m u i =
    let j : is_in u (open_numbers s.active) ≡ true = ap (is_in u) (sym (numbers_write tx s.active)) ∙ i in
    let o = written_own s v tx t k bs m u in
    by (eqb tx u)
    (λ e. let q = eqb-true tx u e in
    ap (λ z. written_by u (with_write z s.active)) q ∙ count_write u s.active j ∙ ap (λ n. min (suc n) most_statement) (own_count s c u j)
    ∙ min-eq_left (more_rows_lem s v u) ∙ sym (wrote_own u tx (own u s) e) ∙ sym o)
    (λ e. count_other tx u s.active e ∙ own_count s c u j ∙ sym (wrote_other u tx (own u s) e) ∙ sym o)
  where
    wrote_own : (u tx n : ℕ) → eqb tx u ≡ true → wrote u tx n ≡ suc n
    wrote_own u tx n e = unfold wrote if'◌then◌else◌ in rw e

    wrote_other : (u tx n : ℕ) → eqb tx u ≡ false → wrote u tx n ≡ n
    wrote_other u tx n e = unfold wrote if'◌then◌else◌ in rw e

-- u is open without tx: it is another transaction, and is open
stays_open : (tx u : ℕ) (os : List Active) → is_in u (open_numbers (without tx os)) ≡ true → (eqb tx u ≡ false) × (is_in u (open_numbers os) ≡ true)
unfolding others
stays_open tx u os i =
    let k = sym (in_keep u (λ o. not (eqb o tx)) (open_numbers os)) ∙ ap (is_in u) (sym (numbers_without tx os)) ∙ i in
    let q = and_true (is_in u (open_numbers os)) (not (eqb u tx)) k in
    (eqb_sym u tx (not-true (eqb u tx) q.1), q.0)

counted_closed : (tx : ℕ) (s : Store) (ps : List Page) → ((u : ℕ) → how_many (is_own u) (rows ps) ≡ closed u tx (own u s)) → Counted s
    → Counted (changed s s.next ps (without tx s.active))
unfolding changed own
counted_closed tx s ps own_after c u i =
    let q = stays_open tx u s.active i in
    count_without tx u s.active q.0 ∙ own_count s c u q.1 ∙ sym (closed_other u tx (own u s) q.0) ∙ sym (own_after u)
  where
    closed_other : (u tx n : ℕ) → eqb tx u ≡ false → closed u tx n ≡ n
    closed_other u tx n e = unfold closed if'◌then◌else◌ in rw e

pub counted_step : (s : Store) → Valid s → Counted s → Counted (step_at s.checkpoint s).store
counted_step s v c = counted_rows s (step_at s.checkpoint s).store (step_active s) (step_rows s v) c
  where
    step_active : (s : Store) → (step_at s.checkpoint s).store.active ≡ s.active
    step_active s = step_frame (λ z. z.active ≡ s.active) s refl (λ l ps u b c. unfold with_progress in refl)

does_count : (c : TransactionCall) (s : Store) (o : Outcome) → Does c s o → Valid s → Counted s → Counted o.store
unfolding gives
does_count c s o (refuses n) v h = h
does_count c s o (answers a e i) v h = h
does_count c s o (starts tx e l i f) v h = counted_open tx s v h
does_count c s o (writes tx t k bs m e a) v h = counted_written s v h tx t k bs m
does_count c s o (finishes tx e) v h = counted_closed tx s _ (committed_own tx s v) h
does_count c s o (undoes tx e) v h = counted_closed tx s _ (aborted_own tx s v) h

pub keeps_count : (c : Call) (s : Store) → Valid s → Counted s → Counted (call c s).store
unfolding call is_transaction
keeps_count (transacts c) s v h = does_count c s (transact c s) (does c s) v h
keeps_count begins s v h = counted_rows s (begin_call s).store ((call_leaves begins s).active refl) (begin_rows s) h
keeps_count (steps len) s v h = counted_rows s (step_call len s).store ((call_leaves (steps len) s).active refl) (step_call_rows len s v) h
keeps_count (runs limit len) s v h = counted_rows s (run_call limit len s).store ((call_leaves (runs limit len) s).active refl) (run_rows_lem limit len s v) h

-- ---- a run

-- w is right for the counts n
abbrev Right : (ℕ → ℕ) → List ℕ → Type 0
Right n w = (u : ℕ) → is_in u w ≡ ltb 0 (n u)

right_wrote : (tx : ℕ) (n : ℕ → ℕ) (w : List ℕ) → Right n w → Right (λ u. wrote u tx (n u)) (with_writer tx w)
unfolding wrote if'◌then◌else◌ with_writer
right_wrote tx n w r u =
    by (eqb tx u)
    (λ e. let q = eqb-true tx u e in
    let p = sym (le_true 1 (suc (n u)) (omega arith)) in
    by (is_in tx w) (λ k. rw (e, k) (ap (λ z. is_in z w) (sym q) ∙ k ∙ p)) (λ k. rw (e, k) (in_here u tx w (ap (λ z. eqb z tx) (sym q) ∙ eqb_self tx) ∙ p)))
    (λ e. by (is_in tx w) (λ k. rw (e, k) (r u)) (λ k. rw (e, k) (in_past u tx w (eqb_sym tx u e) ∙ r u)))

right_closed : (tx : ℕ) (n : ℕ → ℕ) (w : List ℕ) → Right n w → Right (λ u. closed u tx (n u)) (others tx w)
unfolding closed if'◌then◌else◌ others
right_closed tx n w r u =
    let k = in_keep u (λ o. not (eqb o tx)) w in
    by (eqb tx u) (λ e. let q : eqb u tx ≡ true = ap (λ z. eqb z tx) (sym (eqb-true tx u e)) ∙ eqb_self tx in rw e (k ∙ rw q (and_no (is_in u w))))
    (λ e. rw e (k ∙ rw (eqb_sym tx u e) (and_yes (is_in u w) ∙ r u)))

right_noted : (c : Effect) (n : ℕ → ℕ) (w : List ℕ) → Right n w → Right (λ u. noted c u (n u)) (writers c w)
unfolding noted writers
right_noted no_effect n w r = r
right_noted (start_of tx) n w r = r
right_noted (write_of tx) n w r = right_wrote tx n w r
right_noted (commit_of tx) n w r = right_closed tx n w r
right_noted (abort_of tx) n w r = right_closed tx n w r

tally_yes : (c : Effect) (a : Answer) (u n : ℕ) → accepted a ≡ true → tally c a u n ≡ noted c u n
unfolding tally if'◌then◌else◌
tally_yes c a u n h = rw h

tally_no : (c : Effect) (a : Answer) (u n : ℕ) → accepted a ≡ false → tally c a u n ≡ n
unfolding tally if'◌then◌else◌
tally_no c a u n h = rw h

right_step : (c : Call) (s : Store) → Valid s → (w : List ℕ) → Right (λ u. own u s) w
    → Right (λ u. own u (call c s).store) (if' accepted (call c s).answer then writers (effect_of c) w else w)
unfolding if'◌then◌else◌
right_step c s v w r u =
    by (accepted (call c s).answer)
    (λ h. rw h (right_noted (effect_of c) (λ u. own u s) w r u ∙ ap (ltb 0) (sym (tallies c s v u ∙ tally_yes (effect_of c) (call c s).answer u (own u s) h))))
    (λ h. rw h (r u ∙ ap (ltb 0) (sym (tallies c s v u ∙ tally_no (effect_of c) (call c s).answer u (own u s) h))))

right_run : (cs : List Call) (s : Store) → Valid s → Counted s → (w : List ℕ) → Right (λ u. own u s) w → Right (λ u. own u (after_calls cs s)) (had_written cs s w)
unfolding after_calls had_written
right_run [] s v c₀ w r = r
right_run (c ∷ cs) s v c₀ w r = right_run cs (call c s).store (keeps c s v c₀) (keeps_count c s v c₀)
    (if' accepted (call c s).answer then writers (effect_of c) w else w) (right_step c s v w r)

own_any : (u : ℕ) (s : Store) → any (is_own u) (rows s.pages) ≡ ltb 0 (own u s)
unfolding own
own_any u s = any_many (is_own u) (rows s.pages)

-- the transactions of the live rows are those that had written by the calls and their answers
pub writers_law : (s : Store) → Valid s → Counted s → ((u : ℕ) → is_in u (open_numbers s.active) ≡ any (is_own u) (rows s.pages)) → (cs : List Call) (tx : ℕ)
    → any (is_own tx) (rows (after_calls cs s).pages) ≡ is_in tx (had_written cs s (open_numbers s.active))
writers_law s v c a cs tx = own_any tx (after_calls cs s) ∙ sym (right_run cs s v c (open_numbers s.active) (λ u. a u ∙ own_any u s) tx)
