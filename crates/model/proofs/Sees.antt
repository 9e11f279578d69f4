-- What a transaction sees after each call.
use Rattle.block_forms.specs.Limits.{most_transaction}
use Rattle.basics.proofs.Kit.{◌≡◌, refl, sym, ap, ◌∙◌, ap₂, Bool, true, false, not, some, none, Option, List, [], ◌∷◌, ◌++◌, append-nil, ℕ, suc, ◌+◌, ◌≤◌, ◌<◌, eqb, ltb}
use Rattle.basics.proofs.Kit.{length, arith}
use Rattle.basics.specs.Basics.{if'◌then◌else◌, keep, last, first, is_in}
use Rattle.basics.proofs.Facts.{by, lie, AllOf, by-option}
use Rattle.block_forms.specs.Tuple.{is_tentative, Owner, committed, tentative}
use Rattle.calendar.specs.Calendar.{minutes, rows_of, is_open}
use Rattle.calendar.proofs.Edges.{open_each}
use Rattle.image_rows.specs.Rows.{Row, is_at, is_own, is_by, number}
use Rattle.model.specs.State.{Store, Outcome, filled, refused}
use Rattle.model.specs.Rules.{as_committed}
use Rattle.model.specs.Sight.{seen, rows, is_committed, versions, seen_of}
use Rattle.model.specs.Transactions.{unless, Test, gives, ◌when◌, changed, open_numbers, with_open, not_open, no_table, too_long, argument_tests, write_tests, new_tuple, with_write, after_write}
use Rattle.model.specs.Transactions.{with_tuple, write_call, insert_call, replied, read_seen, read_call, without, aborted_pages, commit_call, abort_call}
use Rattle.model.specs.Checked.{no_calendar, no_length, some_closed, hours_tests, insert_checked_call}
use Rattle.model.specs.Checkpoint.{begin_call, step_call, run_call}
use Rattle.model.specs.Calls.{TransactionCall, transact, effect, Call, transacts, begins, steps, runs, call, effect_of, is_transaction}
use Rattle.model.specs.Seen.{remains, NewestWritten, WriterReads, CheckedInserts, WriterMisses, OtherKeysStay, RowsStay, SeenAfterCommit, SeenAfterAbort, may_show, SeenAsBefore}
use Rattle.basics.proofs.Elements.{leb-false, eqb_self, here, Pairs, keep_cons, keep_past, all_map, keep_none, eqb-true, all_mem, not-false, Mem, there, mem_all}
use Rattle.basics.proofs.Elements.{last_mem, pairs_keep, lt_false, eqb_sym, in_append, not_zero}
use Rattle.basics.proofs.Lasts.{last_new, last_old, first_old, last_gone, last_keep, first_keep, last_both}
use Rattle.model.proofs.ByNumber.{is_row, own_at}
use Rattle.model.proofs.Owners.{numbers_write, numbers_without, in_others, numbers_append}
use Rattle.model.proofs.Effects.{unless_out, unless_accepted, Does, refuses, answers, starts, writes, finishes, undoes, does}
use Rattle.model.proofs.NoStores.{call_leaves}
use Rattle.model.proofs.Rows.{kept_row, Differ}
use Rattle.model.proofs.Placing.{Above, Before}
use Rattle.model.proofs.RowAfter.{at_join, at_split, gather, after_abort, by_newest, row_self, row_false, after_commit}
use Rattle.model.proofs.Valid.{above_off, Valid}
use Rattle.model.proofs.Closing.{abort_at, gather_cons, gather_none, commit_at, newest_stays}
use Rattle.model.proofs.Keeps.{rows_rising, rows_differ}
use Rattle.model.proofs.Inserted.{not_above, insert_row}
use Rattle.model.proofs.WriteCounts.{written_rows, begin_rows, step_call_rows, run_rows_lem, committed_rows, aborted_rows}
use Rattle.model.proofs.Well.{sound}

-- ---- a new row among the versions of its key

not_above_lem : (x r : Row) → not_above x r ≡ false → Above x.0 x.1.key r
unfolding not_above
not_above_lem x r h =
    by (ltb r.0 x.0) (λ k. lie (sym (rw k at h)))
    (λ k. let g : x.0 ≤ r.0 = omega (arith, leb-false (suc r.0) x.0 k) in
    (g, λ u. let e : r.0 ≡ x.0 = omega arith in leb-false r.1.key x.1.key (rw (k, e, eqb_self x.0) at h)))

above_next : (t k : ℕ) (r s : Row) → Above t k r → Before r s → Above t k s
above_next t k r s a b = (omega (arith, a.0, b.0), λ u. let z = a.1 (omega (arith, b.0)) in let w = b.1 (omega (arith, a.0)) in omega (arith, w.0))

insert_past : (x r : Row) (rs : List Row) → not_above x r ≡ true → insert_row x (r ∷ rs) ≡ r ∷ insert_row x rs
unfolding insert_row if'◌then◌else◌
insert_past x r rs h = rw h

insert_here : (x r : Row) (rs : List Row) → not_above x r ≡ false → insert_row x (r ∷ rs) ≡ x ∷ r ∷ rs
unfolding insert_row if'◌then◌else◌
insert_here x r rs h = rw h

insert_nil : (x : Row) → insert_row x [] ≡ x ∷ []
unfolding insert_row
insert_nil x = refl

-- at its key, the new row is the last
keep_inserted : (x : Row) (rs : List Row) → Pairs Before rs → keep (is_at x.0 x.1.key) (insert_row x rs) ≡ keep (is_at x.0 x.1.key) rs ++ x ∷ []
keep_inserted x [] p = ap (keep (is_at x.0 x.1.key)) (insert_nil x)
    ∙ keep_cons (is_at x.0 x.1.key) x [] (at_join x.0 x.1.key x refl refl) ∙ (unfold keep in refl)
keep_inserted x (r ∷ rs) p =
    let f = is_at x.0 x.1.key in
    by (not_above x r)
    (λ h. let ih = keep_inserted x rs p.1 in
    by (f r)
    (λ k. ap (keep f) (insert_past x r rs h) ∙ keep_cons f r (insert_row x rs) k ∙ ap (λ z. r ∷ z) ih ∙ ap (λ z. z ++ x ∷ []) (sym (keep_cons f r rs k)))
    (λ k. ap (keep f) (insert_past x r rs h) ∙ keep_past f r (insert_row x rs) k ∙ ih ∙ ap (λ z. z ++ x ∷ []) (sym (keep_past f r rs k))))
    (λ h. let a = not_above_lem x r h in
    let off : AllOf (λ s. f s ≡ false) (r ∷ rs) = (
      above_off x.0 x.1.key r a,
      all_map (Before r) (λ s. f s ≡ false)
          (λ s b. above_off x.0 x.1.key s (above_next x.0 x.1.key r s a b)) rs p.0,
    ) in
    let none' : keep f (r ∷ rs) ≡ [] = keep_none f (r ∷ rs) off in
    ap (keep f) (insert_here x r rs h) ∙ keep_cons f x (r ∷ rs) (at_join x.0 x.1.key x refl refl) ∙ ap (λ z. x ∷ z) none' ∙ ap (λ z. z ++ x ∷ []) (sym none'))

-- at another key nothing changes
keep_other : (t k : ℕ) (x : Row) (rs : List Row) → is_at t k x ≡ false → keep (is_at t k) (insert_row x rs) ≡ keep (is_at t k) rs
keep_other t k x [] n = ap (keep (is_at t k)) (insert_nil x) ∙ keep_past (is_at t k) x [] n
keep_other t k x (r ∷ rs) n =
    let f = is_at t k in
    by (not_above x r)
    (λ h. let ih = keep_other t k x rs n in
    by (f r)
    (λ m. ap (keep f) (insert_past x r rs h) ∙ keep_cons f r (insert_row x rs) m ∙ ap (λ z. r ∷ z) ih ∙ sym (keep_cons f r rs m))
    (λ m. ap (keep f) (insert_past x r rs h) ∙ keep_past f r (insert_row x rs) m ∙ ih ∙ sym (keep_past f r rs m)))
    (λ h. ap (keep f) (insert_here x r rs h) ∙ keep_past f x (r ∷ rs) n)

-- ---- sight goes by the rows

pub seen_rows : (u t k : ℕ) (s z : Store) → rows z.pages ≡ rows s.pages → seen u t k z ≡ seen u t k s
unfolding seen versions
seen_rows u t k s z e = ap (λ rs. seen_of u (keep (is_at t k) rs)) e

-- a tentative row of another transaction is not seen
seen_snoc : (u : ℕ) (vs : List Row) (x : Row) → is_own u x ≡ false → is_tentative x.1.owner ≡ true → seen_of u (vs ++ x ∷ []) ≡ seen_of u vs
unfolding seen_of
seen_snoc u vs x n o =
    let a = last_old (is_own u) x n vs in
    let b = first_old is_committed x (ap not o) vs in
    by-option (last (is_own u) vs) (λ e. rw (a, e, seen_of) b) (λ y e. rw (a, e, seen_of))

-- nor is one that is gone
seen_keep : (u : ℕ) (g : Row → Bool) (vs : List Row) → AllOf (λ r. g r ≡ false → (is_own u r ≡ false) × (is_tentative r.1.owner ≡ true)) vs
    → seen_of u (keep g vs) ≡ seen_of u vs
unfolding seen_of
seen_keep u g vs n =
    let a = last_keep (is_own u) g vs (all_map _ _ (λ r f h. (f h).0) vs n) in
    let b = first_keep is_committed g vs (all_map _ _ (λ r f h. ap not (f h).1) vs n) in
    by-option (last (is_own u) vs) (λ e. rw (a, e, seen_of) b) (λ y e. rw (a, e, seen_of))

-- ---- writing

module _ (s : Store) (v : Valid s) (tx t k : ℕ) (bs : List ℕ) (m : Bool) where
  x : Row
  x = (t, new_tuple tx k bs m s)

  at_written : versions t k (with_tuple tx t k bs m s).store.pages ≡ versions t k s.pages ++ x ∷ []
  unfolding versions x new_tuple
  at_written = ap (keep (is_at t k)) (written_rows s v tx t k bs m) ∙ keep_inserted (t, new_tuple tx k bs m s) (rows s.pages) (rows_rising s v)

  off_written : (t' k' : ℕ) → is_at t' k' x ≡ false → versions t' k' (with_tuple tx t k bs m s).store.pages ≡ versions t' k' s.pages
  unfolding versions x
  off_written t' k' h = ap (keep (is_at t' k')) (written_rows s v tx t k bs m) ∙ keep_other t' k' (t, new_tuple tx k bs m s) (rows s.pages) h

  own_written : last (is_own tx) (versions t k (with_tuple tx t k bs m s).store.pages) ≡ some x
  unfolding x new_tuple is_own is_by
  own_written = ap (last (is_own tx)) at_written ∙ last_new (is_own tx) x (eqb_self tx) (versions t k s.pages)

  -- its own newest version; a delete mark means absent
  sees_own : seen tx t k (with_tuple tx t k bs m s).store ≡ (if' m then none else some (t, new_tuple tx k bs m s))
  unfolding seen seen_of x new_tuple
  sees_own = rw (own_written, seen_of)

  sees_others : (u : ℕ) → eqb tx u ≡ false → (t' k' : ℕ) → seen u t' k' (with_tuple tx t k bs m s).store ≡ seen u t' k' s
  unfolding seen x new_tuple
  sees_others u d t' k' =
      by (is_at t' k' x)
      (λ h. let e = at_split t' k' x h in
      ap₂ (λ a b. seen_of u (versions a b (with_tuple tx t k bs m s).store.pages)) (sym e.0) (sym e.1) ∙ go
      ∙ ap₂ (λ a b. seen_of u (versions a b s.pages)) e.0 e.1)
      (λ h. ap (seen_of u) (off_written t' k' h))
    where
      go : seen_of u (versions t k (with_tuple tx t k bs m s).store.pages) ≡ seen_of u (versions t k s.pages)
      go = ap (seen_of u) at_written ∙ seen_snoc u (versions t k s.pages) x (unfold x new_tuple is_own is_by in d) (unfold x new_tuple is_tentative in refl)

-- ---- abort

abort_keeps : (tx : ℕ) (rs : List Row) → gather (after_abort tx) rs ≡ keep (λ r. not (is_own tx r)) rs
unfolding gather after_abort keep if'◌then◌else◌
abort_keeps tx [] = refl
abort_keeps tx (r ∷ rs) = by (is_own tx r) (λ h. rw (h, abort_keeps tx rs)) (λ h. rw (h, abort_keeps tx rs))

own_tentative : (tx : ℕ) (o : Owner) → is_by tx o ≡ true → is_tentative o ≡ true
unfolding is_by is_tentative
own_tentative tx committed h = lie h
own_tentative tx (tentative w n) h = refl

own_one : (u tx : ℕ) (o : Owner) → eqb tx u ≡ false → is_by tx o ≡ true → (is_by u o ≡ false) × (is_tentative o ≡ true)
unfolding is_by
own_one u tx committed d h = lie h
own_one u tx (tentative w n) d h = (ap (λ z. eqb z u) (eqb-true w tx h) ∙ d, own_tentative tx (tentative w n) h)

module _ (tx : ℕ) (s z : Store) (v : Valid s) (e : rows z.pages ≡ gather (after_abort tx) (rows s.pages)) (t k : ℕ) where
  abbrev stays : Row → Bool
  stays r = not (is_own tx r)

  -- the versions after the abort
  at_aborted : versions t k z.pages ≡ keep stays (versions t k s.pages)
  unfolding versions
  at_aborted =
      let rs = rows s.pages in
      ap (keep (is_at t k)) e ∙ abort_at tx (open_numbers s.active) rs v.sees (rows_differ s v) t k ∙ abort_keeps tx (keep (is_at t k) rs)

  aborted_others : (u : ℕ) → eqb tx u ≡ false → seen u t k z ≡ seen u t k s
  unfolding seen is_own
  aborted_others u d =
      let vs = versions t k s.pages in
      ap (seen_of u) at_aborted ∙ seen_keep u stays vs (all_mem _ vs (λ r i h. own_one u tx r.1.owner d (not-false _ h)))

  -- tx has no version left
  aborted_own : seen tx t k z ≡ first is_committed (versions t k s.pages)
  unfolding seen seen_of is_own
  aborted_own =
      let vs = versions t k s.pages in
      let gone = last_gone (is_own tx) vs in
      let same = first_keep is_committed stays vs (all_mem _ vs (λ r i h. ap not (own_tentative tx r.1.owner (not-false _ h)))) in
      ap (seen_of tx) at_aborted ∙ rw (gone, seen_of) same

-- ---- commit

chosen : (m b : Bool) (K : List Row) → m ≡ false → b ≡ true → (if' m then [] else if' b then K else []) ≡ K
unfolding if'◌then◌else◌
chosen true b K h k = lie (sym h)
chosen false true K h k = refl
chosen false false K h k = lie k

newest_own : (x : Row) → x.1.mark ≡ false → by_newest (some x) x ≡ kept_row x
unfolding by_newest
newest_own x u = chosen x.1.mark (is_row (number x) x) (kept_row x) u (row_self x)

newest_other : (x r : Row) → Differ r x → by_newest (some x) r ≡ []
unfolding by_newest if'◌then◌else◌ number
newest_other x r d = by x.1.mark (λ u. rw u) (λ u. rw (u, row_false x.1.number r d))

newest_mark : (x r : Row) → x.1.mark ≡ true → by_newest (some x) r ≡ []
unfolding by_newest if'◌then◌else◌
newest_mark x r u = rw u

-- the newest own version alone is left
one_left : {x : Row} {vs : List Row} → Mem x vs → Pairs Differ vs → x.1.mark ≡ false → gather (by_newest (some x)) vs ≡ kept_row x
one_left {x} (here {rs}) d u =
    gather_cons (by_newest (some x)) x rs ∙ ap₂ (λ a b. a ++ b) (newest_own x u)
    (gather_none (by_newest (some x)) rs (all_map (Differ x) _ (λ r h. newest_other x r (λ e. h (sym e))) rs d.0))
    ∙ append-nil (kept_row x)
one_left {x} (there {y} {rs} m) d u =
    gather_cons (by_newest (some x)) y rs ∙ ap (λ a. a ++ gather (by_newest (some x)) rs) (newest_other x y (mem_all (Differ y) m d.0)) ∙ one_left m d.1 u

-- a committed version alone is seen by all
seen_kept : (u : ℕ) (r : Row) → seen_of u (kept_row r) ≡ some (r.0, as_committed r.1)
unfolding seen_of kept_row last first is_own is_by as_committed is_tentative if'◌then◌else◌
seen_kept u r = refl

pub seen_none : (u : ℕ) → seen_of u [] ≡ none
unfolding seen_of last first
seen_none u = refl

module _ (tx : ℕ) (s z : Store) (v : Valid s) (e : rows z.pages ≡ gather (after_commit tx (rows s.pages)) (rows s.pages)) (u t k : ℕ) where
  -- the versions after the commit
  at_committed : versions t k z.pages ≡ gather (by_newest (last (is_own tx) (versions t k s.pages))) (versions t k s.pages)
  unfolding versions own_at
  at_committed =
      let rs = rows s.pages in
      ap (keep (is_at t k)) e ∙ commit_at tx (open_numbers s.active) rs v.sees (rows_differ s v) t k
      ∙ ap (λ o. gather (by_newest o) (keep (is_at t k) rs)) (last_both (is_own tx) (is_at t k) rs)

  committed_other : last (is_own tx) (versions t k s.pages) ≡ none → seen u t k z ≡ seen u t k s
  unfolding seen
  committed_other n =
      let vs = versions t k s.pages in
      ap (seen_of u) (at_committed ∙ ap (λ o. gather (by_newest o) vs) n ∙ newest_stays tx (open_numbers s.active) (rows s.pages) v.sees (rows_differ s v) vs)

  committed_key : (r : Row) → last (is_own tx) (versions t k s.pages) ≡ some r → seen u t k z ≡ remains r
  unfolding seen remains if'◌then◌else◌
  committed_key r n =
      let vs = versions t k s.pages in
      let q = at_committed ∙ ap (λ o. gather (by_newest o) vs) n in
      by r.1.mark
      (λ h. ap (seen_of u) (q ∙ gather_none (by_newest (some r)) vs (all_mem _ vs (λ y i. newest_mark r y h))) ∙ seen_none u ∙ (rw h))
      (λ h. ap (seen_of u) (q ∙ one_left (last_mem (is_own tx) vs r n).0
      (unfold versions in pairs_keep Differ (is_at t k) (rows s.pages) (rows_differ s v)) h) ∙ seen_kept u r ∙ (rw h))

-- ---- reading

pub answer_unless : (ts : List Test) (s z : Store) (o q : Outcome) → o.answer ≡ q.answer → (unless ts s o).answer ≡ (unless ts z q).answer
unfolding unless if'◌then◌else◌ gives
answer_unless [] s z o q e = e
answer_unless ((n when b) ∷ ts) s z o q e = by b (λ h. rw h) (λ h. rw h (answer_unless ts s z o q e))

answer_seen : (room : ℕ) (o : Option Row) (s z : Store) → (read_seen room o z).answer ≡ (read_seen room o s).answer
unfolding read_seen replied gives
answer_seen room none s z = refl
answer_seen room (some r) s z = answer_unless _ z s _ _ refl

-- who sees the same reads the same
pub same_read : (u t k room : ℕ) (s z : Store) → is_in u (open_numbers z.active) ≡ is_in u (open_numbers s.active) → seen u t k z ≡ seen u t k s
    → (read_call u t k room z).answer ≡ (read_call u t k room s).answer
unfolding read_call not_open
same_read u t k room s z o e =
    ap (λ b. (unless (6 when ltb most_transaction u ∷ 7 when not b ∷ no_table t ∷ []) z (read_seen room (seen u t k z) z)).answer) o
    ∙ answer_unless _ z s _ _ (ap (λ r. (read_seen room r z).answer) e ∙ answer_seen room (seen u t k s) s z)

module _ (u t k room : ℕ) (z : Store) (few : ltb most_transaction u ≡ false) (o : is_in u (open_numbers z.active) ≡ true) (tb : ltb 7 t ≡ false) where
  reads_some : (r : Row) → seen u t k z ≡ some r → length r.1.payload ≤ room → (read_call u t k room z).answer ≡ filled (length r.1.payload) r.1.payload
  unfolding read_call not_open no_table unless if'◌then◌else◌ read_seen replied gives
  reads_some r e l = rw (few, o, tb, e) (rw (lt_false room (length r.1.payload) l))

  reads_none : seen u t k z ≡ none → (read_call u t k room z).answer ≡ refused 14
  unfolding read_call not_open no_table unless if'◌then◌else◌ read_seen gives
  reads_none e = rw (few, o, tb, e)

-- ---- the claims

still_listed : (tx u : ℕ) (s : Store) → is_in u (open_numbers s.active) ≡ true → is_in u (open_numbers (with_write tx s.active)) ≡ true
still_listed tx u s h = ap (is_in u) (numbers_write tx s.active) ∙ h

module _ (s : Store) (v : Valid s) (tx t k room : ℕ) (few : ltb most_transaction tx ≡ false) (o : not (is_in tx (open_numbers s.active)) ≡ false) (tb : ltb 7 t ≡ false) where
  wrote_reads : (bs : List ℕ) → length bs ≤ room → (read_call tx t k room (with_tuple tx t k bs false s).store).answer ≡ filled (length bs) bs
  unfolding with_tuple after_write gives changed new_tuple if'◌then◌else◌
  wrote_reads bs l =
      reads_some tx t k room (with_tuple tx t k bs false s).store few (still_listed tx tx s (not-false _ o)) tb (t, new_tuple tx k bs false s)
      (sees_own s v tx t k bs false) l

  wrote_mark : (read_call tx t k room (with_tuple tx t k [] true s).store).answer ≡ refused 14
  unfolding with_tuple after_write gives changed if'◌then◌else◌
  wrote_mark = reads_none tx t k room (with_tuple tx t k [] true s).store few (still_listed tx tx s (not-false _ o)) tb (sees_own s v tx t k [] true)

pub newest_written : NewestWritten
unfolding write_call x
newest_written s w new m tx t k bs h =
    unless_accepted (λ o. last (is_own tx) (versions t k o.store.pages) ≡ some (t, new_tuple tx k bs m s)) _ s _ (λ p q. own_written s (sound s w).valid tx t k bs m) h

pub writer_reads : WriterReads
unfolding write_call write_tests argument_tests not_open no_table too_long
writer_reads s w tx t k bs room l =
    let v = (sound s w).valid in
    let P : Outcome → Type 0 = λ o. (read_call tx t k room o.store).answer ≡ filled (length bs) bs in (
      unless_accepted P _ s _ (λ p q. wrote_reads s v tx t k room p.0 p.1.0 p.1.1.0 bs l),
      unless_accepted P _ s _
          (λ p q. wrote_reads s v tx t k room p.0 p.1.0 p.1.1.0 bs l),
    )

pub checked_inserts : CheckedInserts
unfolding insert_checked_call hours_tests no_table no_calendar no_length some_closed
checked_inserts tx t k bs hours s h =
    unless_accepted
    (λ o. (o ≡ insert_call tx t k bs s) × (0 < minutes bs) × ((u : ℕ) → k ≤ u → u < k + minutes bs → is_open (rows_of hours) u ≡ true)) _ s _
    (λ p q. (refl, not_zero _ p.1.1.0, open_each (rows_of hours) k (minutes bs) (not-false _ p.1.1.1.0))) h

pub writer_misses : WriterMisses
unfolding write_call write_tests argument_tests not_open no_table too_long
writer_misses s w tx t k room h =
    unless_accepted (λ o. (read_call tx t k room o.store).answer ≡ refused 14) _ s _ (λ p q. wrote_mark s (sound s w).valid tx t k room p.0 p.1.0 p.1.1.0) h

pub other_keys_stay : OtherKeysStay
unfolding write_call seen x new_tuple is_at
other_keys_stay s w new m tx t k bs u t' k' d =
    unless_out (λ z ws. seen_of u (versions t' k' z.pages) ≡ seen_of u (versions t' k' s.pages)) _ s _ refl
    (ap (seen_of u) (off_written s (sound s w).valid tx t k bs m t' k' d))

pub rows_stay : RowsStay
unfolding call
rows_stay s w = let v = (sound s w).valid in (begin_rows s, λ len. step_call_rows len s v, λ limit len. run_rows_lem limit len s v)

pub seen_after_commit : SeenAfterCommit
unfolding commit_call
seen_after_commit s w tx h u t k =
    let v = (sound s w).valid in
    unless_accepted (λ o. ((r : Row) → last (is_own tx) (versions t k s.pages) ≡ some r → seen u t k o.store ≡ remains r) × (last (is_own tx)
    (versions t k s.pages) ≡ none → seen u t k o.store ≡ seen u t k s))
    _ s _ (λ p q. unfold gives changed in (committed_key tx s _ v (committed_rows tx s v) u t k, committed_other tx s _ v (committed_rows tx s v) u t k)) h

pub seen_after_abort : SeenAfterAbort
unfolding abort_call
seen_after_abort s w tx h t k =
    let v = (sound s w).valid in
    unless_accepted (λ o. seen tx t k o.store ≡ first is_committed (versions t k s.pages)) _ s _
    (λ p q. unfold gives changed in aborted_own tx s _ v (aborted_rows tx s v) t k) h

-- ---- all calls that show nothing

-- u sees what it saw in s, and is open if it was
abbrev Unmoved : ℕ → ℕ → ℕ → Store → Store → Type 0
Unmoved u t k s z = (seen u t k z ≡ seen u t k s) × (is_in u (open_numbers s.active) ≡ true → is_in u (open_numbers z.active) ≡ true)

module _ (s : Store) (v : Valid s) (u t k : ℕ) where
  unmoved_written : (tx tb key : ℕ) (bs : List ℕ) (m : Bool) → eqb tx u ≡ false → Unmoved u t k s (with_tuple tx tb key bs m s).store
  unfolding with_tuple after_write gives changed
  unmoved_written tx tb key bs m d = (sees_others s v tx tb key bs m u d t k, still_listed tx u s)

  unmoved_aborted : (tx : ℕ) → eqb tx u ≡ false
      → Unmoved u t k s (changed s s.next (aborted_pages tx s.pages) (without tx s.active))
  unfolding changed
  unmoved_aborted tx d = (
    aborted_others tx s _ v (aborted_rows tx s v) t k u d,
    λ h. ap (is_in u) (numbers_without tx s.active) ∙ in_others tx u (open_numbers s.active) (eqb_sym tx u d) h,
  )

  unmoved_stepped : (z : Store) → rows z.pages ≡ rows s.pages → z.active ≡ s.active → Unmoved u t k s z
  unmoved_stepped z e a = (seen_rows u t k s z e, λ h. ap (λ os. is_in u (open_numbers os)) a ∙ h)

  unmoved_opened : (tx : ℕ) → Unmoved u t k s (with_open tx s)
  unfolding changed
  unmoved_opened tx = (
    seen_rows u t k s _ refl,
    λ i. ap (is_in u) (numbers_append s.active (record { transaction = tx; written = 0 })) ∙ rw (in_append u (open_numbers s.active), i),
  )

  unmoved_does : (c : TransactionCall) (o : Outcome) → Does c s o → may_show u (effect c) ≡ false → Unmoved u t k s o.store
  unfolding may_show gives
  unmoved_does c o (refuses n) h = (refl, λ i. i)
  unmoved_does c o (answers a e i) h = (refl, λ i. i)
  unmoved_does c o (starts tx e l i f) h = unmoved_opened tx
  unmoved_does c o (writes tx tb key bs m e a) h = unmoved_written tx tb key bs m (sym (ap (may_show u) e) ∙ h)
  unmoved_does c o (finishes tx e) h = lie (sym (sym (ap (may_show u) e) ∙ h))
  unmoved_does c o (undoes tx e) h = unmoved_aborted tx (sym (ap (may_show u) e) ∙ h)

  unmoved : (c : Call) → may_show u (effect_of c) ≡ false → Unmoved u t k s (call c s).store
  unfolding call effect_of is_transaction
  unmoved (transacts c) h = unmoved_does c (transact c s) (does c s) h
  unmoved begins h = unmoved_stepped (begin_call s).store (begin_rows s) ((call_leaves begins s).active refl)
  unmoved (steps len) h = unmoved_stepped (step_call len s).store (step_call_rows len s v) ((call_leaves (steps len) s).active refl)
  unmoved (runs limit len) h = unmoved_stepped (run_call limit len s).store (run_rows_lem limit len s v) ((call_leaves (runs limit len) s).active refl)

pub seen_as_before : SeenAsBefore
seen_as_before c s w u h t k =
    let m = unmoved s (sound s w).valid u t k c h in
    (m.0, λ i room. same_read u t k room s (call c s).store (m.1 i ∙ sym i) m.0)
