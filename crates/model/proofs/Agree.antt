-- Checkpoints do not show in what transactions are answered.
use Rattle.basics.proofs.Kit.{◌≡◌, refl, sym, ap, ◌∙◌, subst, ap₂, Bool, true, false, not, ◌||◌, ◌&&◌, List, [], ◌∷◌, ◌++◌, ℕ, suc, ◌<◌, eqb, leb, ltb, length, arith, ◌⊎◌, inl, inr, ⊎_elim}
use Rattle.basics.proofs.Kit.{min}
use Rattle.basics.specs.Basics.{if'◌then◌else◌, any, keep, is_some, is_in, sorted, paired}
use Rattle.basics.proofs.Facts.{by, lie}
use Rattle.basics.proofs.Elements.{all_map, eqb-true, eqb_self, eqb_sym, in_append, in_keep, not_in, leb-true, leb-false, not-false}
use Rattle.basics.proofs.Ands.{and_no}
use Rattle.basics.proofs.Lists.{paired_tail}
use Rattle.basics.proofs.Sorted.{Rising, same_rising, same_sorted, length_sorted}
use Rattle.block_forms.specs.Limits.{most_transaction, most_number, most_statement}
use Rattle.image_rows.specs.Rows.{open_limit}
use Rattle.model.specs.State.{Store, Page, Outcome, Active, refused, done, filled}
use Rattle.model.specs.Sight.{rows, held, is_foreign, versions, seen}
use Rattle.model.specs.Transactions.{unless, Test, gives, ◌when◌, changed, open_numbers, written_by, with_write, is_for, without, with_open, open_call, not_open, no_table, too_long, full}
use Rattle.model.specs.Transactions.{argument_tests}
use Rattle.model.specs.Transactions.{key_test, key_tests, tuple_tests, write_tests, new_tuple, after_write, with_tuple, write_call, replied, read_call, listing, list_call, committed_pages}
use Rattle.model.specs.Transactions.{aborted_pages, closing, commit_call, abort_call}
use Rattle.model.specs.Checked.{insert_checked_call}
use Rattle.model.specs.Crossing.{crossing_keys, no_interval, key_bytes, keys_reply, crossing_call}
use Rattle.model.specs.Checkpoint.{is_running}
use Rattle.model.specs.Calls.{TransactionCall, opens, inserts, inserts_checked, replaces, deletes, commits, aborts, reads, lists, crossings, transact, effect, no_effect, Call, transacts}
use Rattle.model.specs.Calls.{begins, steps, runs, call, is_transaction}
use Rattle.model.specs.Calls.{accepted, after_calls, others}
use Rattle.model.specs.WellFormed.{WellFormed}
use Rattle.model.specs.Seen.{seen_crosses}
use Rattle.model.specs.Agree.{Agree, CheckpointsAgree, TransactionsAgree, IdleAgrees, AcceptedIdle, answers_in, CheckpointsUnseen}
use Rattle.model.proofs.Owners.{numbers_append, numbers_write, numbers_without, numbers_length, count_append, count_new, count_write, count_other, count_without}
use Rattle.model.proofs.Effects.{Passed}
use Rattle.model.proofs.NoStores.{call_leaves}
use Rattle.model.proofs.BlockUse.{idle_of}
use Rattle.model.proofs.Inserted.{insert_row}
use Rattle.model.proofs.RowAfter.{gather, after_commit, after_abort}
use Rattle.model.proofs.Rows.{sub_length}
use Rattle.model.proofs.Keeps.{rows_sub}
use Rattle.model.proofs.Whole.{ready}
use Rattle.model.proofs.WriteCounts.{written_rows, committed_rows, aborted_rows, begin_rows, step_call_rows, run_rows_lem}
use Rattle.model.proofs.Well.{sound}
use Rattle.model.proofs.Starts.{kept_well}
use Rattle.model.proofs.Laws.{reads_only}
use Rattle.model.proofs.Sees.{answer_unless, same_read, seen_rows}
use Rattle.model.proofs.Crossings.{crossing_keys_lem}

-- ---- stores that agree

pub agree_refl : (s : Store) → Agree s s
agree_refl s = record { capacity = refl; next = refl; rows = refl; opened = λ tx. refl; counts = λ tx. refl }

pub agree_sym : {s z : Store} → Agree s z → Agree z s
agree_sym a =
    record { capacity = sym a.capacity; next = sym a.next; rows = sym a.rows; opened = λ tx. sym (a.opened tx); counts = λ tx. sym (a.counts tx) }

pub agree_trans : {s z y : Store} → Agree s z → Agree z y → Agree s y
agree_trans a b =
    record {
      capacity = a.capacity ∙ b.capacity;
      next = a.next ∙ b.next;
      rows = a.rows ∙ b.rows;
      opened = λ tx. a.opened tx ∙ b.opened tx;
      counts = λ tx. a.counts tx ∙ b.counts tx;
    }

-- the open transactions by rising number
pub agree_sorted : (s z : Store) → WellFormed s → WellFormed z → Agree s z → sorted (open_numbers s.active) ≡ sorted (open_numbers z.active)
agree_sorted s z w v a = same_sorted (open_numbers s.active) (open_numbers z.active) (sound s w).listed.0 (sound z v).listed.0 a.opened

pub agree_length : (s z : Store) → WellFormed s → WellFormed z → Agree s z → length s.active ≡ length z.active
agree_length s z w v a =
    sym (numbers_length s.active) ∙ sym (length_sorted (open_numbers s.active)) ∙ ap length (agree_sorted s z w v a)
    ∙ length_sorted (open_numbers z.active) ∙ numbers_length z.active

-- what is seen and which versions there are goes by the live rows
agree_versions : (t k : ℕ) (s z : Store) → Agree s z → versions t k s.pages ≡ versions t k z.pages
unfolding versions
agree_versions t k s z a = rw a.rows

agree_seen : (u t k : ℕ) (s z : Store) → Agree s z → seen u t k s ≡ seen u t k z
agree_seen u t k s z a = seen_rows u t k z s a.rows

-- ---- outcomes that agree

abbrev Both : Outcome → Outcome → Type 0
Both o q = (o.answer ≡ q.answer) × Agree o.store q.store

-- the same tests
unless_both : (ts : List Test) (s z : Store) (o q : Outcome) → Agree s z → (Passed ts → Both o q) → Both (unless ts s o) (unless ts z q)
unfolding unless if'◌then◌else◌ gives
unless_both [] s z o q a f = f tt
unless_both ((n when b) ∷ ts) s z o q a f = by b (λ h. rw h (refl, a)) (λ h. rw h (unless_both ts s z o q a (λ p. f (h, p))))

-- z is spared 15: either it is so where s is, or it does not answer 15
abbrev Spared : Type 0 → Outcome → Type 0
Spared X q = X ⊎ (q.answer ≡ refused 15 → ⊥)

-- the same tests but for 15, on which s and z may differ
unless_full : (ts us : List Test) (b c : Bool) (s z : Store) (o q : Outcome) → Agree s z → (Passed ts → Both o q)
    → ((unless (ts ++ (15 when b) ∷ us) s o).answer ≡ refused 15 → ⊥) → Spared (b ≡ false → c ≡ false) (unless (ts ++ (15 when c) ∷ us) z q)
    → Both (unless (ts ++ (15 when b) ∷ us) s o) (unless (ts ++ (15 when c) ∷ us) z q)
unfolding unless if'◌then◌else◌ gives
unless_full [] us true c s z o q a f n k = absurd (n refl)
unless_full [] us false true s z o q a f n k = ⊎_elim (λ g. lie (sym (g refl))) (λ g. absurd (g refl)) k
unless_full [] us false false s z o q a f n k = unless_both us s z o q a (λ p. f tt)
unless_full ((i when d) ∷ ts) us b c s z o q a f n k =
    by d (λ h. rw h (refl, a)) (λ h. rw h (unless_full ts us b c s z o q a (λ p. f (h, p)) (rw h at n) (rw h at k)))

-- tests in front of another call
unless_through : (X : Type 0) (ts : List Test) (s z : Store) (o q : Outcome) → Agree s z
    → ((o.answer ≡ refused 15 → ⊥) → Spared X q → Both o q)
    → ((unless ts s o).answer ≡ refused 15 → ⊥) → Spared X (unless ts z q) → Both (unless ts s o) (unless ts z q)
unfolding unless if'◌then◌else◌ gives
unless_through X [] s z o q a f n k = f n k
unless_through X ((i when d) ∷ ts) s z o q a f n k =
    by d (λ h. rw h (refl, a)) (λ h. rw h (unless_through X ts s z o q a f (rw h at n) (rw h at k)))

-- ---- open, write, close

open_both : (tx : ℕ) (s z : Store) → Agree s z → Agree (with_open tx s) (with_open tx z)
unfolding changed
open_both tx s z a =
    let o : Active = record { transaction = tx; written = 0 } in
    record {
      capacity = a.capacity;
      next = a.next;
      rows = a.rows;
      opened = λ u.
          ap (is_in u) (numbers_append s.active o) ∙ in_append u (open_numbers s.active) (tx ∷ []) ∙ ap (λ b. b || is_in u (tx ∷ [])) (a.opened u)
          ∙ sym (ap (is_in u) (numbers_append z.active o) ∙ in_append u (open_numbers z.active) (tx ∷ []));
      counts = λ u. by (is_in u (open_numbers s.active))
          (λ h. count_append u tx s.active h ∙ a.counts u ∙ sym (count_append u tx z.active (sym (a.opened u) ∙ h)))
          (λ h. count_new u tx s.active h ∙ sym (count_new u tx z.active (sym (a.opened u) ∙ h)));
    }

-- the same tuple is written
agree_tuple : (tx k : ℕ) (bs : List ℕ) (m : Bool) (s z : Store) → Agree s z → new_tuple tx k bs m s ≡ new_tuple tx k bs m z
unfolding new_tuple
agree_tuple tx k bs m s z a = rw (a.next, a.counts tx)

pub without_in : (tx u : ℕ) (os : List Active) → is_in u (open_numbers (without tx os)) ≡ (is_in u (open_numbers os) && not (eqb u tx))
unfolding others
without_in tx u os = ap (is_in u) (numbers_without tx os) ∙ in_keep u (λ y. not (eqb y tx)) (open_numbers os)

-- a transaction that is not open has written nothing
pub count_none : (tx : ℕ) (os : List Active) → is_in tx (open_numbers os) ≡ false → written_by tx os ≡ 0
unfolding open_numbers written_by is_for if'◌then◌else◌
count_none tx [] h = refl
count_none tx (o ∷ os) h =
    let n = not_in tx o.transaction (open_numbers os) h in
    let e = eqb_sym tx o.transaction n.0 in
    rw e (count_none tx os n.1)

module _ (s z : Store) (w : WellFormed s) (v : WellFormed z) (a : Agree s z) where
  write_both : (tx t k : ℕ) (bs : List ℕ) (m : Bool) → is_in tx (open_numbers s.active) ≡ true → Both (with_tuple tx t k bs m s) (with_tuple tx t k bs m z)
  unfolding with_tuple gives after_write changed
  write_both tx t k bs m h = (
    refl,
    record {
      capacity = a.capacity;
      next = ap suc a.next;
      rows = written_rows s (sound s w).valid tx t k bs m ∙ ap₂ (λ x rs. insert_row (t, x) rs) (agree_tuple tx k bs m s z a) a.rows
          ∙ sym (written_rows z (sound z v).valid tx t k bs m);
      opened = λ u. ap (is_in u) (numbers_write tx s.active) ∙ a.opened u ∙ sym (ap (is_in u) (numbers_write tx z.active));
      counts = λ u. by (eqb tx u)
          (λ e. subst (λ y. written_by y (with_write tx s.active) ≡ written_by y (with_write tx z.active)) (eqb-true tx u e)
          (count_write tx s.active h ∙ ap (λ n. min (suc n) most_statement) (a.counts tx) ∙ sym (count_write tx z.active (sym (a.opened tx) ∙ h))))
          (λ e. count_other tx u s.active e ∙ a.counts u ∙ sym (count_other tx u z.active e));
    },
  )

  close_both : (tx : ℕ) (ps qs : List Page) → rows ps ≡ rows qs → Both (closing tx ps s) (closing tx qs z)
  unfolding gives changed
  close_both tx ps qs e = (
    refl,
    record {
      capacity = a.capacity;
      next = a.next;
      rows = e;
      opened = λ u. without_in tx u s.active ∙ ap (λ b. b && not (eqb u tx)) (a.opened u) ∙ sym (without_in tx u z.active);
      counts = λ u. by (eqb tx u)
          (λ h. subst (λ y. written_by y (without tx s.active) ≡ written_by y (without tx z.active)) (eqb-true tx u h) (gone s.active ∙ sym (gone z.active)))
          (λ h. count_without tx u s.active h ∙ a.counts u ∙ sym (count_without tx u z.active h));
    },
  )
    where
      gone : (os : List Active) → written_by tx (without tx os) ≡ 0
      gone os = count_none tx (without tx os) (without_in tx tx os ∙ rw (eqb_self tx) (and_no (is_in tx (open_numbers os))))

  commit_both : (tx : ℕ) → Both (closing tx (committed_pages tx s.pages) s) (closing tx (committed_pages tx z.pages) z)
  commit_both tx =
      close_both tx (committed_pages tx s.pages) (committed_pages tx z.pages)
      (committed_rows tx s (sound s w).valid ∙ ap (λ rs. gather (after_commit tx rs) rs) a.rows ∙ sym (committed_rows tx z (sound z v).valid))

  abort_both : (tx : ℕ) → Both (closing tx (aborted_pages tx s.pages) s) (closing tx (aborted_pages tx z.pages) z)
  abort_both tx =
      close_both tx (aborted_pages tx s.pages) (aborted_pages tx z.pages)
      (aborted_rows tx s (sound s w).valid ∙ ap (gather (after_abort tx)) a.rows ∙ sym (aborted_rows tx z (sound z v).valid))

  -- ---- the calls

  not_open_lem : (tx : ℕ) → not_open tx s ≡ not_open tx z
  unfolding not_open
  not_open_lem tx = rw (a.opened tx)

  opening : (tx : ℕ) → Both (open_call tx s) (open_call tx z)
  unfolding open_call gives
  opening tx =
      subst (λ ts. Both (open_call tx s) (unless ts z (gives done (with_open tx z))))
      (ap₂ (λ b n. 6 when ltb most_transaction tx ∷ 8 when b ∷ 9 when leb open_limit n ∷ []) (a.opened tx) (agree_length s z w v a))
      (unless_both _ s z _ _ a (λ p. (refl, open_both tx s z a)))

  committing : (tx : ℕ) → Both (commit_call tx s) (commit_call tx z)
  unfolding commit_call
  committing tx =
      subst (λ ts. Both (commit_call tx s) (unless ts z (closing tx (committed_pages tx z.pages) z))) (not_open_lem tx) (unless_both _ s z _ _ a (λ p. commit_both tx))

  aborting : (tx : ℕ) → Both (abort_call tx s) (abort_call tx z)
  unfolding abort_call
  aborting tx =
      subst (λ ts. Both (abort_call tx s) (unless ts z (closing tx (aborted_pages tx z.pages) z))) (not_open_lem tx) (unless_both _ s z _ _ a (λ p. abort_both tx))

  -- a call that changes nothing
  answering : (c : TransactionCall) → effect c ≡ no_effect → (transact c s).answer ≡ (transact c z).answer → Both (transact c s) (transact c z)
  answering c e h = (h, subst (λ t. Agree t (transact c z).store) (sym (reads_only c s e).0) (subst (Agree s) (sym (reads_only c z e).0) a))

  reading : (tx t k room : ℕ) → (read_call tx t k room s).answer ≡ (read_call tx t k room z).answer
  reading tx t k room = same_read tx t k room z s (a.opened tx) (agree_seen tx t k s z a)

  listed : (room : ℕ) → (list_call room s).answer ≡ (list_call room z).answer
  unfolding list_call replied gives
  listed room =
      ap₂ (λ n os. (unless (21 when ltb room (length (listing os)) ∷ []) s (gives (filled n (listing os)) s)).answer) (agree_length s z w v a) (agree_sorted s z w v a)
      ∙ answer_unless _ s z _ _ refl

  same_keys : (tx t first end : ℕ) → crossing_keys tx t first end s.pages ≡ crossing_keys tx t first end z.pages
  same_keys tx t first end =
      let p = crossing_keys_lem s w tx t first end in
      let q = crossing_keys_lem z v tx t first end in
      same_rising _ _ (rise _ p.0) (rise _ q.0) (λ k. p.1 k ∙ ap (seen_crosses first end) (agree_seen tx t k s z a) ∙ sym (q.1 k))
    where
      rise : (ks : List ℕ) → paired ltb ks ≡ true → Rising ks
      rise [] h = tt
      rise (j ∷ []) h = (tt, tt)
      rise (j ∷ k ∷ ks) h =
          let l = paired_tail ltb j k ks h in
          let r = rise (k ∷ ks) l.1 in
          ((leb-true (suc j) k l.0, all_map (λ i. k < i) _ (λ i m. omega (arith, leb-true (suc j) k l.0)) ks r.0), r)

  crossing : (tx t first end room : ℕ) → (crossing_call tx t first end room s).answer ≡ (crossing_call tx t first end room z).answer
  unfolding crossing_call keys_reply replied gives
  crossing tx t first end room =
      ap₂ (λ ts ks. (unless (ts ++ (no_table t ∷ no_interval first end ∷ [])) s
      (unless (21 when ltb room (length (key_bytes ks)) ∷ []) s (gives (filled (length ks) (key_bytes ks)) s))).answer)
      (not_open_lem tx) (same_keys tx t first end)
      ∙ answer_unless _ s z _ _ (answer_unless _ s z _ _ refl)

  -- the tests of a write before 15
  front : Bool → ℕ → ℕ → ℕ → ℕ → Store → List Test
  front new tx t k n s =
      6 when ltb most_transaction tx ∷ 7 when not (is_in tx (open_numbers s.active)) ∷ no_table t ∷ too_long n
      ∷ 12 when any (is_foreign tx) (versions t k s.pages) ∷ key_test new (is_some (seen tx t k s)) ∷ []

  front_same : (new : Bool) (tx t k n : ℕ) → front new tx t k n s ≡ front new tx t k n z
  unfolding front
  front_same new tx t k n = rw (a.opened tx, agree_versions t k s z a, agree_seen tx t k s z a)

  -- where no checkpoint runs, all tuples held are live
  less_full : is_running z.checkpoint ≡ false → leb s.capacity (length (held s.pages)) ≡ false → leb z.capacity (length (held z.pages)) ≡ false
  less_full i h =
      let e : length (held z.pages) ≡ length (rows s.pages) = ap length (sym (ready z (sound z v).valid (idle_of z.checkpoint i)).same ∙ sym a.rows) in
      lt_false' z.capacity (length (held z.pages))
      (omega (arith, e, sub_length (rows_sub s.pages), leb-false s.capacity (length (held s.pages)) h, a.capacity))
    where
      lt_false' : (b c : ℕ) → c < b → leb b c ≡ false
      lt_false' b c l = by (leb b c) (λ k. absurd (omega (arith, leb-true b c k))) (λ k. k)

  writing : (new m : Bool) (tx t k : ℕ) (bs : List ℕ) → ((write_call new m tx t k bs s).answer ≡ refused 15 → ⊥)
      → Spared (is_running z.checkpoint ≡ false) (write_call new m tx t k bs z) → Both (write_call new m tx t k bs s) (write_call new m tx t k bs z)
  unfolding write_call write_tests argument_tests not_open tuple_tests key_tests full front
  writing new m tx t k bs n d =
      let B : Store → Bool = λ x. leb x.capacity (length (held x.pages)) in
      let U : Store → List Test = λ x. 16 when eqb x.next most_number ∷ [] in
      let o = with_tuple tx t k bs m s in
      let q = with_tuple tx t k bs m z in
      let F : Store → List Test = front new tx t k (length bs) in
      let same : unless (F z ++ (15 when B z) ∷ U z) z q ≡ unless (F s ++ (15 when B z) ∷ U s) z q =
      ap₂ (λ (ts us : List Test). unless (ts ++ (15 when B z) ∷ us) z q) (sym (front_same new tx t k (length bs)))
      (ap (λ (y : ℕ). 16 when eqb y most_number ∷ []) (sym a.next)) in
      subst (Both (unless (F s ++ (15 when B s) ∷ U s) s o)) (sym same)
      (unless_full (F s) (U s) (B s) (B z) s z o q a (λ p. write_both tx t k bs m (not-false _ p.1.0)) n
      (⊎_elim (λ i. inl (less_full i)) (λ g. inr (λ h. g (ap (λ x. x.answer) same ∙ h))) d))

  pub both : (c : TransactionCall) → ((transact c s).answer ≡ refused 15 → ⊥) → Spared (is_running z.checkpoint ≡ false) (transact c z)
      → Both (transact c s) (transact c z)
  unfolding transact insert_checked_call effect
  both (opens tx) n d = opening tx
  both (inserts tx t k bs) n d = writing true false tx t k bs n d
  both (inserts_checked tx t k bs hours) n d = unless_through _ _ s z _ _ a (writing true false tx t k bs) n d
  both (replaces tx t k bs) n d = writing false false tx t k bs n d
  both (deletes tx t k) n d = writing false true tx t k [] n d
  both (commits tx) n d = committing tx
  both (aborts tx) n d = aborting tx
  both (reads tx t k room) n d = answering (reads tx t k room) refl (reading tx t k room)
  both (lists room) n d = answering (lists room) refl (listed room)
  both (crossings tx t first end room) n d = answering (crossings tx t first end room) refl (crossing tx t first end room)

-- ---- the laws

pub transactions_agree : TransactionsAgree
transactions_agree c s z w v a n m = both s z w v a c n (inr m)

pub idle_agrees : IdleAgrees
idle_agrees c s z w v a i n = both s z w v a c n (inl i)

pub accepted_idle : AcceptedIdle
unfolding accepted
accepted_idle c s z w v a i h =
    let b = idle_agrees c s z w v a i (λ e. lie (ap accepted (sym e) ∙ h)) in
    (ap accepted (sym b.0) ∙ h, b.1)

pub checkpoints_agree : CheckpointsAgree
unfolding call is_transaction
checkpoints_agree c s w h =
    let l = call_leaves c s in
    record {
      capacity = l.capacity;
      next = l.next h;
      rows = stays c h;
      opened = λ tx. ap (λ os. is_in tx (open_numbers os)) (l.active h);
      counts = λ tx. ap (written_by tx) (l.active h);
    }
  where
    stays : (c : Call) → is_transaction c ≡ false → rows (call c s).store.pages ≡ rows s.pages
    stays (transacts c) h = lie (sym h)
    stays begins h = begin_rows s
    stays (steps len) h = step_call_rows len s (sound s w).valid
    stays (runs limit len) h = run_rows_lem limit len s (sound s w).valid

pub checkpoints_unseen : CheckpointsUnseen
unfolding answers_in keep is_transaction after_calls call if'◌then◌else◌
checkpoints_unseen [] t s z w v a i n = (refl, a)
checkpoints_unseen (transacts c ∷ cs) t s z w v a i n =
    let b = idle_agrees c s z w v a i n.0 in
    let r = checkpoints_unseen cs t.1 (transact c s).store (transact c z).store (kept_well (transacts c) s t.0 w) (kept_well (transacts c) z t.0 v) b.1
    (ap is_running ((call_leaves (transacts c) z).checkpoint refl) ∙ i) n.1 in
    (ap₂ (λ x y. x ∷ y) b.0 r.0, r.1)
checkpoints_unseen (begins ∷ cs) t s z w v a i n =
    checkpoints_unseen cs t.1 (call begins s).store z (kept_well begins s t.0 w) v (agree_trans (checkpoints_agree begins s w refl) a) i n
checkpoints_unseen (steps len ∷ cs) t s z w v a i n =
    checkpoints_unseen cs t.1 (call (steps len) s).store z (kept_well (steps len) s t.0 w) v (agree_trans (checkpoints_agree (steps len) s w refl) a) i n
checkpoints_unseen (runs limit len ∷ cs) t s z w v a i n =
    checkpoints_unseen cs t.1 (call (runs limit len) s).store z (kept_well (runs limit len) s t.0 w) v (agree_trans (checkpoints_agree (runs limit len) s w refl) a) i n
