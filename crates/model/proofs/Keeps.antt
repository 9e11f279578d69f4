-- Every call keeps the invariant.
use Rattle.basics.proofs.Kit.{◌≡◌, refl, sym, ap, ◌∙◌, subst, Bool, true, false, none, List, [], ◌∷◌, ◌++◌, map, ℕ, suc, ◌≤◌, ◌<◌, ltb, length, not, eqb}
use Rattle.basics.proofs.Kit.{length-append, length-map, arith}
use Rattle.basics.specs.Basics.{keep, if'◌then◌else◌, how_many, any, first, is_empty}
use Rattle.basics.proofs.Facts.{AllOf, by, by-option}
use Rattle.block_forms.specs.Tuple.{Owner, committed, tentative, Tuple, size, owner_size, is_tentative}
use Rattle.block_forms.specs.Limits.{most_record}
use Rattle.image_rows.specs.Rows.{Row, is_own, mark_ok, is_at, open_limit}
use Rattle.image.specs.Stages.{directories_for}
use Rattle.model.specs.State.{Store, Outcome, Page, Held, idle, running, nothing, Checkpoint}
use Rattle.model.specs.Rules.{place, held_size, is_pending, freeze, is_frozen}
use Rattle.model.specs.Sight.{rows, held, is_foreign, versions}
use Rattle.model.specs.Transactions.{gives, changed, open_numbers, with_open, new_tuple, with_write, after_write, with_tuple, without, committed_pages, aborted_pages, closing, PlaceOp, tagged}
use Rattle.model.specs.Transactions.{carry_out, close_plan, abort_plan}
use Rattle.model.specs.Checkpoint.{with_progress, begin_call, store_page, made, allocate, store_directory, store_header, step_at, step_of}
use Rattle.model.specs.Calls.{TransactionCall, transact, Call, transacts, begins, steps, runs, call, others}
use Rattle.basics.proofs.Elements.{in_append, all_map, Pairs, keep_length}
use Rattle.model.proofs.ByNumber.{plan_rows, remove_all}
use Rattle.model.proofs.Owners.{numbers_append, numbers_write, numbers_length, numbers_without}
use Rattle.model.proofs.Frozen.{images, images_none, images_moves}
use Rattle.model.proofs.Effects.{unless_keeps, Accepts, Does, refuses, answers, starts, writes, finishes, undoes, does}
use Rattle.model.proofs.NoStores.{step_keeps, run_keeps}
use Rattle.model.proofs.BlockUse.{below_most, idle_of}
use Rattle.model.proofs.Sound.{place_ok, PageOk, bare_size, thaw_ok, carry_ok}
use Rattle.model.proofs.Rows.{Sub, rows_live, held_plain, live_sub, sub_all, Differ, sub_pairs, held_freeze, rows_freeze, thaw_rows}
use Rattle.model.proofs.Placing.{Before, Put, place_put}
use Rattle.model.proofs.RowAfter.{differ_alike, gather, row_after, commit_rows, abort_rows}
use Rattle.model.proofs.Valid.{Opened, LiveOk, Valid, before_alike, HeldOk, held_insert, live_insert, Counted, held_sub}
use Rattle.model.proofs.Closing.{commit_live, abort_live}
use Rattle.model.proofs.ByPlace.{commit_carried, abort_carried}
use Rattle.model.proofs.Shown.{shown_without_pending}
use Rattle.model.proofs.Moves.{moves_place, moves_carry}

-- ---- open

opened_more : (tx : ℕ) (os : List ℕ) (o : Owner) → Opened os o → Opened (os ++ tx ∷ []) o
opened_more tx os committed h = tt
opened_more tx os (tentative u s) h = rw (in_append u os, h)

live_open : (tx : ℕ) (os : List ℕ) (rs : List Row) → LiveOk os rs → LiveOk (os ++ tx ∷ []) rs
live_open tx os rs h = record {
  chain = h.chain;
  counted = h.counted;
  marked = h.marked;
  heads = h.heads;
  open' = all_map _ _
      (λ r k. opened_more tx os r.1.owner k) rs h.open';
}

open_valid : (tx : ℕ) (s : Store) → length s.active < open_limit → Valid s → Valid (with_open tx s)
unfolding changed
open_valid tx s l v =
    let m = length-append s.active (record { transaction = tx; written = 0 } ∷ []) in
    record {
      pages = v.pages;
      still = v.still;
      has = v.has;
      sees = subst (λ z. LiveOk z (rows s.pages)) (sym (numbers_append s.active (record { transaction = tx; written = 0 })))
          (live_open tx (open_numbers s.active) (rows s.pages) v.sees);
      opened = omega arith;
      nx = v.nx;
      cap = v.cap;
    }

-- ---- insert, replace, delete

pub rows_sub : (ps : List Page) → Sub (rows ps) (held ps)
rows_sub ps = rw (rows_live ps, held_plain ps) (live_sub (tagged ps))

rows_known : (s : Store) → Valid s → AllOf (λ r. r.1.number < s.next) (rows s.pages)
rows_known s v = sub_all _ _ (λ a b e h. omega (arith, e.2, h.0)) (rows_sub s.pages) v.has.known

pub rows_differ : (s : Store) → Valid s → Pairs Differ (rows s.pages)
rows_differ s v = sub_pairs Differ differ_alike (rows_sub s.pages) v.has.differ

pub rows_rising : (s : Store) → Valid s → Pairs Before (rows s.pages)
rows_rising s v = sub_pairs Before before_alike (rows_sub s.pages) v.has.rising

-- a new tuple is placed
module _ (c : TransactionCall) (s : Store) (v : Valid s) (n : Counted s) (tx t k : ℕ) (bs : List ℕ) (m : Bool) (a : Accepts c tx t k bs m s) where
  x : Tuple
  x = new_tuple tx k bs m s

  x_size : size x ≤ most_record
  unfolding size x new_tuple owner_size
  x_size = omega (arith, a.short)

  x_marked : mark_ok (t, x) ≡ true
  unfolding mark_ok x new_tuple is_tentative
  x_marked = a.bare

  written_has : (rs b : List Row) → Put (t, x) rs b → HeldOk s.capacity s.next b → length b < s.capacity → HeldOk s.capacity (suc s.next) rs
  unfolding x new_tuple
  written_has rs b p h l =
      subst (HeldOk s.capacity (suc s.next)) (sym p.now)
      (held_insert t k s.next p.low p.high p.below p.above s.capacity x refl refl a.table
      (subst (λ z. length z < s.capacity) p.was l) (subst (HeldOk s.capacity s.next) p.was h))

  written_sees : (rs : List Row) → Put (t, x) rs (rows s.pages) → LiveOk (open_numbers s.active) rs
  unfolding x new_tuple versions
  written_sees rs p =
      let old = p.was in
      let nums = subst (AllOf (λ r. r.1.number < s.next)) old (rows_known s v) in
      subst (LiveOk (open_numbers s.active)) (sym p.now)
      (live_insert t tx x p.low p.high p.below p.above nums (ap (tentative tx) (n tx a.opened) ∙ ap (λ z. tentative tx (how_many (is_own tx) z)) old)
      (open_numbers s.active) a.opened x_marked
      (ap (λ z. any (is_foreign tx) (keep (is_at t k) z)) (sym old) ∙ a.alone) (λ e. a.known (ap (λ z. is_empty (keep (is_at t k) z)) old ∙ e))
      (subst (LiveOk (open_numbers s.active)) old v.sees))

  pub written_valid : Valid (with_tuple tx t k bs m s).store
  unfolding with_tuple after_write gives changed x
  written_valid =
      let put = place_put t x s.pages v.pages v.has.rising in
      record {
        pages = place_ok t x x_size s.pages v.pages;
        still = λ h. moves_place _ images_moves t x s.pages ∙ v.still h;
        has = written_has _ _ put.0 v.has a.room;
        sees = subst (λ z. LiveOk z (rows (place t x s.pages))) (sym (numbers_write tx s.active)) (written_sees _ put.1);
        opened = subst (λ n. n ≤ open_limit) (sym (numbers_length s.active) ∙ ap length (sym (numbers_write tx s.active))
            ∙ numbers_length (with_write tx s.active)) v.opened;
        nx = below_most s.next v.nx a.number;
        cap = v.cap;
      }

-- ---- commit, abort

-- the operations os are carried out, F says what becomes of each row, and tx is closed
closed_valid : (tx n : ℕ) (os : List PlaceOp) (F : Row → List Row) (s : Store) → Valid s
    → Sub (held (carry_out n os s.pages)) (held s.pages) × (rows (carry_out n os s.pages) ≡ gather F (rows s.pages))
    → LiveOk (others tx (open_numbers s.active)) (gather F (rows s.pages))
    → Valid (changed s s.next (carry_out n os s.pages) (without tx s.active))
unfolding changed others
closed_valid tx n os F s v r live =
    let l = keep_length (λ o. not (eqb o tx)) (open_numbers s.active) in
    let o = numbers_without tx s.active in
    record {
      pages = carry_ok n os s.pages v.pages;
      still = λ h. moves_carry _ images_moves n os s.pages ∙ v.still h;
      has = held_sub s.capacity s.next r.0 v.has;
      sees = rw (o, r.1) live;
      opened = omega (arith, v.opened, numbers_length s.active, numbers_length (without tx s.active), ap length o);
      nx = v.nx;
      cap = v.cap;
    }

commit_valid : (tx : ℕ) (s : Store) → Valid s → Valid (closing tx (committed_pages tx s.pages) s).store
unfolding gives
commit_valid tx s v =
    let rs = rows s.pages in
    let d = rows_differ s v in
    closed_valid tx (length (held s.pages)) (close_plan tx s.pages) (row_after (plan_rows tx rs rs)) s v
    (commit_carried s.pages v.has.rising v.has.differ v.pages tx)
    (rw (commit_rows tx rs d) (commit_live tx (open_numbers s.active) rs v.sees d))

abort_valid : (tx : ℕ) (s : Store) → Valid s → Valid (closing tx (aborted_pages tx s.pages) s).store
unfolding gives
abort_valid tx s v =
    let rs = rows s.pages in
    let d = rows_differ s v in
    closed_valid tx (length (held s.pages)) (abort_plan tx s.pages) (row_after (remove_all (keep (is_own tx) rs))) s v
    (abort_carried s.pages v.has.rising v.has.differ v.pages tx)
    (rw (abort_rows tx rs d) (abort_live tx (open_numbers s.active) rs v.sees d))

-- ---- the checkpoint

no_idle : {X : Type 0} {n : ℕ} {es ds : List ℕ} → running n es ds ≡ idle → X
no_idle e = let z : ◌≡◌ {A = ℕ} 0 1 = cc in absurd (omega arith)

pub nothing_pending : (ts : List Held) → AllOf (λ x. (held_size x ≤ most_record) × (x.pending ≡ nothing)) ts
    → any (λ x. is_pending x.pending) ts ≡ false
unfolding any is_pending
nothing_pending [] a = refl
nothing_pending (x ∷ xs) a = rw (a.0.1, any) (nothing_pending xs a.1)

-- no page is frozen
pub all_free : (ps : List Page) → images ps ≡ [] → AllOf (λ p. p.frozen ≡ false) ps
unfolding images if'◌then◌else◌
all_free [] e = tt
all_free (p ∷ ps) e = by p.frozen (λ h. let z : ◌≡◌ {A = ℕ} 0 1 = clash (rw h at e) in absurd (omega arith)) (λ h. (h, all_free ps (rw h at e)))
  where
    clash : {A : Type 0} {x : A} {xs : List A} → x ∷ xs ≡ [] → ◌≡◌ {A = ℕ} 0 1
    clash e = cc

freeze_ok : (p : Page) → p.frozen ≡ false → PageOk p → PageOk (freeze p)
unfolding freeze
freeze_ok p h o =
    let f = o.1 h in
    let z = bare_size p.tuples in
    let y = length-map p.tuples (λ h. h.tuple) in
    (o.0, λ k. f, λ k. rw (shown_without_pending p.tuples (nothing_pending p.tuples f.0)) (omega (arith, f.1), omega (arith, f.2)))

freeze_all : (ps : List Page) → AllOf (λ p. p.frozen ≡ false) ps → AllOf PageOk ps → AllOf PageOk (map freeze ps)
freeze_all [] a b = tt
freeze_all (p ∷ ps) a b = (freeze_ok p a.0 b.0, freeze_all ps a.1 b.1)

begin_valid : (s : Store) → Valid s → Valid (begin_call s).store
unfolding begin_call gives with_progress
begin_valid s v =
    unless_keeps Valid _ s _ v (λ p.
    let free = all_free s.pages (v.still (idle_of s.checkpoint p.0)) in
    record {
      pages = freeze_all s.pages free v.pages;
      still = λ e. no_idle e;
      has = rw (held_freeze s.pages) v.has;
      sees = rw (rows_freeze s.pages) v.sees;
      opened = v.opened;
      nx = v.nx;
      cap = v.cap;
    })

page_valid : (n : ℕ) (es ds : List ℕ) (p : Page) (s : Store) → Valid s → Valid (store_page n es ds p s).store
unfolding store_page made with_progress
page_valid n es ds p s v =
    let b = allocate s in
    let r = thaw_rows b s.pages v.pages in
    record {
      pages = thaw_ok b s.pages v.pages;
      still = λ e. no_idle e;
      has = held_sub s.capacity s.next r.0 v.has;
      sees = rw r.1 v.sees;
      opened = v.opened;
      nx = v.nx;
      cap = v.cap;
    }

directory_valid : (n : ℕ) (es ds : List ℕ) (s : Store) → Valid s → Valid (store_directory n es ds s).store
unfolding store_directory made with_progress
directory_valid n es ds s v = record { pages = v.pages; still = λ e. no_idle e; has = v.has; sees = v.sees; opened = v.opened; nx = v.nx; cap = v.cap }

header_valid : (n : ℕ) (es ds : List ℕ) (s : Store) → first is_frozen s.pages ≡ none → Valid s → Valid (store_header n es ds s).store
unfolding store_header made with_progress
header_valid n es ds s f v = record {
  pages = v.pages;
  still = λ e. images_none
      s.pages f;
  has = v.has;
  sees = v.sees;
  opened = v.opened;
  nx = v.nx;
  cap = v.cap;
}

pub step_valid : (s : Store) → Valid s → Valid (step_at s.checkpoint s).store
unfolding step_at step_of gives if'◌then◌else◌
step_valid s v = go s.checkpoint
  where
    go : (c : Checkpoint) → Valid (step_at c s).store
    go idle = v
    go (running n es ds) =
        by-option (first is_frozen s.pages)
        (λ f. rw (f, step_of) (by (ltb (length ds) (directories_for (length es))) (λ k. rw (k, if'◌then◌else◌) (directory_valid n es ds s v))
        (λ k. rw (k, if'◌then◌else◌) (header_valid n es ds s f v))))
        (λ p f. rw (f, step_of) (page_valid n es ds p s v))

-- ---- all calls

does_valid : (c : TransactionCall) (s : Store) (o : Outcome) → Does c s o → Valid s → Counted s → Valid o.store
unfolding gives
does_valid c s o (refuses n) v h = v
does_valid c s o (answers a e i) v h = v
does_valid c s o (starts tx e l i f) v h = open_valid tx s f v
does_valid c s o (writes tx t k bs m e a) v h = written_valid c s v h tx t k bs m a
does_valid c s o (finishes tx e) v h = commit_valid tx s v
does_valid c s o (undoes tx e) v h = abort_valid tx s v

pub keeps : (c : Call) (s : Store) → Valid s → Counted s → Valid (call c s).store
unfolding call
keeps (transacts c) s v h = does_valid c s (transact c s) (does c s) v h
keeps begins s v h = begin_valid s v
keeps (steps len) s v h = step_keeps Valid step_valid len s v
keeps (runs limit len) s v h = run_keeps Valid step_valid limit len s v
