-- Calls with keys of 32 bits and payloads of bytes keep the fields of every tuple held in range.
use Rattle.basics.proofs.Kit.{◌≡◌, sym, subst, Bool, true, List, [], ◌∷◌, ◌++◌, ℕ, ◌≤◌, ◌<◌, ltb, length, length-map, arith}
use Rattle.basics.specs.Basics.{if'◌then◌else◌, first}
use Rattle.basics.proofs.Facts.{by, AllOf, by-option}
use Rattle.block_forms.specs.Limits.{payload_limit, record_space}
use Rattle.block_forms.specs.Tuple.{Owner, OwnerFits, Fits, AllBytes, Tuple, AllFit, sizes}
use Rattle.image_rows.specs.Rows.{Row, is_own, rows_of}
use Rattle.image.specs.Stages.{directories_for}
use Rattle.model.specs.State.{Store, Outcome, Page, Checkpoint, idle, running, Held}
use Rattle.model.specs.Rules.{is_frozen, shown, is_adding}
use Rattle.model.specs.Sight.{rows, held}
use Rattle.model.specs.Transactions.{gives, changed, new_tuple, after_write, with_tuple}
use Rattle.model.specs.Checkpoint.{step_at, step_of, store_page, store_directory, store_header, made, with_progress, allocate, begin_call}
use Rattle.model.specs.Calls.{TransactionCall, transact, TypedTuple, TypedCall, Call, transacts, begins, steps, runs, call, Typed}
use Rattle.basics.proofs.Elements.{many_length, all_insert, all_map, all_two}
use Rattle.model.proofs.Effects.{unless_keeps, Accepts, Does, refuses, answers, starts, writes, finishes, undoes, does}
use Rattle.model.proofs.NoStores.{step_keeps, run_keeps}
use Rattle.model.proofs.Steps.{FrozenFit, FrozenSmall}
use Rattle.model.proofs.Sound.{PageOk}
use Rattle.model.proofs.Rows.{Since, still, settled, Alike, Sub, sub_all, sub_length, thaw_rows, held_freeze}
use Rattle.model.proofs.Placing.{place_put, page_full}
use Rattle.model.proofs.Valid.{Valid, Counted}
use Rattle.model.proofs.ByPlace.{commit_carried, abort_carried}
use Rattle.model.proofs.Keeps.{rows_sub, step_valid}
use Rattle.model.proofs.Whole.{Fitting}
use Rattle.model.proofs.Shown.{bare}
use Rattle.basics.proofs.Lists.{some_one}

since_fits : {a b : Owner} → Since a b → OwnerFits b → OwnerFits a
since_fits still h = h
since_fits settled h = tt

alike_fits : (a b : Row) → Alike a b → Fits b.1 → Fits a.1
alike_fits a b e f = record {
  key = omega (arith, e.1, f.key);
  number = omega (arith, e.2, f.number);
  owner = since_fits e.4 f.owner;
  payload = subst (λ z. length z ≤ payload_limit) (sym e.3) f.payload;
  bytes = subst AllBytes (sym e.3) f.bytes;
}

sub_fits : {a b : List Row} → Sub a b → AllOf (λ r. Fits r.1) b → AllOf (λ r. Fits r.1) a
sub_fits s h = sub_all _ _ alike_fits s h

-- ---- insert, replace, delete

module _ (c : TransactionCall) (s : Store) (v : Valid s) (n : Counted s) (f : Fitting s) (tx t k : ℕ) (bs : List ℕ) (m : Bool) (a : Accepts c tx t k bs m s)
    (typed : TypedTuple k bs) where
  new_fits : Fits (new_tuple tx k bs m s)
  unfolding new_tuple
  new_fits = record {
    key = typed.0;
    number = omega (arith, v.nx);
    owner = (omega (arith, a.low), omega (arith, n tx a.opened, many_length (is_own tx) (rows s.pages), sub_length (rows_sub s.pages), v.has.few, v.cap));
    payload = a.short;
    bytes = typed.1;
  }

  written_fits : Fitting (with_tuple tx t k bs m s).store
  unfolding with_tuple after_write gives changed
  written_fits =
      let p = (place_put t (new_tuple tx k bs m s) s.pages v.pages v.has.rising).0 in
      subst (AllOf (λ r. Fits r.1)) (sym p.now)
      (all_insert (λ r. Fits r.1) p.low _ p.high (subst (AllOf (λ r. Fits r.1)) p.was f) new_fits)

-- ---- the checkpoint

pub step_fits : (s : Store) → Valid s → Fitting s → Fitting (step_at s.checkpoint s).store
unfolding step_at step_of gives if'◌then◌else◌ store_page store_directory store_header made with_progress
step_fits s v f = go s.checkpoint
  where
    go : (c : Checkpoint) → Fitting (step_at c s).store
    go idle = f
    go (running n es ds) =
        by-option (first is_frozen s.pages)
        (λ e. rw (e, step_of) (by (ltb (length ds) (directories_for (length es))) (λ k. rw (k, if'◌then◌else◌) f) (λ k. rw (k, if'◌then◌else◌) f)))
        (λ p e. rw (e, step_of) (sub_fits (thaw_rows (allocate s) s.pages v.pages).0 f))

both_step : (s : Store) → Valid s × Fitting s → Valid (step_at s.checkpoint s).store × Fitting (step_at s.checkpoint s).store
both_step s p = (step_valid s p.0, step_fits s p.0 p.1)

-- ---- all calls

does_fit : (c : TransactionCall) (s : Store) (o : Outcome) → Does c s o → TypedCall c → Valid s → Counted s → Fitting s → Fitting o.store
unfolding gives changed
does_fit c s o (refuses n) t v h f = f
does_fit c s o (answers a e i) t v h f = f
does_fit c s o (starts tx e l i r) t v h f = f
does_fit c s o (writes tx tb k bs m e a) t v h f = written_fits c s v h f tx tb k bs m a (a.typed t)
does_fit c s o (finishes tx e) t v h f = sub_fits (commit_carried s.pages v.has.rising v.has.differ v.pages tx).0 f
does_fit c s o (undoes tx e) t v h f = sub_fits (abort_carried s.pages v.has.rising v.has.differ v.pages tx).0 f

pub keeps_fits : (c : Call) (s : Store) → Typed c → Valid s → Counted s → Fitting s → Fitting (call c s).store
unfolding call begin_call gives with_progress
keeps_fits (transacts c) s t v h f = does_fit c s (transact c s) (does c s) t v h f
keeps_fits begins s t v h f = unless_keeps Fitting _ s _ f (λ p. rw (held_freeze s.pages) f)
keeps_fits (steps len) s t v h f = (step_keeps (λ z. Valid z × Fitting z) both_step len s (v, f)).1
keeps_fits (runs limit len) s t v h f = (run_keeps (λ z. Valid z × Fitting z) both_step limit len s (v, f)).1

-- ---- what the frozen pages show can be written

shown_fits : (hs : List Held) → AllOf Fits (bare hs) → AllFit (shown hs)
unfolding shown if'◌then◌else◌
shown_fits [] a = tt
shown_fits (h ∷ hs) a = by (is_adding h.pending) (λ k. rw k (shown_fits hs a.1)) (λ k. rw k (a.0, shown_fits hs a.1))

-- a property of the rows is one of a page's tuples
pub page_rows : (P : Row → Type 0) (t : ℕ) (ts : List Tuple) (rest : List Row) → AllOf P (rows_of t ts ++ rest) → AllOf (λ x. P (t, x)) ts × AllOf P rest
unfolding rows_of
page_rows P t [] rest a = (tt, a)
page_rows P t (x ∷ xs) rest a = let r = page_rows P t xs rest a.1 in ((a.0, r.0), r.1)

pages_fit : (ps : List Page) → AllOf PageOk ps → AllOf (λ r. (r.0 ≤ 7) × Fits r.1) (held ps)
    → AllOf (λ p. p.frozen ≡ true → (p.table < 8) × AllFit (shown p.tuples) × (sizes (shown p.tuples) ≤ record_space)) ps
unfolding held
pages_fit [] o a = tt
pages_fit (p ∷ ps) o a =
    let r = page_rows (λ r. (r.0 ≤ 7) × Fits r.1) p.table (bare p.tuples) (held ps) a in
    let y = length-map p.tuples (λ h. h.tuple) in
    let l = page_full p o.0 in (
      λ h. (
        some_one (p.table < 8) (λ x. (p.table ≤ 7) × Fits x) (bare p.tuples) (omega arith) r.0 (λ x q. omega (arith, q.0)),
        shown_fits p.tuples (all_map _ _ (λ x q. q.1) (bare p.tuples) r.0),
        (o.0.2 h).0,
      ),
      pages_fit ps o.1 r.1,
    )

pub frozen_fit : (s : Store) → Valid s → Fitting s → FrozenFit s
frozen_fit s v f = pages_fit s.pages v.pages (all_two _ _ _ (λ r k q. (k.1, q)) (held s.pages) v.has.known f)

pub frozen_small : (s : Store) → Valid s → FrozenSmall s
frozen_small s v = all_map PageOk (λ p. p.frozen ≡ true → sizes (shown p.tuples) ≤ record_space) (λ p o h. (o.2 h).0) s.pages v.pages
