-- Calls that make no store and touch no checkpoint: they change the next number, the pages and the open transactions only, and
-- not what the frozen pages show. And what every call leaves.
use Rattle.basics.proofs.Kit.{◌≡◌, refl, sym, ap, ◌∙◌, Bool, true, false, List, [], ℕ, suc, ◌≤◌, zero, min, ltb, length, arith}
use Rattle.basics.specs.Basics.{if'◌then◌else◌, first}
use Rattle.basics.proofs.Facts.{by, lie, by-option}
use Rattle.image.specs.Stages.{directories_for}
use Rattle.model.specs.State.{Store, Outcome, Page, Active, Answer, refused, done, Checkpoint, idle, running}
use Rattle.model.specs.Rules.{is_frozen}
use Rattle.model.specs.Transactions.{gives, after_write, with_tuple, changed, closing, PlaceOp, carry_out}
use Rattle.model.specs.Checkpoint.{with_progress, begin_call, step_at, step_of, store_page, store_directory, store_header, made, step_call, in_turn, left, run_call}
use Rattle.model.specs.Calls.{TransactionCall, transact, Call, transacts, begins, steps, runs, call, is_transaction, is_step, Leaves, CallLeaves}
use Rattle.model.proofs.Effects.{unless_out, unless_keeps, Does, refuses, answers, starts, writes, finishes, undoes, does}
use Rattle.model.proofs.Moves.{Moves, moves_place, moves_carry}

-- what such a call gives
pub record NoStores (s : Store) (o : Outcome) : Type 1 where
  pub none_written : o.writes ≡ []
  pub next : ℕ
  pub pages : List Page
  pub active : List Active
  pub eq : o.store ≡ changed s next pages active
  pub more : s.next ≤ next
  -- the pages were changed by moves
  pub moved : (R : List Page → List Page → Type 0) → Moves R → R s.pages pages

module _ (s : Store) where
  no_stores_opened : (a : Answer) (os : List Active) → NoStores s (gives a (changed s s.next s.pages os))
  unfolding gives
  no_stores_opened a os =
      record { none_written = refl; next = _; pages = _; active = _; eq = refl; more = omega arith; moved = λ R m. m.same s.pages }

  no_stores_same : (a : Answer) → NoStores s (gives a s)
  unfolding gives changed
  no_stores_same a = no_stores_opened a s.active

  no_stores_written : (tx t k : ℕ) (bs : List ℕ) (m : Bool) → NoStores s (with_tuple tx t k bs m s)
  unfolding with_tuple after_write gives
  no_stores_written tx t k bs m =
      record {
        none_written = refl;
        next = _;
        pages = _;
        active = _;
        eq = refl;
        more = omega arith;
        moved = λ R m. moves_place R m t _ s.pages;
      }

  no_stores_carried : (n : ℕ) (ops : List PlaceOp) (tx : ℕ) → NoStores s (closing tx (carry_out n ops s.pages) s)
  unfolding gives
  no_stores_carried n ops tx =
      record {
        none_written = refl;
        next = _;
        pages = _;
        active = _;
        eq = refl;
        more = omega arith;
        moved = λ R m. moves_carry R m n ops s.pages;
      }

  pub no_stores : (c : TransactionCall) → NoStores s (transact c s)
  no_stores c = go (transact c s) (does c s)
    where
      go : (o : Outcome) → Does c s o → NoStores s o
      go o (refuses n) = no_stores_same (refused n)
      go o (answers a e h) = no_stores_same a
      go o (starts tx e l i f) = no_stores_opened done _
      go o (writes tx t k bs m e a) = no_stores_written tx t k bs m
      go o (finishes tx e) = no_stores_carried _ _ tx
      go o (undoes tx e) = no_stores_carried _ _ tx

-- ---- a step changes the level, the pages, the blocks in use, the block last taken and the checkpoint only

pub step_frame : (P : Store → Type 0) (s : Store) → P s → ((l : ℕ) (ps : List Page) (u : ℕ → Bool) (b : ℕ) (c : Checkpoint) → P (with_progress s l ps u b c))
    → P (step_at s.checkpoint s).store
unfolding step_at step_of gives if'◌then◌else◌ store_page store_directory store_header made
step_frame P s p f = go s.checkpoint
  where
    go : (c : Checkpoint) → P (step_at c s).store
    go idle = p
    go (running n es ds) =
        by-option (first is_frozen s.pages)
        (λ e. rw (e, step_of) (by (ltb (length ds) (directories_for (length es))) (λ k. rw (k, if'◌then◌else◌) (f _ _ _ _ _)) (λ k. rw (k, if'◌then◌else◌) (f _ _ _ _ _))))
        (λ q e. rw (e, step_of) (f _ _ _ _ _))

-- what every step keeps is kept by step and run
module _ (P : Store → Type 0) (keeps : (s : Store) → P s → P (step_at s.checkpoint s).store) where
  in_turn_keeps : (k : ℕ) (s : Store) → P s → P (in_turn k s).store
  unfolding in_turn gives
  in_turn_keeps zero s p = p
  in_turn_keeps (suc k) s p = in_turn_keeps k (step_at s.checkpoint s).store (keeps s p)

  pub step_keeps : (len : ℕ) (s : Store) → P s → P (step_call len s).store
  unfolding step_call
  step_keeps len s p = unless_keeps P _ s _ p (λ q. keeps s p)

  pub run_keeps : (limit len : ℕ) (s : Store) → P s → P (run_call limit len s).store
  unfolding run_call
  run_keeps limit len s p = unless_keeps P _ s _ p (λ q. in_turn_keeps (min limit (left s)) s p)

-- ---- what a call leaves

-- what begin, step and run leave of s
record Stands (s t : Store) : Type 0 where
  blocks : t.blocks ≡ s.blocks
  capacity : t.capacity ≡ s.capacity
  next : t.next ≡ s.next
  active : t.active ≡ s.active

unmoved : (s : Store) → Stands s s
unmoved s = record { blocks = refl; capacity = refl; next = refl; active = refl }

stands_moved : (s t : Store) (l : ℕ) (ps : List Page) (u : ℕ → Bool) (b : ℕ) (c : Checkpoint) → Stands s t → Stands s (with_progress t l ps u b c)
unfolding with_progress
stands_moved s t l ps u b c h = record { blocks = h.blocks; capacity = h.capacity; next = h.next; active = h.active }

step_stands : (s t : Store) → Stands s t → Stands s (step_at t.checkpoint t).store
step_stands s t h = step_frame (Stands s) t h (λ l ps u b c. stands_moved s t l ps u b c h)

begin_stands : (s : Store) → Stands s (begin_call s).store × ((begin_call s).writes ≡ [])
unfolding begin_call gives
begin_stands s = unless_out (λ t ws. Stands s t × (ws ≡ [])) _ s _ (unmoved s, refl) (stands_moved s s _ _ _ _ _ (unmoved s), refl)

stands_leaves : (c : Call) (s : Store) (o : Outcome) → is_transaction c ≡ false → Stands s o.store → (is_step c ≡ false → o.writes ≡ []) → Leaves c s o
stands_leaves c s o h k i =
    record {
      blocks = k.blocks;
      capacity = k.capacity;
      level = λ e. lie (sym h ∙ e);
      used = λ e. lie (sym h ∙ e);
      taken = λ e. lie (sym h ∙ e);
      checkpoint = λ e. lie (sym h ∙ e);
      next = λ e. k.next;
      active = λ e. k.active;
      image = i;
    }

no_stores_leaves : (c : Call) (s : Store) (o : Outcome) → is_transaction c ≡ true → NoStores s o → Leaves c s o
unfolding changed
no_stores_leaves c s o h q =
    record {
      blocks = ap (λ t. t.blocks) q.eq;
      capacity = ap (λ t. t.capacity) q.eq;
      level = λ e. ap (λ t. t.level) q.eq;
      used = λ e. ap (λ t. t.used) q.eq;
      taken = λ e. ap (λ t. t.taken) q.eq;
      checkpoint = λ e. ap (λ t. t.checkpoint) q.eq;
      next = λ e. lie (sym e ∙ h);
      active = λ e. lie (sym e ∙ h);
      image = λ e. q.none_written;
    }

pub call_leaves : CallLeaves
unfolding call is_transaction is_step
call_leaves (transacts c) s = no_stores_leaves (transacts c) s (transact c s) refl (no_stores s c)
call_leaves begins s = stands_leaves begins s (begin_call s) refl (begin_stands s).0 (λ e. (begin_stands s).1)
call_leaves (steps len) s = stands_leaves (steps len) s (step_call len s) refl (step_keeps (Stands s) (step_stands s) len s (unmoved s)) (λ e. lie (sym e))
call_leaves (runs limit len) s = stands_leaves (runs limit len) s (run_call limit len s) refl (run_keeps (Stands s) (step_stands s) limit len s (unmoved s)) (λ e. lie (sym e))
