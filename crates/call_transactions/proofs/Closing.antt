-- Commit and abort: the transaction's entries are taken out, and the calls.
use Rattle.basics.proofs.Kit.{◌≡◌, refl, sym, ap, ◌∙◌, Bool, true, false, some, List, ℕ, ◌≤◌, ◌<◌, length, arith}
use Rattle.model.specs.State.{Page, Active, Store, Outcome}
use Rattle.model.specs.Transactions.{unless, changed, not_open, without, closing, commit_call, abort_call}
use Rattle.basics.specs.Lists.{remove_at}
use Rattle.model.specs.Calls.{with_room}
use Rattle.memory_layout.specs.Flat.{Flat, flat_of, Room, Becomes, with_opens}
use Rattle.memory_layout.specs.Store.{store_of, store_in, pages_in, HoldsNow}
use Rattle.memory_layout.specs.Opens.{find_open}
use Rattle.memory_layout.proofs.Laws.{Sound, in_sound, store_pages}
use Rattle.call_contracts.specs.Shape.{Answers}
use Rattle.std.specs.Prelude.{Ok, Err}
use Rattle.refusals.specs.declared.Refusal.{Refusal}
use Rattle.refusals.specs.declared.Refusal.TheVariants.{LogFull}
use Rattle.refusals.specs.Numbers.{number}
use Rattle.call_contracts.specs.declared.Reply.TheVariants.{Done}
use Rattle.call_contracts.proofs.Answering.{answers_done, no_room_done}
use Rattle.engine_pages.specs.Pages.{with_pages}
use Rattle.engine_close.specs.Close.{closed_pages}
use Rattle.call_transactions.specs.Refusals.{refusal_in}
use Rattle.call_transactions.specs.Calls.{end_call}
use Rattle.call_transactions.proofs.Opens.{without_found, without_none}
use Rattle.call_transactions.proofs.Refusing.{passed_held, call_after, answers_stopped, open_numbered}
use Rattle.call_transactions.proofs.Opening.{opens_hold}

-- what the loop has shown: only the list of open transactions has changed
pub record Closed (m m' : List ℕ) (tx : ℕ) : Type 0 where
  pub becomes : Becomes m m' (with_opens (flat_of m) (flat_of m').opens)
  pub left : without tx (flat_of m').opens ≡ without tx (flat_of m).opens

module _ {m m' : List ℕ} {tx : ℕ} (d : Closed m m' tx) where
  pub closed_out : {i : ℕ} → i ≡ find_open tx (flat_of m').opens → i < length (flat_of m').opens → {m2 : List ℕ} → Becomes m' m2 (with_opens (flat_of m') (remove_at i (flat_of m').opens)) → Closed m m2 tx
  closed_out {i} e h {m2} b =
      let os : List Active = (flat_of m').opens in
      let o : (flat_of m2).opens ≡ remove_at i os = ap (λ (z : Flat). z.opens) b.flat in
      record {
        becomes = record {
          size = b.size ∙ d.becomes.size;
          room = b.room;
          flat = b.flat ∙ ap (λ (z : Flat). with_opens z (remove_at i os)) d.becomes.flat ∙ ap (with_opens (flat_of m)) (sym o);
        };
        left = ap (without tx) o ∙ ap (λ (j : ℕ). without tx (remove_at j os)) e ∙ without_found tx os (omega (arith, e, h)) ∙ d.left;
      }

  pub closed_end : length (flat_of m').opens ≤ find_open tx (flat_of m').opens → Becomes m m' (with_opens (flat_of m) (without tx (flat_of m).opens))
  closed_end h =
      record {
        size = d.becomes.size;
        room = d.becomes.room;
        flat = d.becomes.flat ∙ ap (with_opens (flat_of m)) (sym (without_none tx (flat_of m').opens h) ∙ d.left);
      }

-- ---- commit, abort

is_end : (keep : Bool) (tx : ℕ) (s : Store) → end_call keep tx s ≡ unless (not_open tx s) s (closing tx (closed_pages keep tx s.pages) s)
unfolding commit_call abort_call
is_end true tx s = refl
is_end false tx s = refl

closed_store : (f : Flat) (tx : ℕ) → store_of (with_opens f (without tx f.opens)) ≡ changed (store_of f) (store_of f).next (store_of f).pages (without tx (store_of f).active)
unfolding store_of changed
closed_store f tx = refl

after_with : (s : Store) (ps : List Page) (tx : ℕ) → let z = with_pages s ps in
    changed z z.next z.pages (without tx z.active) ≡ changed s s.next ps (without tx s.active)
unfolding with_pages changed
after_with s ps tx = refl

module _ (m : List ℕ) (tx : ℕ) (keep : Bool) where
  abbrev ended : Store → Outcome
  ended s = closing tx (closed_pages keep tx s.pages) s

  pub end_refused : (r : Refusal) → number r ≡ refusal_in (store_in m) (not_open tx) → Answers (end_call keep tx) m (Err r) m
  end_refused r e = answers_stopped m (not_open tx) r e (end_call keep tx) ended (is_end keep tx)

  module _ (ev : 0 ≡ refusal_in (store_in m) (not_open tx)) where
    call_is : end_call keep tx (store_of (flat_of m)) ≡ ended (store_of (flat_of m))
    call_is = call_after m (not_open tx) ev (end_call keep tx) ended (is_end keep tx) (open_numbered tx)

    -- but there is no room for the record
    pub end_29 : (room : Bool) → room ≡ false → Answers (with_room room (end_call keep tx)) m (Err LogFull) m
    end_29 room h = no_room_done room (end_call keep tx) m h (passed_held m (not_open tx) ev) _ call_is

    pub end_done : (m1 m2 : List ℕ) → HoldsNow m m1 (with_pages (store_of (flat_of m)) (closed_pages keep tx (pages_in (flat_of m))))
        → Becomes m1 m2 (with_opens (flat_of m1) (without tx (flat_of m1).opens)) → Answers (end_call keep tx) m (Ok Done) m2
    end_done m1 m2 u b =
        let s : Store = store_of (flat_of m) in
        let ps : List Page = closed_pages keep tx (pages_in (flat_of m)) in
        let d : Sound m1 (with_pages s ps) = in_sound m1 _ u.store in
        let k = opens_hold m1 m2 _ d.has_store b in
        let e = closed_store (flat_of m1) tx ∙ ap (λ (x : Store). changed x x.next x.pages (without tx x.active)) d.means ∙ after_with s ps tx in
        let p : closed_pages keep tx s.pages ≡ ps = ap (closed_pages keep tx) (store_pages (flat_of m)) in
        answers_done (end_call keep tx) m m2 _ (passed_held m (not_open tx) ev) call_is
        (record { size = k.size ∙ u.size; store = k.store ∙ ap some (e ∙ ap (λ (x : List Page). changed s s.next x (without tx s.active)) (sym p)) })

-- the rows are closed: the memory holds a store
pub closed_room : {m m1 : List ℕ} {s : Store} → HoldsNow m m1 s → Room m1
closed_room u = (in_sound _ _ u.store).room
