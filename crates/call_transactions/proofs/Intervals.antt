-- Crossing: what it answers, test by test, and the keys found as the reply's first bytes.
use Rattle.basics.proofs.Kit.{◌≡◌, sym, ap, ◌∙◌, true, List, [], ◌∷◌, ◌++◌, ℕ, ◌+◌, ◌*◌, ◌≤◌, ◌<◌, leb, ltb, length, take, drop, lt-ltb, le-ltb, le-leb, lt-leb, take-append_seam, length-append, arith}
use Rattle.model.specs.State.{Store, Outcome}
use Rattle.model.specs.Transactions.{gives, unless, replied, not_open, no_table}
use Rattle.model.specs.Crossing.{crossing_keys, no_interval, key_bytes, keys_reply, crossing_call}
use Rattle.memory_bytes.specs.Bytes.{bytes}
use Rattle.memory_layout.specs.Flat.{Flat, flat_of}
use Rattle.memory_layout.specs.Store.{holds_store, store_of, store_in, pages_in}
use Rattle.memory_layout.proofs.Laws.{in_some}
use Rattle.call_contracts.specs.Shape.{Answer, Replies, RepliesAt}
use Rattle.basics.proofs.Tabs.{tab_part}
use Rattle.engine_crossing.specs.Crossing.{KeysFound}
use Rattle.engine_crossing.proofs.Progress.{length_keys}
use Rattle.call_transactions.specs.Refusals.{refusal_in}
use Rattle.call_transactions.proofs.Refusing.{refused_here, passed_on, unless_none, unless_append, call_after, open_numbered}
use Rattle.model.specs.State as model

-- the keys that are found
abbrev pub keys_of : ℕ → ℕ → ℕ → ℕ → Flat → List ℕ
keys_of tx t first end f = crossing_keys tx t first end (pages_in f)

-- what crossing does once the transaction is known to be open
abbrev pub cross_after : ℕ → ℕ → ℕ → ℕ → ℕ → Store → Outcome
cross_after tx t first end room s = unless (no_table t ∷ no_interval first end ∷ []) s (keys_reply tx t first end room s)

pub cross_tests : (tx t first end room : ℕ) (s : Store) → crossing_call tx t first end room s ≡ unless (not_open tx s) s (cross_after tx t first end room s)
unfolding crossing_call
cross_tests tx t first end room s = unless_append (not_open tx s) _ s _

-- the transaction is open
pub cross_opened : (tx t first end room : ℕ) (m : List ℕ) → 0 ≡ refusal_in (store_in m) (not_open tx)
    → crossing_call tx t first end room (store_of (flat_of m)) ≡ cross_after tx t first end room (store_of (flat_of m))
cross_opened tx t first end room m e =
    call_after m (not_open tx) e (crossing_call tx t first end room) (cross_after tx t first end room) (cross_tests tx t first end room) (open_numbered tx)

module _ (tx t first end room : ℕ) (s : Store) where
  pub cross_10 : 7 < t → cross_after tx t first end room s ≡ gives (model.refused 10) s
  unfolding no_table
  cross_10 h = refused_here 10 (ltb 7 t) _ _ _ (lt-ltb 7 t h)

  module _ (h : t ≤ 7) where
    pub cross_25 : end ≤ first → cross_after tx t first end room s ≡ gives (model.refused 25) s
    unfolding no_table no_interval
    cross_25 l = passed_on 10 (ltb 7 t) _ _ _ (le-ltb 7 t h) ∙ refused_here 25 (leb end first) _ _ _ (le-leb end first l)

    pub cross_on : first < end → cross_after tx t first end room s ≡ keys_reply tx t first end room s
    unfolding no_table no_interval
    cross_on o = passed_on 10 (ltb 7 t) _ _ _ (le-ltb 7 t h) ∙ passed_on 25 (leb end first) _ _ _ (lt-leb end first o) ∙ unless_none _ _

-- a call that does on this store what another one does
pub replies_same : (call other : Store → Outcome) (m : List ℕ) (r : Answer) (p p' : List ℕ) → holds_store m ≡ true
    → call (store_of (flat_of m)) ≡ other (store_of (flat_of m)) → Replies other m r p p' → Replies call m r p p'
unfolding Replies RepliesAt
replies_same call other m r p p' h e k = let t = rw (in_some m h) at k in rw (in_some m h, e) t

-- ---- the reply

pub keys_reply_lem : (f : Flat) (tx t first end room : ℕ) {n : ℕ} → n ≡ length (keys_of tx t first end f)
    → keys_reply tx t first end room (store_of f) ≡ replied room n (key_bytes (keys_of tx t first end f)) (store_of f)
unfolding keys_reply store_of
keys_reply_lem f tx t first end room e = ap (λ k. replied room k (key_bytes (keys_of tx t first end f)) (store_of f)) (sym e)

-- ---- the keys copied

module _ {f : Flat} {tx t first end n : ℕ} {out out' : List ℕ} (k : KeysFound f tx t first end n out out') where
  pub keys_long : 4 * n ≡ length (key_bytes (keys_of tx t first end f))
  keys_long = ap (λ z. 4 * z) k.count ∙ sym (length_keys (keys_of tx t first end f))

  -- the first bytes of what was found are the keys
  first_keys : bytes out' 0 (4 * n) ≡ key_bytes (keys_of tx t first end f)
  unfolding bytes
  first_keys =
      let kb = key_bytes (keys_of tx t first end f) in
      let l : 0 + 4 * n ≤ length out' = omega (arith, ap length k.keys, length-append kb (drop (4 * n) out), keys_long) in
      tab_part out' 0 0 (4 * n) l ∙ ap (take (4 * n)) k.keys ∙ ap (λ z. take z (kb ++ drop (4 * n) out)) keys_long ∙ take-append_seam kb (drop (4 * n) out)

  pub keys_copied : (p p' : List ℕ) → p' ≡ bytes out' 0 (4 * n) ++ drop (4 * n) p
      → p' ≡ key_bytes (keys_of tx t first end f) ++ drop (length (key_bytes (keys_of tx t first end f))) p
  keys_copied p p' e = e ∙ ap (λ bs. bs ++ drop (4 * n) p) first_keys ∙ ap (λ z. key_bytes (keys_of tx t first end f) ++ drop z p) keys_long
