-- What a transaction call does: it is refused, only answers, opens, writes, commits or aborts. A proof about all of them has one case for each of these.
use Rattle.basics.proofs.Kit.{◌≡◌, refl, sym, subst, Bool, true, false, not, ◌||◌, some, none, Option, List, [], ◌∷◌, ◌++◌, ℕ, suc, ◌≤◌, ◌<◌, eqb, length, arith}
use Rattle.basics.specs.Basics.{if'◌then◌else◌, any, is_empty, is_some, is_in, first, last}
use Rattle.basics.proofs.Facts.{by, lie}
use Rattle.block_forms.specs.Limits.{payload_limit, most_number, most_transaction, transaction_limit}
use Rattle.image_rows.specs.Rows.{Row, open_limit}
use Rattle.model.specs.State.{Store, Write, Outcome, Answer, refused, done}
use Rattle.model.specs.Sight.{held, is_foreign, versions, seen_of, seen}
use Rattle.model.specs.Transactions.{unless, Test, gives, ◌when◌, open_numbers, with_open, open_call, not_open, no_table, too_long, full, argument_tests, key_test, key_tests, tuple_tests}
use Rattle.model.specs.Transactions.{write_tests, with_tuple, write_call, replied, read_seen, read_call, list_call, committed_pages, aborted_pages, closing, commit_call, abort_call}
use Rattle.model.specs.Checked.{insert_checked_call}
use Rattle.model.specs.Crossing.{keys_reply, crossing_call}
use Rattle.model.specs.Calls.{TransactionCall, opens, inserts, inserts_checked, replaces, deletes, commits, aborts, reads, lists, crossings, transact}
use Rattle.model.specs.Calls.{no_effect, start_of, write_of, commit_of, abort_of, effect, TypedTuple, TypedCall, accepted}
use Rattle.basics.proofs.Elements.{leb-false, not-false}

-- ---- refused or not

-- a property of the store after a call and the blocks written: none if it is refused
pub unless_out : (P : Store → List Write → Type 0) (ts : List Test) (s : Store) (o : Outcome) → P s [] → P o.store o.writes
    → P (unless ts s o).store (unless ts s o).writes
unfolding unless if'◌then◌else◌ gives
unless_out P [] s o p q = q
unless_out P ((n when b) ∷ ts) s o p q = by b (λ h. rw h p) (λ h. rw h (unless_out P ts s o p q))

abbrev pub Passed : List Test → Type 0
Passed [] = Unit {0}
Passed ((n when b) ∷ ts) = (b ≡ false) × Passed ts

-- a property of the store that an accepted call keeps: the tests passed
pub unless_keeps : (P : Store → Type 0) (ts : List Test) (s : Store) (o : Outcome) → P s → (Passed ts → P o.store) → P (unless ts s o).store
unfolding unless if'◌then◌else◌ gives
unless_keeps P [] s o v f = f tt
unless_keeps P ((n when b) ∷ ts) s o v f = by b (λ h. rw h v) (λ h. rw h (unless_keeps P ts s o v (λ p. f (h, p))))

-- a property of the outcome of an accepted call: its tests passed
pub unless_accepted : (P : Outcome → Type 0) (ts : List Test) (s : Store) (o : Outcome) → (Passed ts → accepted o.answer ≡ true → P o)
    → accepted (unless ts s o).answer ≡ true → P (unless ts s o)
unfolding unless if'◌then◌else◌ gives accepted
unless_accepted P [] s o f h = f tt h
unless_accepted P ((n when b) ∷ ts) s o f h =
    by b (λ k. lie (rw k at h))
    (λ k. subst (λ z. P (if' z then gives (refused n) s else unless ts s o)) (sym k) (unless_accepted P ts s o (λ p. f (k, p)) (rw k at h)))

-- a test that does not hold can be left out
pub unless_skip : (ts us : List Test) (n : ℕ) (b : Bool) (s : Store) (o : Outcome) → b ≡ false → unless (ts ++ (n when b) ∷ us) s o ≡ unless (ts ++ us) s o
unfolding unless if'◌then◌else◌
unless_skip [] us n b s o e = rw e
unless_skip ((i when c) ∷ ts) us n b s o e = by c (λ h. rw h) (λ h. rw h (unless_skip ts us n b s o e))

-- ---- the forms

-- what an accepted insert, replace or delete has shown of its arguments and of the store
pub record Accepts (c : TransactionCall) (tx t k : ℕ) (bs : List ℕ) (m : Bool) (s : Store) : Type 0 where
  pub low : tx ≤ most_transaction
  pub opened : is_in tx (open_numbers s.active) ≡ true
  pub table : t ≤ 7
  pub short : length bs ≤ payload_limit
  pub alone : any (is_foreign tx) (versions t k s.pages) ≡ false
  pub room : length (held s.pages) < s.capacity
  pub number : eqb s.next most_number ≡ false
  -- a mark is of a key that there is, and has no payload
  pub known : is_empty (versions t k s.pages) ≡ true → m ≡ false
  pub bare : (not m || is_empty bs) ≡ true
  pub typed : TypedCall c → TypedTuple k bs

pub data Does (c : TransactionCall) (s : Store) : Outcome → Type 0 where
  refuses : (n : ℕ) → Does c s (gives (refused n) s)
  answers : (a : Answer) → effect c ≡ no_effect → accepted a ≡ true → Does c s (gives a s)
  starts : (tx : ℕ) → effect c ≡ start_of tx → tx ≤ most_transaction → is_in tx (open_numbers s.active) ≡ false → length s.active < open_limit
      → Does c s (gives done (with_open tx s))
  writes : (tx t k : ℕ) (bs : List ℕ) (m : Bool) → effect c ≡ write_of tx → Accepts c tx t k bs m s → Does c s (with_tuple tx t k bs m s)
  finishes : (tx : ℕ) → effect c ≡ commit_of tx → Does c s (closing tx (committed_pages tx s.pages) s)
  undoes : (tx : ℕ) → effect c ≡ abort_of tx → Does c s (closing tx (aborted_pages tx s.pages) s)

-- ---- every call has one

does_unless : (c : TransactionCall) (s : Store) (ts : List Test) (o : Outcome) → (Passed ts → Does c s o) → Does c s (unless ts s o)
unfolding unless if'◌then◌else◌
does_unless c s [] o f = f tt
does_unless c s ((n when b) ∷ ts) o f = by b (λ h. rw h (refuses n)) (λ h. rw h (does_unless c s ts o (λ p. f (h, p))))

-- what is seen is a version
seen_some : (tx : ℕ) (vs : List Row) → is_some (seen_of tx vs) ≡ true → is_empty vs ≡ true → true ≡ false
unfolding seen_of is_some is_empty last first
seen_some tx [] h e = lie h
seen_some tx (r ∷ vs) h e = lie e

-- a write of a mark goes with a key that is not new and an empty payload
abbrev Marks : Bool → Bool → List ℕ → Type 0
Marks new true bs = (new ≡ false) × (is_empty bs ≡ true)
Marks new false bs = Unit {0}

module _ (c : TransactionCall) (s : Store) (tx t k : ℕ) (bs : List ℕ) (typed : TypedCall c → TypedTuple k bs) where
  marked : (new m : Bool) → Marks new m bs → Passed (tuple_tests new tx t k s) → (is_empty (versions t k s.pages) ≡ true → m ≡ false) × ((not m || is_empty bs) ≡ true)
  unfolding tuple_tests key_tests key_test seen
  marked new false q p = (λ e. refl, refl)
  marked true true q p = lie (sym q.0)
  marked false true q p = (seen_some tx (versions t k s.pages) (not-false _ p.1.0), q.1)

  key_passed : (new : Bool) → Passed (tuple_tests new tx t k s) → (any (is_foreign tx) (versions t k s.pages) ≡ false) × Passed (full s)
  unfolding tuple_tests key_tests key_test
  key_passed true p = (p.0, p.1.1)
  key_passed false p = (p.0, p.1.1)

  shown : (new m : Bool) → Marks new m bs → Passed (write_tests new tx t k (length bs) s) → Accepts c tx t k bs m s
  unfolding write_tests argument_tests not_open no_table too_long full
  shown new m q p =
      let r = key_passed new p.1.1.1.1 in
      let d = marked new m q p.1.1.1.1 in
      record {
        low = omega (arith, leb-false transaction_limit tx p.0);
        opened = not-false _ p.1.0;
        table = omega (arith, leb-false 8 t p.1.1.0);
        short = omega (arith, leb-false (suc payload_limit) (length bs) p.1.1.1.0);
        alone = r.0;
        room = leb-false s.capacity (length (held s.pages)) r.1.0;
        number = r.1.1.0;
        known = d.0;
        bare = d.1;
        typed = typed;
      }

  writing : (new m : Bool) → effect c ≡ write_of tx → Marks new m bs → Does c s (write_call new m tx t k bs s)
  unfolding write_call
  writing new m e q = does_unless c s _ _ (λ p. writes tx t k bs m e (shown new m q p))

replying : (c : TransactionCall) (s : Store) (room n : ℕ) (bs : List ℕ) → effect c ≡ no_effect → Does c s (replied room n bs s)
unfolding replied accepted
replying c s room n bs e = does_unless c s _ _ (λ p. answers _ e refl)

reading : (c : TransactionCall) (s : Store) (room : ℕ) (o : Option Row) → effect c ≡ no_effect → Does c s (read_seen room o s)
unfolding read_seen
reading c s room none e = refuses 14
reading c s room (some r) e = replying c s room _ _ e

pub does : (c : TransactionCall) (s : Store) → Does c s (transact c s)
unfolding transact open_call insert_checked_call commit_call abort_call read_call list_call keys_reply crossing_call effect is_empty
does (opens tx) s =
    does_unless _ s _ _ (λ p. starts tx refl (omega (arith, leb-false transaction_limit tx p.0)) p.1.0 (leb-false open_limit (length s.active) p.1.1.0))
does (inserts tx t k bs) s = writing (inserts tx t k bs) s tx t k bs (λ h. h) true false refl tt
does (inserts_checked tx t k bs hours) s = does_unless _ s _ _ (λ p. writing (inserts_checked tx t k bs hours) s tx t k bs (λ h. h) true false refl tt)
does (replaces tx t k bs) s = writing (replaces tx t k bs) s tx t k bs (λ h. h) false false refl tt
does (deletes tx t k) s = writing (deletes tx t k) s tx t k [] (λ h. h) false true refl (refl, refl)
does (commits tx) s = does_unless _ s _ _ (λ p. finishes tx refl)
does (aborts tx) s = does_unless _ s _ _ (λ p. undoes tx refl)
does (reads tx t k room) s = does_unless _ s _ _ (λ p. reading (reads tx t k room) s room (seen tx t k s) refl)
does (lists room) s = replying (lists room) s room _ _ refl
does (crossings tx t first end room) s = does_unless _ s _ _ (λ p. replying (crossings tx t first end room) s room _ _ refl)
