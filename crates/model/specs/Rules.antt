-- The rules on pages: placing, splitting, joining, dropping, freezing and thawing.
use Rattle.std.specs.Prelude.{ℕ, zero, suc, ◌+◌, ◌-◌, ◌*◌, Bool, true, false, not, ◌&&◌, List, [], ◌∷◌, ◌++◌, map, length, take, drop, leb, ltb, eqb}
use Rattle.std.proofs.Math.Option
use Rattle.std.proofs.Math.Option.{Option, none, some}
use Rattle.basics.specs.Basics.{if'◌then◌else◌, any, is_empty, sum}
use Rattle.block_forms.specs.Limits.{record_space, join_sum}
use Rattle.block_forms.specs.Tuple.{Tuple, committed, size}
use Rattle.model.specs.State.{Pending, nothing, adding, committing, removing, Held, Page}

-- ---- sizes

-- a tuple's size, whatever is pending
unfoldable pub held_size : Held → ℕ
held_size h = size h.tuple

-- the tuples fit a block
unfoldable pub fits : List Held → Bool
fits hs = leb (sum held_size hs) record_space

-- ---- pages

-- a page made or changed: dirty and not frozen
unfoldable pub fresh : ℕ → List Held → Page
fresh t hs = record { table = t; block = 0; frozen = false; tuples = hs }

-- the page with other tuples, else as it was
unfoldable pub with_tuples : Page → List Held → Page
with_tuples p hs = record { table = p.table; block = p.block; frozen = p.frozen; tuples = hs }

-- ---- splitting

-- how many leading tuples: the shortest run whose doubled size reaches the whole w; a is the size of those passed
unfoldable pub lead : ℕ → ℕ → List Held → ℕ
lead w a [] = 0
lead w a (h ∷ hs) = if' leb w (2 * (a + held_size h)) then 1 else suc (lead w (a + held_size h) hs)

-- how many leading tuples the first part has
unfoldable pub half : List Held → ℕ
half hs = lead (sum held_size hs) 0 hs

-- tuples of more than 504 bytes are split in two
unfoldable pub split_once : List Held → List (List Held)
split_once hs = if' fits hs then hs ∷ [] else take (half hs) hs ∷ drop (half hs) hs ∷ []

-- each part that is still over 504 bytes is split again; the first number bounds how deep, and the number of tuples is enough
unfoldable pub split_deep : ℕ → List Held → List (List Held)
split_deep zero hs = hs ∷ []
split_deep (suc d) hs = elim (fits hs) [ true ↦ hs ∷ [] | false ↦ split_deep d (take (half hs) hs) ++ split_deep d (drop (half hs) hs) ]

-- split until every part fits
unfoldable pub split_all : List Held → List (List Held)
split_all hs = split_deep (length hs) hs

-- ---- placing

-- x after the last tuple whose key is not above its own, if there is one
unfoldable pub after : Held → List Held → Option (List Held)
after x [] = none
after x (y ∷ ys) =
    elim (after x ys) [ some zs ↦ some (y ∷ zs) | none ↦ if' leb y.tuple.key x.tuple.key then some (y ∷ x ∷ ys) else none ]

-- the page with one tuple more: a frozen page only takes it, another one changes and may be split
unfoldable pub grown : Page → List Held → List Page
grown p hs = if' p.frozen then with_tuples p hs ∷ [] else map (fresh p.table) (split_once hs)

-- the tuple as it stands on this page: a pending add where the page is frozen
unfoldable pub entering : Page → Tuple → Held
entering p x = record { tuple = x; pending = if' p.frozen then adding else nothing }

-- a tuple with nothing pending
unfoldable pub without_pending : Tuple → Held
without_pending x = record { tuple = x; pending = nothing }

-- after the last tuple of its table with key not above its own, on that tuple's page
unfoldable pub place_after : ℕ → Tuple → List Page → Option (List Page)
place_after t x [] = none
place_after t x (p ∷ ps) =
    elim (place_after t x ps) [
      | some qs ↦ some (p ∷ qs)
      | none ↦ if' eqb p.table t then Option.map (λ hs. grown p hs ++ ps) (after (entering p x) p.tuples) else none
    ]

-- else to the front of the first page; an empty table gets a new page
unfoldable pub place_front : ℕ → Tuple → List Page → List Page
place_front t x [] = fresh t (without_pending x ∷ []) ∷ []
place_front t x (p ∷ ps) =
    if' ltb p.table t then p ∷ place_front t x ps
    else if' eqb p.table t then grown p (entering p x ∷ p.tuples) ++ ps
    else fresh t (without_pending x ∷ []) ∷ p ∷ ps

-- a new tuple of table t
unfoldable pub place : ℕ → Tuple → List Page → List Page
place t x ps = elim (place_after t x ps) [ some qs ↦ qs | none ↦ place_front t x ps ]

-- ---- joining and dropping

-- two pages may be joined: of the same table, neither frozen, and their sizes sum to at most 336
unfoldable pub joins : Page → Page → Bool
joins p q =
    not p.frozen && (not q.frozen && (eqb p.table q.table && leb (sum held_size p.tuples + sum held_size q.tuples) join_sum))

-- the two as one page
unfoldable pub joined : Page → Page → Page
joined p q = fresh p.table (p.tuples ++ q.tuples)

-- the page before, if there is one
unfoldable pub list_of : Option Page → List Page
list_of none = []
list_of (some p) = p ∷ []

-- A changed page p between the one before it (`prev`, if there is one) and those after: dropped if it is empty, else joined
-- with its predecessor, else with its successor, else replaced by the pages of `rest`.
unfoldable pub settle_next : List Page → Page → List Page → List Page
settle_next rest p [] = rest
settle_next rest p (q ∷ qs) = if' joins p q then joined p q ∷ qs else rest ++ q ∷ qs

-- a page that is not empty
unfoldable pub settle_full : List Page → Option Page → Page → List Page → List Page
settle_full rest none p ps = settle_next rest p ps
settle_full rest (some o) p ps = if' joins o p then joined o p ∷ ps else o ∷ settle_next rest p ps

-- a page after a removal or at its thaw
unfoldable pub settle : List Page → Option Page → Page → List Page → List Page
settle rest prev p ps = if' is_empty p.tuples then list_of prev ++ ps else settle_full rest prev p ps

-- f on the first page that passes the test, with the page before it and those after
unfoldable pub around : (Page → Bool) → (Option Page → Page → List Page → List Page) → Option Page → List Page → List Page
around hit f prev [] = list_of prev
around hit f prev (p ∷ ps) = elim (hit p) [ true ↦ f prev p ps | false ↦ list_of prev ++ around hit f (some p) ps ]

-- ---- removing and committing a tuple, by its place among all tuples held

-- a pending add
unfoldable pub is_adding : Pending → Bool
is_adding nothing = false
is_adding adding = true
is_adding committing = false
is_adding removing = false

-- a pending remove
unfoldable pub is_removing : Pending → Bool
is_removing nothing = false
is_removing adding = false
is_removing committing = false
is_removing removing = true

-- a pending commit
unfoldable pub is_committing : Pending → Bool
is_committing nothing = false
is_committing adding = false
is_committing committing = true
is_committing removing = false

-- any pending operation
unfoldable pub is_pending : Pending → Bool
is_pending nothing = false
is_pending adding = true
is_pending committing = true
is_pending removing = true

-- the tuple with another pending operation
unfoldable pub with_pending : Pending → Held → Held
with_pending o h = record { tuple = h.tuple; pending = o }

-- the tuple, committed
unfoldable pub as_committed : Tuple → Tuple
as_committed x = record { key = x.key; number = x.number; owner = committed; mark = x.mark; payload = x.payload }

-- a tuple that is removed: nothing is left of it
unfoldable pub remove_now : Held → List Held
remove_now h = []

-- on a frozen page: a pending add is taken away, another becomes a pending remove, which replaces a pending commit
unfoldable pub pend_remove : Held → List Held
pend_remove h = if' is_adding h.pending then [] else with_pending removing h ∷ []

-- a tuple that is committed, whatever is pending
unfoldable pub commit_now : Held → List Held
commit_now h = record { tuple = as_committed h.tuple; pending = h.pending } ∷ []

-- on a frozen page: a pending add is committed, another becomes a pending commit; one pending removal is left alone
unfoldable pub pend_commit : Held → List Held
pend_commit h =
    if' is_adding h.pending then commit_now h
    else if' is_removing h.pending then h ∷ []
    else with_pending committing h ∷ []

-- the tuples with what g gives, none or one, in the place of tuple j
unfoldable pub edit_at : (Held → List Held) → ℕ → List Held → List Held
edit_at g j [] = []
edit_at g zero (h ∷ hs) = g h ++ hs
edit_at g (suc j) (h ∷ hs) = h ∷ edit_at g j hs

-- the tuples of a frozen page after the removal of tuple j. (The last one stays: a frozen page has a tuple of its begin, so that it never is a pending add.)
unfoldable pub pend_remove_at : ℕ → List Held → List Held
pend_remove_at j hs = if' is_empty (edit_at pend_remove j hs) then hs else edit_at pend_remove j hs

-- a frozen page notes the removal; another one changes directly, and is dropped or joined
unfoldable pub remove_row_on : ℕ → Option Page → Page → List Page → List Page
remove_row_on j prev p ps =
    if' p.frozen then list_of prev ++ with_tuples p (pend_remove_at j p.tuples) ∷ ps
    else (let q = fresh p.table (edit_at remove_now j p.tuples) in settle (q ∷ []) prev q ps)

-- a page with tuple j committed: at once, or as a frozen page notes it
unfoldable pub committed_at : ℕ → Page → Page
committed_at j p = if' p.frozen then with_tuples p (edit_at pend_commit j p.tuples) else fresh p.table (edit_at commit_now j p.tuples)

-- direct commit never joins
unfoldable pub commit_row_on : ℕ → Option Page → Page → List Page → List Page
commit_row_on j prev p ps = list_of prev ++ committed_at j p ∷ ps

-- f on the page that has row i of all tuples held, with the row's place on that page, the page before it and those after
unfoldable pub at_row : (ℕ → Option Page → Page → List Page → List Page) → ℕ → Option Page → List Page → List Page
at_row f i prev [] = list_of prev
at_row f i prev (p ∷ ps) =
    elim (ltb i (length p.tuples)) [
      | true ↦ f i prev p ps
      | false ↦ list_of prev ++ at_row f (i - length p.tuples) (some p) ps
    ]

-- row i is removed
unfoldable pub remove_row : ℕ → List Page → List Page
remove_row i ps = at_row remove_row_on i none ps

-- row i is committed
unfoldable pub commit_row : ℕ → List Page → List Page
commit_row i ps = at_row commit_row_on i none ps

-- ---- freezing and thawing

-- a dirty page: it has no block yet
unfoldable pub is_dirty : Page → Bool
is_dirty p = eqb p.block 0

-- begin freezes every dirty page
unfoldable pub freeze : Page → Page
freeze p = record { table = p.table; block = p.block; frozen = is_dirty p; tuples = p.tuples }

-- what the checkpoint stores of a page: not the pending adds, and the others as they were
unfoldable pub shown : List Held → List Tuple
shown [] = []
shown (h ∷ hs) = if' is_adding h.pending then shown hs else h.tuple ∷ shown hs

-- the tuple with its pending operation taken as done
unfoldable pub applied : Held → Tuple
applied h = if' is_committing h.pending then as_committed h.tuple else h.tuple

-- the tuples with pending operations taken as done: those pending removal are gone
unfoldable pub live : List Held → List Tuple
live [] = []
live (h ∷ hs) = if' is_removing h.pending then live hs else applied h ∷ live hs

-- a frozen page: begin has frozen it, and it is not stored yet
unfoldable pub is_frozen : Page → Bool
is_frozen p = p.frozen

-- the page, stored as block b, is thawed: its pending operations are applied, and if there were none, it is clean
unfoldable pub thaw_on : ℕ → Option Page → Page → List Page → List Page
thaw_on b prev p ps =
    if' any (λ h. is_pending h.pending) p.tuples
    then (let hs = map without_pending (live p.tuples) in settle (map (fresh p.table) (split_all hs)) prev (fresh p.table hs) ps)
    else list_of prev ++ record { table = p.table; block = b; frozen = false; tuples = p.tuples } ∷ ps

-- the first frozen page is thawed after its store as block b
unfoldable pub thaw : ℕ → List Page → List Page
thaw b ps = around is_frozen (thaw_on b) none ps

-- unfolds all definitions of this module: `unfolding rules`
unfoldable pub rules : ℕ
unfolding held_size fits fresh with_tuples lead half split_once split_deep split_all after grown entering without_pending place_after place_front place joins joined list_of settle_next settle_full settle around is_adding is_removing is_committing is_pending with_pending as_committed remove_now pend_remove commit_now pend_commit edit_at pend_remove_at remove_row_on committed_at commit_row_on at_row remove_row commit_row is_dirty freeze shown applied live is_frozen thaw_on thaw
rules = 0
