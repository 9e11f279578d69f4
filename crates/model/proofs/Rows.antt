-- The rows of the pages, held and live, as two images of one list of entries; and what each rule on pages does to them.
use Rattle.basics.proofs.Kit.{◌≡◌, refl, sym, ap, ◌∙◌, subst, ◌≢◌, Bool, true, false, some, none, Option, List, [], ◌∷◌, ◌++◌, append_assoc, append-nil, map, ℕ, ◌≤◌, ◌<◌, eqb, length, arith}
use Rattle.basics.specs.Basics.{if'◌then◌else◌, any}
use Rattle.basics.proofs.Facts.{by, AllOf}
use Rattle.block_forms.specs.Tuple.{Owner, committed, Tuple}
use Rattle.image_rows.specs.Rows.{Row, rows_of, number}
use Rattle.model.specs.State.{Held, Page}
use Rattle.model.specs.Rules.{is_removing, applied, live, fresh, joined, settle, list_of, as_committed, is_committing, around, without_pending, split_all}
use Rattle.model.specs.Rules.{thaw_on, thaw, is_pending, is_frozen, commit_now, remove_now, pend_remove, with_pending, is_adding, pend_commit, freeze}
use Rattle.model.specs.Sight.{rows, held}
use Rattle.model.specs.Transactions.{tagged}
use Rattle.basics.proofs.Elements.{eqb-true, nothing_left, has_some, Pairs, all_map}
use Rattle.basics.proofs.Kit.{zero, suc, length-map}
use Rattle.basics.proofs.Lists.{map_append}
use Rattle.basics.specs.Lists.{first_index}
use Rattle.model.proofs.Splits.{together, Small, split_all_lem}
use Rattle.model.proofs.ByNumber.{is_row, place_in}
use Rattle.model.proofs.Sound.{PageOk, small, live_without_pending}
use Rattle.model.proofs.Shown.{bare}
use Rattle.model.proofs.RuleCases.{settle_cases}

-- a tuple as it stands on its page, with its table
abbrev pub Entry : Type 0
Entry = ℕ × Held

-- the tuples of a page of table t; those of all pages are `tagged`
abbrev pub with_table : ℕ → List Held → List Entry
with_table t hs = map (λ h. (t, h)) hs

-- held: the tuples as they are
abbrev pub as_row : Entry → Row
as_row e = (e.0, e.1.tuple)

abbrev pub plain : List Entry → List Row
plain es = map as_row es

-- live: pending operations taken as done
unfoldable pub live_rows : List Entry → List Row
live_rows [] = []
live_rows (e ∷ es) = if' is_removing e.1.pending then live_rows es else (e.0, applied e.1) ∷ live_rows es

-- ---- appending

pub table_append : (t : ℕ) (a b : List Held) → with_table t (a ++ b) ≡ with_table t a ++ with_table t b
table_append t a b = map_append _ a b

pub table_length : (t : ℕ) (hs : List Held) → length (with_table t hs) ≡ length hs
table_length t hs = length-map hs _

pub tagged_append : (a b : List Page) → tagged (a ++ b) ≡ tagged a ++ tagged b
unfolding tagged
tagged_append [] b = refl
tagged_append (p ∷ a) b = rw (tagged_append a b, append_assoc)

pub live_append : (a b : List Entry) → live_rows (a ++ b) ≡ live_rows a ++ live_rows b
unfolding live_rows if'◌then◌else◌
live_append [] b = refl
live_append (r ∷ a) b = by (is_removing r.1.pending) (λ h. rw (h, live_append a b)) (λ h. rw (h, live_append a b))

pub plain_append : (a b : List Entry) → plain (a ++ b) ≡ plain a ++ plain b
plain_append a b = map_append as_row a b

plain_rows : (t : ℕ) (ts : List Held) → plain (with_table t ts) ≡ rows_of t (bare ts)
unfolding rows_of
plain_rows t [] = refl
plain_rows t (x ∷ xs) = rw (plain_rows t xs)

pub live_rows_lem : (t : ℕ) (ts : List Held) → live_rows (with_table t ts) ≡ rows_of t (live ts)
unfolding live_rows rows_of live if'◌then◌else◌
live_rows_lem t [] = refl
live_rows_lem t (x ∷ xs) = by (is_removing x.pending) (λ h. rw (h, live_rows_lem t xs)) (λ h. rw (h, live_rows_lem t xs))

pub held_plain : (ps : List Page) → held ps ≡ plain (tagged ps)
unfolding held tagged
held_plain [] = refl
held_plain (p ∷ ps) = rw (held_plain ps, plain_append (with_table p.table p.tuples), plain_rows p.table p.tuples)

pub rows_live : (ps : List Page) → rows ps ≡ live_rows (tagged ps)
unfolding rows tagged live_rows
rows_live [] = refl
rows_live (p ∷ ps) = rw (rows_live ps, live_append (with_table p.table p.tuples), live_rows_lem p.table p.tuples)

pub tagged_fresh : (t : ℕ) (tss : List (List Held)) → tagged (map (fresh t) tss) ≡ with_table t (together tss)
unfolding tagged together fresh
tagged_fresh t [] = refl
tagged_fresh t (ts ∷ tss) = rw (tagged_fresh t tss, table_append t ts (together tss))

-- ---- settling leaves the tagged

tagged_joined : (p q : Page) (ps : List Page) → p.table ≡ q.table → tagged (joined p q ∷ ps) ≡ tagged (p ∷ q ∷ ps)
unfolding tagged joined fresh
tagged_joined p q ps e = rw (← e, table_append p.table, append_assoc)

pub tagged_settle : (rest : List Page) (o : Option Page) (p : Page) (ps : List Page) → (0 < length p.tuples → tagged rest ≡ tagged (p ∷ []))
    → tagged (settle rest o p ps) ≡ tagged (list_of o ++ p ∷ ps)
unfolding list_of
tagged_settle rest o p ps r =
    settle_cases (λ z. tagged z ≡ tagged (list_of o ++ p ∷ ps)) rest o p ps
    (λ h. behind ps (p ∷ ps) (empty_page (nothing_left p.tuples h)))
    (λ h q e j. tagged_joined q p ps j.table ∙ ap (λ z. tagged (list_of z ++ p ∷ ps)) (sym e))
    (λ h q qs e j. behind (joined p q ∷ qs) (p ∷ ps) (tagged_joined p q qs j.table ∙ ap (λ z. tagged (p ∷ z)) (sym e)))
    (λ h. behind (rest ++ ps) (p ∷ ps) (tagged_append rest ps ∙ ap (λ z. z ++ tagged ps) (r (has_some p.tuples h)) ∙ sym (tagged_append (p ∷ []) ps)))
  where
    behind : (a b : List Page) → tagged a ≡ tagged b → tagged (list_of o ++ a) ≡ tagged (list_of o ++ b)
    behind a b e = tagged_append (list_of o) a ∙ ap (λ z. tagged (list_of o) ++ z) e ∙ sym (tagged_append (list_of o) b)

    empty_page : p.tuples ≡ [] → tagged ps ≡ tagged (p ∷ ps)
    empty_page e = unfold tagged in rw e

-- ---- a sublist, whose rows keep all but that they may be committed since

pub data Since : Owner → Owner → Type 0 where
  still : {o : Owner} → Since o o
  settled : {o : Owner} → Since committed o

since_trans : {a b c : Owner} → Since a b → Since b c → Since a c
since_trans still t = t
since_trans settled t = settled

abbrev pub Alike : Row → Row → Type 0
Alike a b = (a.0 ≡ b.0) × (a.1.key ≡ b.1.key) × (a.1.number ≡ b.1.number) × (a.1.payload ≡ b.1.payload) × Since a.1.owner b.1.owner

pub data Sub : List Row → List Row → Type 0 where
  empty : Sub [] []
  skip : {b : Row} {xs ys : List Row} → Sub xs ys → Sub xs (b ∷ ys)
  take : {a b : Row} {xs ys : List Row} → Alike a b → Sub xs ys → Sub (a ∷ xs) (b ∷ ys)

pub sub_refl : (rs : List Row) → Sub rs rs
sub_refl [] = empty
sub_refl (r ∷ rs) = take (refl, refl, refl, refl, still) (sub_refl rs)

sub_append : {xs ys zs ws : List Row} → Sub xs ys → Sub zs ws → Sub (xs ++ zs) (ys ++ ws)
sub_append empty t = t
sub_append (skip s) t = skip (sub_append s t)
sub_append (take e s) t = take e (sub_append s t)

pub sub_trans : {xs ys zs : List Row} → Sub xs ys → Sub ys zs → Sub xs zs
sub_trans s empty = s
sub_trans s (skip t) = skip (sub_trans s t)
sub_trans (skip s) (take e t) = skip (sub_trans s t)
sub_trans (take f s) (take e t) = take (f.0 ∙ e.0, f.1 ∙ e.1, f.2 ∙ e.2, f.3 ∙ e.3, since_trans f.4 e.4) (sub_trans s t)

pub sub_length : {xs ys : List Row} → Sub xs ys → length xs ≤ length ys
sub_length empty = omega arith
sub_length (skip s) = let k = sub_length s in omega arith
sub_length (take e s) = let k = sub_length s in omega arith

pub sub_all : (P Q : Row → Type 0) → ((a b : Row) → Alike a b → P b → Q a) → {xs ys : List Row} → Sub xs ys → AllOf P ys → AllOf Q xs
sub_all P Q f empty h = tt
sub_all P Q f (skip s) h = sub_all P Q f s h.1
sub_all P Q f (take {a} {b} e s) h = (f a b e h.0, sub_all P Q f s h.1)

pub sub_pairs : (R : Row → Row → Type 0) → ((a b c d : Row) → Alike a b → Alike c d → R b d → R a c) → {xs ys : List Row} → Sub xs ys → Pairs R ys
    → Pairs R xs
sub_pairs R f empty h = tt
sub_pairs R f (skip s) h = sub_pairs R f s h.1
sub_pairs R f (take {a} {b} e s) h =
    (sub_all (R b) (R a) (λ c d g r. f a b c d e g r) s h.0, sub_pairs R f s h.1)

-- the live rows among those held
pub live_sub : (es : List Entry) → Sub (live_rows es) (plain es)
unfolding live_rows if'◌then◌else◌ applied as_committed
live_sub [] = empty
live_sub (e ∷ es) = by (is_removing e.1.pending) (λ h. rw h (skip (live_sub es))) (λ h. rw h (take (go (is_committing e.1.pending) refl) (live_sub es)))
  where
    go : (b : Bool) → is_committing e.1.pending ≡ b → Alike (e.0, applied e.1) (as_row e)
    go true h = rw h (refl, refl, refl, refl, settled)
    go false h = rw h (refl, refl, refl, refl, still)

-- ---- thawing: the live rows stay

without_pending_plain : (t : ℕ) (xs : List Tuple) → (plain (with_table t (map without_pending xs)) ≡ rows_of t xs) × (live_rows (with_table t (map without_pending xs)) ≡ rows_of t xs)
unfolding live_rows rows_of without_pending if'◌then◌else◌ applied is_removing is_committing
without_pending_plain t [] = (refl, refl)
without_pending_plain t (x ∷ xs) = let r = without_pending_plain t xs in (rw r.0, rw r.1)

-- b became a: among b's rows, and the same live ones
abbrev Still : List Entry → List Entry → Type 0
Still a b = Sub (plain a) (plain b) × (live_rows a ≡ live_rows b)

still_append : (a b c d : List Entry) → Still a b → Still c d → Still (a ++ c) (b ++ d)
still_append a b c d s t = (
  rw (plain_append a c, plain_append b d) (sub_append s.0 t.0),
  live_append a c ∙ ap (λ z. z ++ live_rows c) s.1
      ∙ ap (λ z. live_rows b ++ z) t.1 ∙ sym (live_append b d),
)

still_refl : (a : List Entry) → Still a a
still_refl a = (sub_refl (plain a), refl)

tagged_parts : (t : ℕ) (ts : List Held) → AllOf Small ts → 0 < length ts → tagged (map (fresh t) (split_all ts)) ≡ tagged (fresh t ts ∷ [])
tagged_parts t ts s l = tagged_fresh t (split_all ts) ∙ ap (with_table t) (split_all_lem ts l s).1 ∙ (unfold tagged fresh in sym (append-nil (with_table t ts)))

still_mid : (o : Option Page) (p : Page) (ps : List Page) (X : List Entry) → Still X (with_table p.table p.tuples)
    → Still (tagged (list_of o) ++ (X ++ tagged ps)) (tagged (list_of o ++ p ∷ ps))
unfolding tagged
still_mid o p ps X s = rw (tagged_append (list_of o) (p ∷ ps))
    (still_append (tagged (list_of o)) (tagged (list_of o)) _ _ (still_refl (tagged (list_of o)))
    (still_append X (with_table p.table p.tuples) (tagged ps) (tagged ps) s (still_refl (tagged ps))))

still_applied : (t : ℕ) (ts : List Held) → Still (with_table t (map without_pending (live ts))) (with_table t ts)
still_applied t ts =
    let c = without_pending_plain t (live ts) in
    (subst (λ z. Sub z (plain (with_table t ts))) (live_rows_lem t ts ∙ sym c.0) (live_sub (with_table t ts)), c.1 ∙ sym (live_rows_lem t ts))

pub tagged_page : (o : Option Page) (p : Page) (ps : List Page)
    → tagged (list_of o ++ p ∷ ps) ≡ tagged (list_of o) ++ (with_table p.table p.tuples ++ tagged ps)
unfolding tagged
tagged_page o p ps = tagged_append (list_of o) (p ∷ ps)

still_thaw_on : (b : ℕ) (o : Option Page) (p : Page) (ps : List Page) → PageOk p → Still (tagged (thaw_on b o p ps)) (tagged (list_of o ++ p ∷ ps))
unfolding thaw_on if'◌then◌else◌ fresh
still_thaw_on b o p ps ok =
    let ts = map without_pending (live p.tuples) in
    let q = fresh p.table ts in
    by (any (λ x. is_pending x.pending) p.tuples)
    (λ h. rw (
      h,
      tagged_settle (map (fresh p.table) (split_all ts)) o q ps
          (tagged_parts p.table ts (small ts (live_without_pending p.tuples ok.0))),
      tagged_page o q ps,
    )
    (still_mid o p ps (with_table p.table ts) (still_applied p.table p.tuples)))
    (λ h. rw (h, tagged_page o (record { table = p.table; block = b; frozen = false; tuples = p.tuples }) ps)
    (still_mid o p ps (with_table p.table p.tuples) (still_refl (with_table p.table p.tuples))))

still_around : (b : ℕ) (o : Option Page) (ps : List Page) → AllOf PageOk ps → Still (tagged (around is_frozen (thaw_on b) o ps)) (tagged (list_of o ++ ps))
unfolding around list_of
still_around b o [] k = rw (append-nil (list_of o)) (still_refl (tagged (list_of o)))
still_around b o (p ∷ ps) k =
    by (is_frozen p) (λ e. rw (e, around) (still_thaw_on b o p ps k.0))
    (λ e. let c = tagged (list_of o) in
    rw (e, around, tagged_append (list_of o), tagged_append (list_of o)) (still_append c c _ _ (still_refl c) (still_around b (some p) ps k.1)))

-- a step of the checkpoint changes nothing that a transaction sees
still_thaw : (b : ℕ) (ps : List Page) → AllOf PageOk ps → Still (tagged (thaw b ps)) (tagged ps)
unfolding thaw list_of
still_thaw b ps a = still_around b none ps a

-- ---- removing and committing: the live row of that number is taken away, or committed

unfoldable pub amend : (Row → List Row) → ℕ → List Row → List Row
amend G n [] = []
amend G n (r ∷ rs) = if' is_row n r then G r ++ amend G n rs else r ∷ amend G n rs

unfoldable pub away : Row → List Row
away r = []

unfoldable pub kept_row : Row → List Row
kept_row r = (r.0, as_committed r.1) ∷ []

abbrev pub Differ : Row → Row → Type 0
Differ a b = a.1.number ≢ b.1.number

-- the tagged of two rows that differ
abbrev pub Apart : Entry → Entry → Type 0
Apart a b = Differ (as_row a) (as_row b)

-- the tuple of number n
unfoldable is_number : ℕ → Held → Bool
is_number n h = eqb h.tuple.number n

-- a live row is its tuple but for the owner
pub applied_is : (h : Held) → applied h ≡ record { key = h.tuple.key; number = h.tuple.number; owner = (applied h).owner; mark = h.tuple.mark; payload = h.tuple.payload }
unfolding applied as_committed if'◌then◌else◌
applied_is h = by (is_committing h.pending) (λ k. rw k) (λ k. rw k)

applied_number : (n t : ℕ) (x : Held) → is_row n (t, applied x) ≡ is_number n x
unfolding is_row number is_number
applied_number n t x = ap (λ (z : Tuple). eqb z.number n) (applied_is x)

-- rows without that number stay
amend_off : (G : Row → List Row) (n : ℕ) (rs : List Entry) → AllOf (λ r. is_number n r.1 ≡ false) rs → amend G n (live_rows rs) ≡ live_rows rs
unfolding amend live_rows if'◌then◌else◌
amend_off G n [] h = refl
amend_off G n (r ∷ rs) h =
    by (is_removing r.1.pending) (λ k. rw k (amend_off G n rs h.1))
    (λ k. rw (k, applied_number n r.0 r.1, h.0, amend_off G n rs h.1))

differ_off : (n : ℕ) (r : Entry) (rs : List Entry) → is_number n r.1 ≡ true → AllOf (Apart r) rs → AllOf (λ s. is_number n s.1 ≡ false) rs
unfolding is_number
differ_off n r rs h a = all_map _ _ (λ s d. by (eqb s.1.tuple.number n) (λ k. absurd (d (eqb-true _ n h ∙ sym (eqb-true _ n k)))) (λ k. k)) rs a

-- what is done to a tuple on its page, g, and what that does to its live row, G
pub record Edits (g : Held → List Held) (G : Row → List Row) : Type 0 where
  dead : (t : ℕ) (x : Held) → is_removing x.pending ≡ true → live_rows (with_table t (g x)) ≡ []
  alive : (t : ℕ) (x : Held) → is_removing x.pending ≡ false → live_rows (with_table t (g x)) ≡ G (t, applied x)
  among : (t : ℕ) (x : Held) → Sub (plain (with_table t (g x))) (as_row (t, x) ∷ [])

-- g on the tuple at place i of all
unfoldable pub edit_entry : (Held → List Held) → ℕ → List Entry → List Entry
edit_entry g i [] = []
edit_entry g zero (e ∷ es) = with_table e.0 (g e.1) ++ es
edit_entry g (suc i) (e ∷ es) = e ∷ edit_entry g i es

abbrev pub number_of : Entry → ℕ
number_of e = e.1.tuple.number

-- what an operation on the tuple of number n does to the rows
abbrev pub Amends : (Row → List Row) → ℕ → List Entry → List Entry → Type 0
Amends G n a b = Sub (plain a) (plain b) × (Pairs Apart b → live_rows a ≡ amend G n (live_rows b))

module _ (g : Held → List Held) (G : Row → List Row) (E : Edits g G) where
  edit_sub : (i : ℕ) (es : List Entry) → Sub (plain (edit_entry g i es)) (plain es)
  unfolding edit_entry
  edit_sub i [] = empty
  edit_sub zero (e ∷ es) = rw (plain_append (with_table e.0 (g e.1)) es) (sub_append (E.among e.0 e.1) (sub_refl (plain es)))
  edit_sub (suc i) (e ∷ es) = take (refl, refl, refl, refl, still) (edit_sub i es)

  edit_live : (n : ℕ) (es : List Entry) → Pairs Apart es → live_rows (edit_entry g (place_in n (map number_of es)) es) ≡ amend G n (live_rows es)
  unfolding edit_entry first_index live_rows amend is_number if'◌then◌else◌
  edit_live n [] d = refl
  edit_live n (e ∷ es) d =
      by (eqb (number_of e) n)
      (λ h. let off = amend_off G n es (differ_off n e es h d.0) in
      by (is_removing e.1.pending) (λ k. rw (h, k, off, live_append (with_table e.0 (g e.1)) es, E.dead e.0 e.1 k))
      (λ k. rw (h, k, applied_number n e.0 e.1, h, off, live_append (with_table e.0 (g e.1)) es, E.alive e.0 e.1 k)))
      (λ h. let r = edit_live n es d.1 in
      by (is_removing e.1.pending) (λ k. rw (h, k) r) (λ k. rw (h, k, applied_number n e.0 e.1, h) (ap (λ z. (e.0, applied e.1) ∷ z) r)))

  pub edit_amends : (n : ℕ) (es : List Entry) → Amends G n (edit_entry g (place_in n (map number_of es)) es) es
  edit_amends n es = (edit_sub (place_in n (map number_of es)) es, edit_live n es)

pub all_table : (P : Entry → Type 0) (Q : Held → Type 0) (t : ℕ) → ((x : Held) → Q x → P (t, x)) → (ts : List Held) → AllOf Q ts
    → AllOf P (with_table t ts)
all_table P Q t f [] a = tt
all_table P Q t f (x ∷ xs) a = (f x a.0, all_table P Q t f xs a.1)

pub removed_edits : Edits remove_now away
unfolding remove_now away live_rows
removed_edits = record { dead = λ t x h. refl; alive = λ t x h. refl; among = λ t x. skip empty }

pub pend_remove_edits : Edits pend_remove away
unfolding pend_remove away live_rows if'◌then◌else◌ with_pending is_removing
pend_remove_edits = record {
  dead = λ t x h. by (is_adding x.pending) (λ k. rw k) (λ k. rw k);
  alive = λ t x h. by (is_adding x.pending) (λ k. rw k) (λ k. rw k);
  among = λ t x. by (is_adding x.pending) (λ k. rw k (skip empty)) (λ k. rw k (take (refl, refl, refl, refl, still) empty));
}

pub kept_edits : Edits commit_now kept_row
unfolding commit_now kept_row live_rows if'◌then◌else◌ as_committed applied with_pending
kept_edits = record {
  dead = λ t x h. rw h;
  alive = λ t x h. by (is_committing x.pending) (λ k. rw (h, k)) (λ k. rw (h, k));
  among = λ t x. take (refl, refl, refl, refl, settled) empty;
}

pub pend_commit_edits : Edits pend_commit kept_row
unfolding pend_commit commit_now kept_row live_rows if'◌then◌else◌ as_committed applied with_pending is_removing is_committing
pend_commit_edits = record {
  dead = λ t x h. by (is_adding x.pending) (λ k. rw (k, h)) (λ k. rw (k, h, h));
  alive = λ t x h. by (is_adding x.pending) (λ k. by (is_committing x.pending) (λ m. rw (k, h, m)) (λ m. rw (k, h, m)))
      (λ k. by (is_committing x.pending) (λ m. rw (k, h, m)) (λ m. rw (k, h, m)));
  among = λ t x. by (is_adding x.pending) (λ k. rw k (take (refl, refl, refl, refl, settled) empty))
      (λ k. by (is_removing x.pending) (λ m. rw (k, m) (take (refl, refl, refl, refl, still) empty)) (λ m. rw (k, m) (take (refl, refl, refl, refl, still) empty)));
}

-- ---- freezing and thawing change no row

pub held_freeze : (ps : List Page) → held (map freeze ps) ≡ held ps
unfolding held freeze
held_freeze [] = refl
held_freeze (p ∷ ps) = rw (held_freeze ps)

pub rows_freeze : (ps : List Page) → rows (map freeze ps) ≡ rows ps
unfolding rows freeze
rows_freeze [] = refl
rows_freeze (p ∷ ps) = rw (rows_freeze ps)

pub thaw_rows : (b : ℕ) (ps : List Page) → AllOf PageOk ps → Sub (held (thaw b ps)) (held ps) × (rows (thaw b ps) ≡ rows ps)
thaw_rows b ps a =
    let r = still_thaw b ps a in
    (rw (held_plain ps, held_plain (thaw b ps)) r.0, rows_live (thaw b ps) ∙ r.1 ∙ sym (rows_live ps))

-- ---- pairs of rows and of tagged

pub pairs_plain : (R : Row → Row → Type 0) (es : List Entry) → Pairs R (plain es) → Pairs (λ a b. R (as_row a) (as_row b)) es
pairs_plain R [] p = tt
pairs_plain R (e ∷ es) p = (go es p.0, pairs_plain R es p.1)
  where
    go : (fs : List Entry) → AllOf (R (as_row e)) (plain fs) → AllOf (λ b. R (as_row e) (as_row b)) fs
    go [] a = tt
    go (f ∷ fs) a = (a.0, go fs a.1)
