-- Counts by transaction, and the transactions that are opened at their last rows.
use Rattle.block_forms.specs.Limits.{transaction_limit}
use Rattle.image.specs.Stages.{capacity_limit}
use Rattle.basics.proofs.Kit.{◌≡◌, refl, sym, ap, ◌∙◌, subst, Bool, true, false, cond, List, [], ◌∷◌, ◌++◌, append_assoc, append-nil, map, ℕ, suc, ◌+◌, ◌≤◌, ◌<◌, add-one, eqb, length}
use Rattle.basics.proofs.Kit.{take, drop, get_or, set, length-append, length-take, take-append-drop, length-set, length-replicate, drop_of_length-le, length-map, replicate, get_or-replicate}
use Rattle.basics.proofs.Kit.{List·getD-map}
use Rattle.basics.proofs.Kit.{drop-cons, take_all, take-suc, get_or-set_same, get_or-set_other, eqb-true, eq-eqb, ne_eqb, eqb-false, ltb-true, ltb-false, arith}
use Rattle.basics.specs.Basics.{if'◌then◌else◌, any, how_many}
use Rattle.basics.proofs.Facts.{by}
use Rattle.block_forms.specs.Tuple.{Owner, committed, tentative, OwnerFits}
use Rattle.block_forms.specs.Bytes.{owner_is}
use Rattle.block_forms.specs.declared.Owner.{Owner as OwnerRead}
use Rattle.block_forms.specs.declared.Owner.TheVariants.{Committed, Tentative}
use Rattle.image_rows.specs.Rows.{Row, is_by, is_own, add_owner, transactions}
use Rattle.image_rows.proofs.Owners.{in_transactions}
use Rattle.model.specs.State.{Held, Active}
use Rattle.model.specs.Recover.{reopened}
use Rattle.basics.proofs.Elements.{all_at, many_append, many_length, any_many}
use Rattle.memory_layout.specs.Flat.{Flat, flat_of, no_row, row_in, Room, Becomes, with_opens}
use Rattle.memory_layout.proofs.Laws.{becomes_none, becomes_then}
use Rattle.call_recovery.specs.Reopening.{AllOwners, own_row, own_rows, Sized, Counts, noted, opened_by, opened}
use Rattle.call_recovery.proofs.Adding.{becomes_as}

-- ---- counts

pub counts_sized : {rs : List Row} {xs : List ℕ} → Counts rs xs → length rs ≤ capacity_limit → Sized xs
counts_sized {rs} {xs} k h = record { size = k.size; most = λ t l. omega (arith, k.each t l, many_length (is_own t) rs) }

own_one : (t : ℕ) (r : Row) (b : Bool) → is_own t r ≡ b → how_many (is_own t) (r ∷ []) ≡ cond b 1 0
unfolding how_many if'◌then◌else◌
own_one t r true h = rw h
own_one t r false h = rw h

own_more : (t : ℕ) (rs : List Row) (r : Row) {b : Bool} → is_own t r ≡ b → how_many (is_own t) (rs ++ r ∷ []) ≡ how_many (is_own t) rs + cond b 1 0
own_more t rs r {b} h = many_append (is_own t) rs (r ∷ []) ∙ ap (λ (k : ℕ). how_many (is_own t) rs + k) (own_one t r b h)

own_by : (t : ℕ) (r : Row) {o : Owner} → r.1.owner ≡ o → is_own t r ≡ is_by t o
unfolding is_own
own_by t r e = ap (is_by t) e

noted_counts : (o : Owner) (r : Row) {rs : List Row} {xs : List ℕ} → OwnerFits o → r.1.owner ≡ o → Counts rs xs → Counts (rs ++ r ∷ []) (noted o xs)
unfolding noted is_by
noted_counts committed r {rs} f e k = record { size = k.size; each = λ t l. omega (arith, k.each t l, own_more t rs r (own_by t r e)) }
noted_counts (tentative u s) r {rs} {xs} f e k =
    let v : ℕ = get_or xs u 0 + 1 in
    record {
      size = length-set xs u v ∙ k.size;
      each = λ t l.
          by (eqb u t)
          (λ h.
          let q : u ≡ t = eqb-true u t h in
          let a : get_or (set xs u v) t 0 ≡ v = ap (λ (z : ℕ). get_or (set xs u v) z 0) (sym q) ∙ get_or-set_same xs u v 0 (omega (arith, k.size)) in
          let b : get_or xs u 0 ≡ get_or xs t 0 = ap (λ (z : ℕ). get_or xs z 0) q in
          omega (arith, k.each t l, own_more t rs r (own_by t r e ∙ h)))
          (λ h.
          let a : get_or (set xs u v) t 0 ≡ get_or xs t 0 = get_or-set_other xs u t v 0 (λ z. eqb-false u t h (sym z)) in
          omega (arith, k.each t l, own_more t rs r (own_by t r e ∙ h)));
    }

-- an owner that is no transaction
pub is_settled : (o : OwnerRead) → ((t s : ℕ) → o ≡ Tentative t s → ⊥) → owner_is o ≡ committed
is_settled Committed n = refl
is_settled (Tentative t s) n = absurd (n t s refl)

pub no_counts : Counts [] (replicate transaction_limit 0)
unfolding how_many
no_counts = record { size = length-replicate {A = ℕ} transaction_limit 0; each = λ t h. get_or-replicate transaction_limit t 0 0 h }

-- ---- rows in turn

module _ (f : Flat) where
  pub own_length : length (own_rows f) ≡ length f.rows
  unfolding own_rows
  own_length = length-map f.rows own_row

  module _ (i : ℕ) (h : i < length f.rows) where
    own_next : take (i + 1) (own_rows f) ≡ take i (own_rows f) ++ own_row (row_in f i) ∷ []
    unfolding own_rows
    own_next =
        ap (λ (k : ℕ). take k (map own_row f.rows)) (add-one i)
        ∙ take-suc (map own_row f.rows) i (own_row no_row) (omega (arith, length-map f.rows own_row))
        ∙ ap (λ (r : Row). take i (map own_row f.rows) ++ r ∷ []) (List·getD-map own_row f.rows i no_row)

    own_iteration : drop i (own_rows f) ≡ own_row (row_in f i) ∷ drop (i + 1) (own_rows f)
    unfolding own_rows
    own_iteration =
        drop-cons (map own_row f.rows) i (own_row no_row) (omega (arith, length-map f.rows own_row))
        ∙ ap (λ (r : Row). r ∷ drop (suc i) (map own_row f.rows)) (List·getD-map own_row f.rows i no_row)
        ∙ ap (λ (k : ℕ). own_row (row_in f i) ∷ drop k (map own_row f.rows)) (sym (add-one i))

    -- the owner of row i is in its ranges
    pub owner_fits : {o : Owner} → AllOwners f.rows → o ≡ (row_in f i).tuple.owner → OwnerFits o
    owner_fits a e = subst OwnerFits (sym e) (all_at (λ (x : Held). OwnerFits x.tuple.owner) no_row f.rows i h a)

    -- one row more is counted
    pub counts_iteration : {o : Owner} {xs ys : List ℕ} → AllOwners f.rows → o ≡ (row_in f i).tuple.owner → Counts (take i (own_rows f)) xs → ys ≡ noted o xs
        → Counts (take (i + 1) (own_rows f)) ys
    counts_iteration {o} {xs} {ys} a e k q =
        let rs : List Row = take i (own_rows f) in
        let c = noted_counts o (own_row (row_in f i)) (owner_fits a e) (sym e) k in
        subst (λ (z : List Row). Counts z ys) (sym own_next) (subst (Counts (rs ++ own_row (row_in f i) ∷ [])) (sym q) c)

  pub counts_end : (i : ℕ) {xs : List ℕ} → length f.rows ≤ i → Counts (take i (own_rows f)) xs → Counts (own_rows f) xs
  counts_end i {xs} h k = subst (λ (z : List Row). Counts z xs) (take_all i (own_rows f) (omega (arith, own_length))) k

  -- counts of the first i rows are small
  pub counts_small : (i : ℕ) {xs : List ℕ} → length f.rows ≤ capacity_limit → Counts (take i (own_rows f)) xs → Sized xs
  counts_small i {xs} h k = counts_sized k (omega (arith, length-take i (own_rows f), own_length))

-- ---- what is opened at a row

-- once all are passed, none comes after
last_opened : (o : Owner) {all ps : List Row} (rs : List Row) {xs ys : List ℕ} → OwnerFits o → Counts all xs → Counts ps ys → all ≡ ps ++ rs → opened_by o xs ys ≡ opened all o rs
unfolding opened_by opened reopened if'◌then◌else◌
last_opened committed rs f a b e = refl
last_opened (tentative t s) {all} {ps} rs {xs} {ys} f a b e =
    let n : how_many (is_own t) all ≡ how_many (is_own t) ps + how_many (is_own t) rs = ap (how_many (is_own t)) e ∙ many_append (is_own t) ps rs in
    let x = a.each t f.0 in
    let y = b.each t f.0 in
    by (any (is_own t) rs)
    (λ h.
    let l : 0 < how_many (is_own t) rs = ltb-true 0 (how_many (is_own t) rs) (sym (any_many (is_own t) rs) ∙ h) in
    rw (h, ne_eqb (get_or ys t 0) (get_or xs t 0) (λ z. omega arith)))
    (λ h.
    let l : how_many (is_own t) rs ≤ 0 = ltb-false 0 (how_many (is_own t) rs) (sym (any_many (is_own t) rs) ∙ h) in
    rw (h, eq-eqb (get_or ys t 0) (get_or xs t 0) (omega arith)) (λ i. record { transaction = t; written = x i } ∷ []))

module _ {o : Owner} (t s : ℕ) (cs ps : List ℕ) (e : o ≡ tentative t s) where
  pub opened_other : (get_or ps t 0 ≡ get_or cs t 0 → ⊥) → opened_by o cs ps ≡ []
  unfolding opened_by if'◌then◌else◌
  opened_other h = ap (λ (x : Owner). opened_by x cs ps) e ∙ rw (ne_eqb (get_or ps t 0) (get_or cs t 0) h)

  pub opened_last : get_or ps t 0 ≡ get_or cs t 0 → opened_by o cs ps ≡ record { transaction = t; written = get_or cs t 0 } ∷ []
  unfolding opened_by if'◌then◌else◌
  opened_last h = ap (λ (x : Owner). opened_by x cs ps) e ∙ rw (eq-eqb (get_or ps t 0) (get_or cs t 0) h)

pub opened_settled : {o : Owner} (cs ps : List ℕ) → o ≡ committed → opened_by o cs ps ≡ []
unfolding opened_by
opened_settled cs ps e = ap (λ (x : Owner). opened_by x cs ps) e

-- nothing is opened
pub opens_none : {m : List ℕ} {xs : List Active} → Room m → xs ≡ [] → Becomes m m (with_opens (flat_of m) ((flat_of m).opens ++ xs))
opens_none {m} r e =
    becomes_as (sym (λ i. with_opens (flat_of m) ((ap (λ (z : List Active). (flat_of m).opens ++ z) e ∙ append-nil (flat_of m).opens) i))) (becomes_none m r)

-- one is
pub opens_one : {m m1 : List ℕ} {xs : List Active} {x : Active} → xs ≡ x ∷ [] → Becomes m m1 (with_opens (flat_of m) ((flat_of m).opens ++ x ∷ []))
    → Becomes m m1 (with_opens (flat_of m) ((flat_of m).opens ++ xs))
opens_one {m} e b = becomes_as (sym (λ i. with_opens (flat_of m) ((flat_of m).opens ++ e i))) b

-- one transaction more, if it is not there yet
words_by : (all rs : List Row) (o : Owner) → map (reopened all) (add_owner o (transactions rs)) ≡ opened all o rs ++ map (reopened all) (transactions rs)
unfolding add_owner opened if'◌then◌else◌
words_by all rs committed = refl
words_by all rs (tentative t s) = by (any (is_own t) rs) (λ h. rw (in_transactions t rs, h)) (λ h. rw (in_transactions t rs, h))

-- the open transactions of rows, of which there are all
abbrev words : List Row → List Row → List Active
words all rs = map (reopened all) (transactions rs)

words_next : (all : List Row) {rs l : List Row} {r : Row} → l ≡ r ∷ rs → words all l ≡ opened all r.1.owner rs ++ words all rs
unfolding transactions
words_next all {rs} {r = r} e = ap (words all) e ∙ words_by all rs r.1.owner

-- ---- all rows

-- the transactions whose last rows are among the first i are open
pub record Reopened (m m1 : List ℕ) (i : ℕ) : Type 0 where
  pub becomes : Becomes m m1 (with_opens (flat_of m) (flat_of m1).opens)
  pub rest : (flat_of m1).opens ++ words (own_rows (flat_of m)) (drop i (own_rows (flat_of m))) ≡ (flat_of m).opens ++ words (own_rows (flat_of m)) (own_rows (flat_of m))

pub reopened_start : (m : List ℕ) → Room m → Reopened m m 0
reopened_start m r = record { becomes = becomes_none m r; rest = refl }

pub same_rows : {m m1 : List ℕ} {i : ℕ} → Reopened m m1 i → length (flat_of m1).rows ≡ length (flat_of m).rows
same_rows a = ap (λ (f : Flat). length f.rows) a.becomes.flat

pub same_owner : {m m1 : List ℕ} {i : ℕ} {o : Owner} → Reopened m m1 i → o ≡ (row_in (flat_of m1) i).tuple.owner → o ≡ (row_in (flat_of m) i).tuple.owner
same_owner {i = i} a e = e ∙ ap (λ (f : Flat). (row_in f i).tuple.owner) a.becomes.flat

module _ {m m1 : List ℕ} {i : ℕ} {o : Owner} {cs ps : List ℕ} (a : Reopened m m1 i) (h : i < length (flat_of m).rows) (own : AllOwners (flat_of m).rows)
    (e : o ≡ (row_in (flat_of m) i).tuple.owner) (c : Counts (own_rows (flat_of m)) cs) (p : Counts (take (i + 1) (own_rows (flat_of m))) ps) where
  left : words (own_rows (flat_of m)) (drop i (own_rows (flat_of m))) ≡ opened_by o cs ps ++ words (own_rows (flat_of m)) (drop (i + 1) (own_rows (flat_of m)))
  left =
      let rs : List Row = own_rows (flat_of m) in
      let x : opened_by o cs ps ≡ opened rs o (drop (i + 1) rs) =
      last_opened o (drop (i + 1) rs) (owner_fits (flat_of m) i h own e) c p (sym (take-append-drop (i + 1) rs)) in
      words_next rs (own_iteration (flat_of m) i h)
      ∙ ap (λ (z : List Active). z ++ words rs (drop (i + 1) rs)) (ap (λ (y : Owner). opened rs y (drop (i + 1) rs)) (sym e) ∙ sym x)

  pub reopened_iteration : {m2 : List ℕ} → Becomes m1 m2 (with_opens (flat_of m1) ((flat_of m1).opens ++ opened_by o cs ps)) → Reopened m m2 (i + 1)
  reopened_iteration {m2} b =
      let xs : List Active = opened_by o cs ps in
      let ws : List Active = words (own_rows (flat_of m)) (drop (i + 1) (own_rows (flat_of m))) in
      let q : (flat_of m2).opens ≡ (flat_of m1).opens ++ xs = ap (λ (f : Flat). f.opens) b.flat in
      let O : Flat → Flat = λ f. with_opens f (f.opens ++ xs) in
      let d = becomes_then m m1 m2 (with_opens (flat_of m) (flat_of m1).opens) O a.becomes b in
      record {
        becomes = becomes_as (sym (λ k. with_opens (flat_of m) (q k))) d;
        rest = ap (λ (z : List Active). z ++ ws) q ∙ append_assoc (flat_of m1).opens xs ws ∙ ap (λ (z : List Active). (flat_of m1).opens ++ z) (sym left) ∙ a.rest;
      }

  -- and there is room
  pub reopened_room : length (flat_of m).opens + length (transactions (own_rows (flat_of m))) ≤ 64 → length (flat_of m1).opens + length (opened_by o cs ps) ≤ 64
  reopened_room r =
      let xs : List Active = opened_by o cs ps in
      let rs : List Row = own_rows (flat_of m) in
      let ws : List Active = words rs (drop (i + 1) rs) in
      let n1 = length-append (flat_of m1).opens (words rs (drop i rs)) in
      let n2 = ap length a.rest ∙ length-append (flat_of m).opens (words rs rs) in
      let n3 = ap length left ∙ length-append xs ws in
      let n4 = length-map (transactions rs) (reopened rs) in
      omega arith

pub reopened_end : {m m1 : List ℕ} {i : ℕ} → Reopened m m1 i → length (flat_of m).rows ≤ i
    → Becomes m m1 (with_opens (flat_of m) ((flat_of m).opens ++ words (own_rows (flat_of m)) (own_rows (flat_of m))))
unfolding transactions
reopened_end {m} {m1} {i} a h =
    let rs : List Row = own_rows (flat_of m) in
    let z : words rs (drop i rs) ≡ [] = ap (words rs) (drop_of_length-le rs {i = i} (omega (arith, own_length (flat_of m)))) in
    let e = sym (append-nil (flat_of m1).opens) ∙ ap (λ (x : List Active). (flat_of m1).opens ++ x) (sym z) ∙ a.rest in
    becomes_as (λ k. with_opens (flat_of m) (e k)) a.becomes
