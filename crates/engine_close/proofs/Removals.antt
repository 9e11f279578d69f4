-- The removal of chosen rows, one after another: what is left to do, in terms of the rows as they are now.
use Rattle.basics.proofs.Kit.{◌≡◌, refl, sym, ap, ◌∙◌, subst, ap₂, Bool, true, false, List, [], ◌∷◌, ◌++◌, ℕ, suc, ◌+◌, ◌≤◌, ◌<◌, zero, ◌-◌, add-one, length, take, drop, length-take}
use Rattle.basics.proofs.Kit.{length-drop, length-map, drop-drop, take-add, drop-cons, take_all, arith}
use Rattle.basics.specs.Basics.{if'◌then◌else◌, keep}
use Rattle.basics.proofs.Facts.{by}
use Rattle.image_rows.specs.Rows.{is_by, is_own}
use Rattle.model.specs.State.{Held, Page}
use Rattle.model.specs.Rules.{is_removing, applied}
use Rattle.model.specs.Sight.{held}
use Rattle.model.specs.Places.{PlaceOp, commit_place, remove_place, carry_out, remove_row, commit_row, tagged, placed, live_of, own_placed, remove_places, all_placed, abort_plan}
use Rattle.memory_rows.specs.Rows.{is_live_own}
use Rattle.engine_close.specs.Close.{is_live, row_from, is_own_row, NextOwn, entry_place, removed_live, aborted_from, Behind}
use Rattle.model.proofs.Rows.{held_plain, as_row}
use Rattle.model.proofs.Others.{others_stay, only_count, only_behind}
use Rattle.model.proofs.Carry.{carry_append}

pub held_length : (ps : List Page) → length (held ps) ≡ length (tagged ps)
held_length ps = ap length (held_plain ps) ∙ length-map (tagged ps) as_row

-- the place now of what was at a place at the start
place_now : (n i : ℕ) (ps : List Page) → entry_place n (tagged ps) i - (n - length (held ps)) ≡ i
place_now n i ps = omega (arith, held_length ps)

pub carry_commit : (n i : ℕ) (os : List PlaceOp) (ps : List Page)
    → carry_out n (commit_place (entry_place n (tagged ps) i) ∷ os) ps ≡ carry_out n os (commit_row i ps)
unfolding carry_out
carry_commit n i os ps = ap (λ z. carry_out n os (commit_row z ps)) (place_now n i ps)

pub carry_remove : (n i : ℕ) (os : List PlaceOp) (ps : List Page)
    → carry_out n (remove_place (entry_place n (tagged ps) i) ∷ os) ps ≡ carry_out n os (remove_row i ps)
unfolding carry_out
carry_remove n i os ps = ap (λ z. carry_out n os (remove_row z ps)) (place_now n i ps)

-- ---- one row removed: none or one is gone

module _ (j : ℕ) (ps : List Page) (h : j < length (tagged ps)) where
  pub removed_most : length (tagged (remove_row j ps)) ≤ length (tagged ps)
  removed_most = let o = (others_stay j ps).0 in omega (arith, only_count j (tagged ps) (tagged (remove_row j ps)) h o, o.few)

  pub removed_least : length (tagged ps) ≤ suc (length (tagged (remove_row j ps)))
  removed_least = let o = (others_stay j ps).0 in omega (arith, only_count j (tagged ps) (tagged (remove_row j ps)) h o)

module _ (j r : ℕ) (ps : List Page) (h : j < length (tagged ps)) (is : r + length (tagged ps) ≡ suc j + length (tagged (remove_row j ps))) where
  pub removed_behind : Behind (tagged ps) (tagged (remove_row j ps)) (suc j) r
  removed_behind =
      let o = (others_stay j ps).0 in
      let w : r ≡ j + length o.here = omega (arith, only_count j (tagged ps) (tagged (remove_row j ps)) h o) in
      record {
        low = omega (arith, o.few);
        most = omega arith;
        rows = ap (λ z. drop z (tagged (remove_row j ps))) w ∙ only_behind j (tagged ps) (tagged (remove_row j ps)) h o ∙ ap (λ z. drop z (tagged ps)) (add-one j);
      }

-- ---- what is behind

module _ {xs ys : List (ℕ × Held)} {e r : ℕ} (b : Behind xs ys e r) where
  behind_length : length ys - r ≡ length xs - e
  behind_length = sym (length-drop r ys) ∙ ap length b.rows ∙ length-drop e xs

  module _ (h : e ≤ length xs) where
    pub behind_fewer : length ys ≤ length xs
    behind_fewer = omega (arith, behind_length, b.low, b.most)

    -- the place at the start of what is behind
    pub behind_place : (n : ℕ) → length xs ≤ n → entry_place n ys r ≡ entry_place n xs e
    behind_place n l = omega (arith, behind_length, b.low, b.most)

    -- how many rows are left
    pub behind_left : length ys + e ≡ length xs + r
    behind_left = omega (arith, behind_length, b.low, b.most)

  pub behind_more : (k : ℕ) → e + k ≤ length xs → Behind xs ys (e + k) (r + k)
  behind_more k l =
      record {
        low = omega (arith, b.low);
        most = omega (arith, behind_length, b.low, b.most);
        rows = sym (drop-drop k r ys) ∙ ap (drop k) b.rows ∙ drop-drop k e xs;
      }

  pub behind_then : {zs : List (ℕ × Held)} {q : ℕ} → Behind ys zs r q → Behind xs zs e q
  behind_then w = record { low = omega (arith, w.low, b.low); most = w.most; rows = w.rows ∙ b.rows }

pub behind_at : {xs ys : List (ℕ × Held)} {e d r : ℕ} → e ≡ d → Behind xs ys e r → Behind xs ys d r
behind_at {xs} {ys} {e} {d} {r} q b = subst (λ z. Behind xs ys z r) q b

-- ---- chosen rows

module _ (f : Held → Bool) where
  -- the removals of those that pass, the first being at place i
  unfoldable pub picks : ℕ → List (ℕ × Held) → List PlaceOp
  picks i [] = []
  picks i (x ∷ xs) = if' f x.1 then remove_place i ∷ picks (suc i) xs else picks (suc i) xs

  picks_pass : (i : ℕ) (x : ℕ × Held) (xs : List (ℕ × Held)) → f x.1 ≡ false → picks i (x ∷ xs) ≡ picks (suc i) xs
  unfolding picks if'◌then◌else◌
  picks_pass i x xs e = rw e

  picks_hit : (i : ℕ) (x : ℕ × Held) (xs : List (ℕ × Held)) → f x.1 ≡ true → picks i (x ∷ xs) ≡ remove_place i ∷ picks (suc i) xs
  unfolding picks if'◌then◌else◌
  picks_hit i x xs e = rw e

  -- those of k rows from row j on that pass are removed
  unfoldable pub removing : ℕ → ℕ → ℕ → List Page → List Page
  removing n j k ps = carry_out n (picks (entry_place n (tagged ps) j) (take k (drop j (tagged ps)))) ps

  pub none_left : (n j : ℕ) (ps : List Page) → removing n j 0 ps ≡ ps
  unfolding removing picks carry_out
  none_left n j ps = refl

  module _ (n j k : ℕ) (ps : List Page) (h : j < length (tagged ps)) where
    first_of : take (suc k) (drop j (tagged ps)) ≡ row_from (tagged ps) j ∷ take k (drop (suc j) (tagged ps))
    first_of = ap (take (suc k)) (drop-cons (tagged ps) j _ h)

    pub pass_row : f (row_from (tagged ps) j).1 ≡ false → removing n j (suc k) ps ≡ removing n (suc j) k ps
    unfolding removing
    pass_row e =
        let z : suc (entry_place n (tagged ps) j) ≡ entry_place n (tagged ps) (suc j) = omega arith in
        ap (λ l. carry_out n (picks (entry_place n (tagged ps) j) l) ps) first_of
        ∙ ap (λ l. carry_out n l ps) (picks_pass (entry_place n (tagged ps) j) (row_from (tagged ps) j) (take k (drop (suc j) (tagged ps))) e)
        ∙ ap (λ l. carry_out n (picks l (take k (drop (suc j) (tagged ps)))) ps) z

    pub hit_row : (r : ℕ) → length (tagged ps) ≤ n → r + length (tagged ps) ≡ suc j + length (tagged (remove_row j ps))
        → f (row_from (tagged ps) j).1 ≡ true → removing n j (suc k) ps ≡ removing n r k (remove_row j ps)
    unfolding removing
    hit_row r m is e =
        let b = removed_behind j r ps h is in
        let z : suc (entry_place n (tagged ps) j) ≡ entry_place n (tagged (remove_row j ps)) r = omega (arith, removed_most j ps h) in
        ap (λ l. carry_out n (picks (entry_place n (tagged ps) j) l) ps) first_of
        ∙ ap (λ l. carry_out n l ps) (picks_hit (entry_place n (tagged ps) j) (row_from (tagged ps) j) (take k (drop (suc j) (tagged ps))) e)
        ∙ carry_remove n j (picks (suc (entry_place n (tagged ps) j)) (take k (drop (suc j) (tagged ps)))) ps
        ∙ ap₂ (λ l x. carry_out n (picks l (take k x)) (remove_row j ps)) z (sym b.rows)

  picks_append : (i : ℕ) (xs ys : List (ℕ × Held)) → picks i (xs ++ ys) ≡ picks i xs ++ picks (i + length xs) ys
  picks_append i [] ys = unfold picks in (let z : i ≡ i + 0 = omega arith in ap (λ k. picks k ys) z)
  picks_append i (x ∷ xs) ys =
      let z : suc i + length xs ≡ i + suc (length xs) = omega arith in
      let r = picks_append (suc i) xs ys ∙ ap (λ k. picks (suc i) xs ++ picks k ys) z in
      by (f x.1) (λ h. picks_hit i x (xs ++ ys) h ∙ ap (λ l. remove_place i ∷ l) r ∙ ap (λ l. l ++ picks (i + suc (length xs)) ys) (sym (picks_hit i x xs h)))
      (λ h. picks_pass i x (xs ++ ys) h ∙ r ∙ ap (λ l. l ++ picks (i + suc (length xs)) ys) (sym (picks_pass i x xs h)))

  -- first a rows, then b more
  pub removing_then : (n j a b r : ℕ) (ps qs : List Page) → length (tagged ps) ≤ n → j + a ≤ length (tagged ps) → removing n j a ps ≡ qs
      → Behind (tagged ps) (tagged qs) (j + a) r → removing n j (a + b) ps ≡ removing n r b qs
  unfolding removing
  removing_then n j a b r ps qs l h e w =
      let xs = tagged ps in
      let d = length-drop j xs in
      let m = length-take a (drop j xs) in
      let z : entry_place n xs j + length (take a (drop j xs)) ≡ entry_place n (tagged qs) r = omega (arith, behind_place w h n l) in
      ap (λ y. carry_out n (picks (entry_place n xs j) y) ps) (take-add a b (drop j xs))
      ∙ ap (λ y. carry_out n y ps) (picks_append (entry_place n xs j) (take a (drop j xs)) (take b (drop a (drop j xs))))
      ∙ carry_append n (picks (entry_place n xs j) (take a (drop j xs))) (picks (entry_place n xs j + length (take a (drop j xs))) (take b (drop a (drop j xs)))) ps
      ∙ ap₂ (λ y u. carry_out n (picks y (take b (drop a (drop j xs)))) u) z e
      ∙ ap (λ y. carry_out n (picks (entry_place n (tagged qs) r) (take b y)) qs) (drop-drop a j xs ∙ sym w.rows)

  -- d rows are passed over
  pub pass_rows : (n j d k : ℕ) (ps : List Page) → j + d ≤ length (tagged ps) → ((x : ℕ) → j ≤ x → x < j + d → f (row_from (tagged ps) x).1 ≡ false)
      → removing n j (d + k) ps ≡ removing n (j + d) k ps
  pass_rows n j zero k ps h e =
      let a : 0 + k ≡ k = omega arith in
      let b : j ≡ j + 0 = omega arith in
      ap₂ (λ x y. removing n x y ps) b a
  pass_rows n j (suc d) k ps h e =
      let a : suc d + k ≡ suc (d + k) = omega arith in
      let b : suc j + d ≡ j + suc d = omega arith in
      ap (λ y. removing n j y ps) a ∙ pass_row n j (d + k) ps (omega arith) (e j (omega arith) (omega arith))
      ∙ pass_rows n (suc j) d k ps (omega arith) (λ x l u. e x (omega arith) (omega arith)) ∙ ap (λ y. removing n y k ps) b

-- ---- live rows and own rows

pub live_picks : (i : ℕ) (xs : List (ℕ × Held)) → remove_places (live_of (placed i xs)) ≡ picks is_live i xs
unfolding remove_places live_of placed picks is_live if'◌then◌else◌
live_picks i [] = refl
live_picks i (x ∷ xs) =
    by (is_removing x.1.pending) (λ h. rw h (live_picks (suc i) xs)) (λ h. rw h (ap (λ z. remove_place i ∷ z) (live_picks (suc i) xs)))

pub own_picks : (tx i : ℕ) (xs : List (ℕ × Held)) → remove_places (keep (own_placed tx) (live_of (placed i xs))) ≡ picks (is_live_own tx) i xs
unfolding remove_places live_of placed keep own_placed is_own picks is_live_own if'◌then◌else◌
own_picks tx i [] = refl
own_picks tx i (x ∷ xs) =
    by (is_removing x.1.pending) (λ h. rw h (own_picks tx (suc i) xs))
    (λ h. by (is_by tx (applied x.1).owner) (λ b. rw (h, b) (ap (λ z. remove_place i ∷ z) (own_picks tx (suc i) xs))) (λ b. rw (h, b) (own_picks tx (suc i) xs)))

pub live_removing : (n i k : ℕ) (ps : List Page) → removed_live n i k ps ≡ removing is_live n i k ps
unfolding removed_live removing
live_removing n i k ps = ap (λ z. carry_out n z ps) (live_picks (entry_place n (tagged ps) i) (take k (drop i (tagged ps))))

-- an abort, from row i on
pub abort_removing : (n tx i : ℕ) (ps : List Page) → aborted_from tx n i ps ≡ removing (is_live_own tx) n i (length (tagged ps) - i) ps
unfolding aborted_from removing
abort_removing n tx i ps =
    let l = length-drop i (tagged ps) in
    ap (λ z. carry_out n z ps) (own_picks tx (entry_place n (tagged ps) i) (drop i (tagged ps)))
    ∙ ap (λ z. carry_out n (picks (is_live_own tx) (entry_place n (tagged ps) i) z) ps) (sym (take_all (length (tagged ps) - i) (drop i (tagged ps)) (omega arith)))

pub abort_starts : (tx : ℕ) (ps : List Page) → carry_out (length (held ps)) (abort_plan tx ps) ps ≡ aborted_from tx (length (held ps)) 0 ps
unfolding abort_plan all_placed aborted_from
abort_starts tx ps =
    let z : 0 ≡ entry_place (length (held ps)) (tagged ps) 0 = omega (arith, held_length ps) in
    ap (λ i. carry_out (length (held ps)) (remove_places (keep (own_placed tx) (live_of (placed i (tagged ps))))) ps) z

module _ (n tx : ℕ) (ps : List Page) where
  -- no row is left
  pub abort_ends : (i : ℕ) → length (tagged ps) ≤ i → aborted_from tx n i ps ≡ ps
  abort_ends i h =
      let z : length (tagged ps) - i ≡ 0 = omega arith in
      abort_removing n tx i ps ∙ ap (λ k. removing (is_live_own tx) n i k ps) z ∙ none_left (is_live_own tx) n i ps

  -- on to the next own row
  pub abort_next : {i r : ℕ} → NextOwn (tagged ps) tx i (length (tagged ps)) r → aborted_from tx n i ps ≡ aborted_from tx n r ps
  unfolding is_own_row
  abort_next {i} {r} o =
      let d = r - i in
      let a : length (tagged ps) - i ≡ d + (length (tagged ps) - r) = omega (arith, o.low, o.most) in
      let b : i + d ≡ r = omega (arith, o.low) in
      abort_removing n tx i ps ∙ ap (λ k. removing (is_live_own tx) n i k ps) a
      ∙ pass_rows (is_live_own tx) n i d (length (tagged ps) - r) ps (omega (arith, o.most)) (λ x l u. o.passed x l (omega arith))
      ∙ ap (λ j. removing (is_live_own tx) n j (length (tagged ps) - r) ps) b ∙ sym (abort_removing n tx r ps)

  -- it is removed
  pub abort_one : (i r : ℕ) → length (tagged ps) ≤ n → i < length (tagged ps) → is_own_row tx (tagged ps) i ≡ true
      → r + length (tagged ps) ≡ suc i + length (tagged (remove_row i ps)) → aborted_from tx n i ps ≡ aborted_from tx n r (remove_row i ps)
  unfolding is_own_row
  abort_one i r m h o is =
      let k = length (tagged ps) - suc i in
      let a : length (tagged ps) - i ≡ suc k = omega arith in
      let b : k ≡ length (tagged (remove_row i ps)) - r = omega (arith, removed_most i ps h) in
      abort_removing n tx i ps ∙ ap (λ z. removing (is_live_own tx) n i z ps) a ∙ hit_row (is_live_own tx) n i k ps h r m is o
      ∙ ap (λ z. removing (is_live_own tx) n r z (remove_row i ps)) b ∙ sym (abort_removing n tx r (remove_row i ps))
