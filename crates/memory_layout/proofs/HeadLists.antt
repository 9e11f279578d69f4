-- Each change of a list in the head, or of the directory entries, from the bytes written.
use Rattle.image_rows.specs.Rows.{open_limit}
use Rattle.block_forms.specs.Limits.{block_limit, statement_limit}
use Rattle.basics.proofs.Kit.{◌≡◌, refl, sym, ap, ◌∙◌, Bool, true, false, not, List, [], ◌∷◌, ◌++◌, ℕ, suc, ◌+◌, ◌*◌, ◌%◌, ◌≤◌, ◌<◌, ◌/◌, ◌-◌, eqb, length, get_or, set, eq-eqb}
use Rattle.basics.proofs.Kit.{ne_eqb, arith}
use Rattle.basics.specs.Basics.{one_if}
use Rattle.memory_bytes.specs.Bytes.{le2, le4, bytes2, bytes4, Apart, Wrote, Lowered}
use Rattle.basics.specs.Lists.{tab, remove_at, first_index}
use Rattle.basics.proofs.Tabs.{tab_set, tab_remove, tab_at}
use Rattle.basics.proofs.Searches.{tab_next, tab_none}
use Rattle.memory_bytes.proofs.Bytes.{le2_below, le2_above, le4_below, le4_above, le2_wrote, le4_wrote, le4_lowered}
use Rattle.model.specs.Transactions.{is_for}
use Rattle.memory_layout.specs.Views.{head_of, open_at, directory_at, named_block, directory_count, named_count, open_count}
use Rattle.memory_layout.specs.Flat.{flat_of, capacity_of, opens_of, named_of, directories_of, Room, Replaces, Becomes, with_head, with_opens, with_named, with_directories, no_open}
use Rattle.memory_layout.specs.Opens.{active_of, OpenFits, find_open}
use Rattle.memory_layout.specs.declared.Head.{Head}
use Rattle.memory_layout.specs.declared.Open.{Open}
use Rattle.memory_layout.proofs.Laws.{Known, known, opens_length, named_length, directories_length}
use Rattle.memory_layout.proofs.Changes.{same_below, same_above, apart_then, becomes_head, becomes_opens, becomes_named, becomes_directories}
use Rattle.basics.proofs.Tabs.{tab_push}
use Rattle.basics.proofs.Facts.{one_most}
use Rattle.basics.proofs.Firsts.{index_hit, index_pass}
use Rattle.memory_layout.specs.Places.{directories_at, named_at, opens_at}

-- a truth value as a number
one_back : (b : Bool) → not (eqb (one_if b) 0) ≡ b
one_back true = refl
one_back false = refl

-- ---- the head

-- seven numbers written one after the other; x: the running checkpoint as a number
module _ {m m1 m2 m3 m4 m5 m6 m7 : List ℕ} {x : ℕ} (h : Head) (room : Room m) (rep : Replaces (head_of m) h) (lb : h.level < 4294967296) (nb : h.next < 4294967296)
    (bb : h.begun < 4294967296) (one : x ≡ one_if h.running) where
  pub head_put : Wrote m m1 4 (bytes4 h.capacity) → Wrote m1 m2 8 (bytes4 h.blocks) → Wrote m2 m3 12 (bytes4 h.level) → Wrote m3 m4 16 (bytes4 h.next)
      → Wrote m4 m5 20 (bytes4 x) → Wrote m5 m6 24 (bytes4 h.begun) → Wrote m6 m7 28 (bytes4 h.taken) → Becomes m m7 (with_head (flat_of m) h)
  unfolding head_of
  head_put w1 w2 w3 w4 w5 w6 w7 =
      let k : Known m = known m room in
      let a4 : Apart m m4 4 16 = apart_then 4 (apart_then 4 (apart_then 4 w1.apart w2.apart) w3.apart) w4.apart in
      let a7 : Apart m m7 4 28 = apart_then 4 (apart_then 4 (apart_then 4 a4 w5.apart) w6.apart) w7.apart in
      let k2 = le4_below w2.apart in
      let k3 = le4_below w3.apart in
      let k4 = le4_below w4.apart in
      let k5 = le4_below w5.apart in
      let k6 = le4_below w6.apart in
      let k7 = le4_below w7.apart in
      let above5 : (b : ℕ) → b + 4 ≤ 20 → le4 m7 b ≡ le4 m4 b = λ b l. k7 b (omega arith) ∙ k6 b (omega arith) ∙ k5 b (omega arith) in
      let f1 : capacity_of m7 ≡ h.capacity =
      above5 4 (omega arith) ∙ k4 4 (omega arith) ∙ k3 4 (omega arith) ∙ k2 4 (omega arith) ∙ le4_wrote _ (omega (arith, rep.capacity)) w1 in
      let f2 : le4 m7 8 ≡ h.blocks = above5 8 (omega arith) ∙ k4 8 (omega arith) ∙ k3 8 (omega arith) ∙ le4_wrote _ (omega (arith, rep.many)) w2 in
      let f3 : le4 m7 12 ≡ h.level = above5 12 (omega arith) ∙ k4 12 (omega arith) ∙ le4_wrote _ lb w3 in
      let f4 : le4 m7 16 ≡ h.next = above5 16 (omega arith) ∙ le4_wrote _ nb w4 in
      let f5 : le4 m7 20 ≡ one_if h.running = k7 20 (omega arith) ∙ k6 20 (omega arith) ∙ le4_wrote x (omega (arith, one_most h.running)) w5 ∙ one in
      let f6 : le4 m7 24 ≡ h.begun = k7 24 (omega arith) ∙ le4_wrote _ bb w6 in
      let f7 : le4 m7 28 ≡ h.taken = le4_wrote _ (omega (arith, rep.many, rep.taken)) w7 in
      let running : not (eqb (le4 m7 20) 0) ≡ h.running = ap (λ (z : ℕ). not (eqb z 0)) f5 ∙ one_back h.running in
      becomes_head m m7 room a7.size (same_below 0 4 a7 (omega arith)) (λ b p. a7.above b p) rep
      (λ i. record { capacity = f1 i; blocks = f2 i; level = f3 i; next = f4 i; running = running i; begun = f6 i; taken = f7 i })

-- ---- open transactions

open_by : (m m' : List ℕ) (i j : ℕ) → le4 m' (opens_at + j * 4) ≡ le4 m (opens_at + i * 4) → open_at m' j ≡ open_at m i
unfolding open_at
open_by m m' i j e = ap (λ (w : ℕ). record { transaction = w / statement_limit; written = w % statement_limit }) e

pub open_new : (m : List ℕ) (i : ℕ) (o : Open) → OpenFits o → le4 m (opens_at + i * 4) ≡ o.transaction * statement_limit + o.written → open_at m i ≡ active_of o
unfolding open_at
open_new m i o f e =
    let w : o.written < statement_limit = f.written in
    let a : le4 m (opens_at + i * 4) / statement_limit ≡ o.transaction = omega arith in
    let b : le4 m (opens_at + i * 4) % statement_limit ≡ o.written = omega arith in
    λ x. record { transaction = a x; written = b x }

word_small : (o : Open) → OpenFits o → o.transaction * statement_limit + o.written < 4294967296
word_small o f = omega (arith, f.transaction, f.written)

pub open_at_lem : (m : List ℕ) (i x : ℕ) → Room m → i < length (opens_of m) → x ≡ le4 m (opens_at + i * 4)
    → active_of (record { transaction = x / statement_limit; written = x % statement_limit }) ≡ get_or (opens_of m) i no_open
unfolding opens_of open_at
open_at_lem m i x room h e =
    ap (λ (w : ℕ). record { transaction = w / statement_limit; written = w % statement_limit }) e ∙ sym (tab_at (open_at m) (open_count m) i no_open (omega (arith, opens_length m)))

module _ {m m' : List ℕ} (room : Room m) (i : ℕ) where
  pub open_set : (o : Open) → i < length (opens_of m) → OpenFits o → Wrote m m' (opens_at + i * 4) (bytes4 (o.transaction * statement_limit + o.written))
      → Becomes m m' (with_opens (flat_of m) (set (opens_of m) i (active_of o)))
  unfolding opens_of
  open_set o h f w =
      let k : Known m = known m room in
      let n : open_count m' ≡ open_count m = le4_below w.apart 36 (omega arith) in
      becomes_opens m m' room w.apart.size (same_below 0 36 w.apart (omega arith)) (same_below 40 88 w.apart (omega arith))
      (λ b p. w.apart.above b (omega arith)) (omega arith)
      (ap (tab (open_at m') 0) n
      ∙ tab_set (open_at m) (open_at m') (open_count m) i (active_of o) (omega arith)
      (λ j b. open_by m m' j j (le4_below w.apart (opens_at + j * 4) (omega arith)))
      (open_new m' i o f (le4_wrote _ (word_small o f) w))
      (λ j b l. open_by m m' j j (le4_above w.apart (opens_at + j * 4) (omega arith))))

  module _ {m2 : List ℕ} {n : ℕ} (e : n ≡ open_count m) where
    pub open_push : (o : Open) → length (opens_of m) < open_limit → OpenFits o → Wrote m m' (opens_at + n * 4) (bytes4 (o.transaction * statement_limit + o.written))
        → Wrote m' m2 36 (bytes4 (n + 1)) → Becomes m m2 (with_opens (flat_of m) (opens_of m ++ active_of o ∷ []))
    unfolding opens_of
    open_push o h f w v =
        let k : Known m = known m room in
        let c : open_count m2 ≡ open_count m + 1 = le4_wrote (n + 1) (omega arith) v ∙ ap (λ (z : ℕ). z + 1) e in
        let new : le4 m2 (opens_at + open_count m * 4) ≡ o.transaction * statement_limit + o.written =
        le4_above v.apart (opens_at + open_count m * 4) (omega arith) ∙ ap (λ (z : ℕ). le4 m' (opens_at + z * 4)) (sym e) ∙ le4_wrote _ (word_small o f) w in
        becomes_opens m m2 room (v.apart.size ∙ w.apart.size)
        (λ b p q. v.apart.below b (omega arith) ∙ w.apart.below b (omega arith))
        (λ b p q. v.apart.above b (omega arith) ∙ w.apart.below b (omega arith))
        (λ b p. v.apart.above b (omega arith) ∙ w.apart.above b (omega arith))
        (omega arith)
        (ap (tab (open_at m2) 0) c
        ∙ tab_push (open_at m) (open_at m2) (open_count m) (active_of o) (open_new m2 (open_count m) o f new)
        (λ j b. open_by m m2 j j (le4_above v.apart (opens_at + j * 4) (omega arith) ∙ le4_below w.apart (opens_at + j * 4) (omega arith))))

    pub open_remove : i < length (opens_of m) → Lowered m m' (opens_at + i * 4) (opens_at + n * 4) 4 → Wrote m' m2 36 (bytes4 (n - 1))
        → Becomes m m2 (with_opens (flat_of m) (remove_at i (opens_of m)))
    unfolding opens_of
    open_remove h w v =
        let k : Known m = known m room in
        let c : open_count m2 ≡ open_count m - 1 = le4_wrote (n - 1) (omega arith) v ∙ ap (λ (z : ℕ). z - 1) e in
        becomes_opens m m2 room (v.apart.size ∙ w.apart.size)
        (λ b p q. v.apart.below b (omega arith) ∙ w.apart.below b (omega arith))
        (λ b p q. v.apart.above b (omega arith) ∙ w.apart.below b (omega arith))
        (λ b p. v.apart.above b (omega arith) ∙ w.apart.above b (omega arith))
        (omega arith)
        (ap (tab (open_at m2) 0) c
        ∙ tab_remove (open_at m) (open_at m2) (open_count m) i (omega arith)
        (λ j b. open_by m m2 j j (le4_above v.apart (opens_at + j * 4) (omega arith) ∙ le4_below w.apart (opens_at + j * 4) (omega arith)))
        (λ j b l. open_by m m2 (suc j) j (le4_above v.apart (opens_at + j * 4) (omega arith)
        ∙ le4_lowered w (opens_at + j * 4) (omega arith) (omega arith) ∙ ap (le4 m) (omega arith))))

-- a search from entry i on, turn by turn: x is the number that stands there
module _ (m : List ℕ) (tx i n : ℕ) where
  pub find_here : {x : ℕ} → i < n → x ≡ le4 m (opens_at + i * 4) → x / statement_limit ≡ tx → find_open tx (tab (open_at m) i (n - i)) ≡ 0
  unfolding is_for open_at
  find_here h e t = ap (find_open tx) (tab_next (open_at m) i n h) ∙ index_hit (is_for tx) _ _ (eq-eqb (le4 m (opens_at + i * 4) / statement_limit) tx (omega arith))

  pub find_iteration : {x : ℕ} → i < n → x ≡ le4 m (opens_at + i * 4) → (x / statement_limit ≡ tx → ⊥)
      → find_open tx (tab (open_at m) i (n - i)) ≡ suc (find_open tx (tab (open_at m) (i + 1) (n - (i + 1))))
  unfolding is_for open_at
  find_iteration {x} h e t =
      ap (find_open tx) (tab_next (open_at m) i n h)
      ∙ index_pass (is_for tx) _ _ (ne_eqb (le4 m (opens_at + i * 4) / statement_limit) tx (λ z. t (ap (λ (y : ℕ). y / statement_limit) e ∙ z)))

  pub find_end : n ≤ i → find_open tx (tab (open_at m) i (n - i)) ≡ 0
  unfolding first_index
  find_end h = ap (find_open tx) (tab_none (open_at m) i n h)

-- ---- directory entries

named_by : (m m' : List ℕ) (c i : ℕ) → le2 m' (named_at c + i * 2) ≡ le2 m (named_at c + i * 2) → named_block m' c i ≡ named_block m c i
unfolding named_block
named_by m m' c i e = ap (λ (w : ℕ). w % block_limit) e

pub named_new : (m : List ℕ) (c i b : ℕ) → b < block_limit → le2 m (named_at c + i * 2) ≡ b → named_block m c i ≡ b
unfolding named_block
named_new m c i b h e = omega arith

pub named_at_lem : (m : List ℕ) (i x : ℕ) → Room m → i < length (named_of m) → x ≡ le2 m (named_at (capacity_of m) + i * 2) → x % block_limit ≡ get_or (named_of m) i 0
unfolding named_of named_block
named_at_lem m i x room h e = ap (λ (w : ℕ). w % block_limit) e ∙ sym (tab_at (named_block m (capacity_of m)) (named_count m) i 0 (omega (arith, named_length m)))

module _ {m m' : List ℕ} (room : Room m) {a : ℕ} (b : ℕ) (small : b < block_limit) where
  pub named_set : (i : ℕ) → i < length (named_of m) → a ≡ named_at (capacity_of m) + i * 2 → Wrote m m' a (bytes2 b) → Becomes m m' (with_named (flat_of m) (set (named_of m) i b))
  unfolding named_of
  named_set i h e w =
      let k : Known m = known m room in
      let c : ℕ = capacity_of m in
      let n : named_count m' ≡ named_count m = le4_below w.apart 40 (omega arith) in
      let new : le2 m' (named_at c + i * 2) ≡ b = ap (le2 m') (sym e) ∙ le2_wrote b (omega arith) w in
      becomes_named m m' room w.apart.size (same_below 0 40 w.apart (omega arith)) (same_below 44 (named_at c - 44) w.apart (omega arith)) (omega arith)
      (ap (tab (named_block m' c) 0) n
      ∙ tab_set (named_block m c) (named_block m' c) (named_count m) i b (omega arith)
      (λ j l. named_by m m' c j (le2_below w.apart (named_at c + j * 2) (omega arith)))
      (named_new m' c i b small new)
      (λ j l r. named_by m m' c j (le2_above w.apart (named_at c + j * 2) (omega arith))))

  pub named_push : {m2 : List ℕ} {n : ℕ} → n ≡ named_count m → length (named_of m) < capacity_of m → a ≡ named_at (capacity_of m) + n * 2 → Wrote m m' a (bytes2 b)
      → Wrote m' m2 40 (bytes4 (n + 1)) → Becomes m m2 (with_named (flat_of m) (named_of m ++ b ∷ []))
  unfolding named_of
  named_push {m2} {n} en h e w v =
      let k : Known m = known m room in
      let c : ℕ = capacity_of m in
      let l : ℕ = named_count m in
      let count : named_count m2 ≡ l + 1 = le4_wrote (n + 1) (omega arith) v ∙ ap (λ (z : ℕ). z + 1) en in
      let place : named_at c + l * 2 ≡ a = omega arith in
      let new : le2 m2 (named_at c + l * 2) ≡ b = ap (le2 m2) place ∙ le2_above v.apart a (omega arith) ∙ le2_wrote b (omega arith) w in
      becomes_named m m2 room (v.apart.size ∙ w.apart.size)
      (λ x p q. v.apart.below x (omega arith) ∙ w.apart.below x (omega arith))
      (λ x p q. v.apart.above x (omega arith) ∙ w.apart.below x (omega arith))
      (omega arith)
      (ap (tab (named_block m2 c) 0) count
      ∙ tab_push (named_block m c) (named_block m2 c) l b (named_new m2 c l b small new)
      (λ j r. named_by m m2 c j (le2_above v.apart (named_at c + j * 2) (omega arith) ∙ le2_below w.apart (named_at c + j * 2) (omega arith))))

pub named_clear : {m m' : List ℕ} → Room m → Wrote m m' 40 (bytes4 0) → Becomes m m' (with_named (flat_of m) [])
unfolding named_of
named_clear {m} {m'} room w =
    let n : named_count m' ≡ 0 = le4_wrote 0 (omega arith) w in
    becomes_named m m' room w.apart.size (same_below 0 40 w.apart (omega arith)) (same_above 44 (named_at (capacity_of m) - 44) w.apart (omega arith)) (omega arith)
    (ap (tab (named_block m' (capacity_of m)) 0) n)

-- ---- directory blocks written

directory_by : (m m' : List ℕ) (i : ℕ) → le4 m' (directories_at + i * 4) ≡ le4 m (directories_at + i * 4) → directory_at m' i ≡ directory_at m i
unfolding directory_at
directory_by m m' i e = ap (λ (w : ℕ). w % block_limit) e

directory_new : (m : List ℕ) (i b : ℕ) → b < block_limit → le4 m (directories_at + i * 4) ≡ b → directory_at m i ≡ b
unfolding directory_at
directory_new m i b h e = omega arith

pub directory_at_lem : (m : List ℕ) (i x : ℕ) → Room m → i < length (directories_of m) → x ≡ le4 m (directories_at + i * 4) → x % block_limit ≡ get_or (directories_of m) i 0
unfolding directories_of directory_at
directory_at_lem m i x room h e = ap (λ (w : ℕ). w % block_limit) e ∙ sym (tab_at (directory_at m) (directory_count m) i 0 (omega (arith, directories_length m)))

pub directory_push : {m m' m2 : List ℕ} {n : ℕ} (b : ℕ) → Room m → n ≡ directory_count m → length (directories_of m) < 4 → b < block_limit → Wrote m m' (directories_at + n * 4) (bytes4 b)
    → Wrote m' m2 44 (bytes4 (n + 1)) → Becomes m m2 (with_directories (flat_of m) (directories_of m ++ b ∷ []))
unfolding directories_of
directory_push {m} {m'} {m2} {n} b room e h small w v =
    let k : Known m = known m room in
    let l : ℕ = directory_count m in
    let count : directory_count m2 ≡ l + 1 = le4_wrote (n + 1) (omega arith) v ∙ ap (λ (z : ℕ). z + 1) e in
    let new : le4 m2 (directories_at + l * 4) ≡ b =
    le4_above v.apart (directories_at + l * 4) (omega arith) ∙ ap (λ (z : ℕ). le4 m' (directories_at + z * 4)) (sym e) ∙ le4_wrote b (omega arith) w in
    becomes_directories m m2 room (v.apart.size ∙ w.apart.size)
    (λ x p q. v.apart.below x (omega arith) ∙ w.apart.below x (omega arith))
    (λ x p q. v.apart.above x (omega arith) ∙ w.apart.below x (omega arith))
    (λ x p. v.apart.above x (omega arith) ∙ w.apart.above x (omega arith))
    (omega arith)
    (ap (tab (directory_at m2) 0) count
    ∙ tab_push (directory_at m) (directory_at m2) l b (directory_new m2 l b small new)
    (λ j r. directory_by m m2 j (le4_above v.apart (directories_at + j * 4) (omega arith) ∙ le4_below w.apart (directories_at + j * 4) (omega arith))))

pub directories_clear : {m m' : List ℕ} → Room m → Wrote m m' 44 (bytes4 0) → Becomes m m' (with_directories (flat_of m) [])
unfolding directories_of
directories_clear {m} {m'} room w =
    let n : directory_count m' ≡ 0 = le4_wrote 0 (omega arith) w in
    becomes_directories m m' room w.apart.size (same_below 0 44 w.apart (omega arith)) (same_above 48 48 w.apart (omega arith))
    (λ b p. w.apart.above b (omega arith)) (omega arith) (ap (tab (directory_at m') 0) n)
