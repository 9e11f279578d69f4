-- What a change of some bytes leaves of what the memory holds: each list is as it was if its bytes are.
use Rattle.memory_bytes.specs.Columns.{slot_limit}
use Rattle.image_rows.specs.Rows.{open_limit}
use Rattle.block_forms.specs.Limits.{block_limit, mark_value, payload_limit, statement_limit}
use Rattle.basics.proofs.Kit.{◌≡◌, refl, sym, ap, ◌∙◌, fun_ext, Bool, true, false, ◌&&◌, not, List, ℕ, suc, ◌+◌, ◌*◌, ◌%◌, ◌^◌, ◌≤◌, ◌<◌, ◌/◌, ◌-◌, min-le_right, leb, eqb, ltb, get_or}
use Rattle.basics.proofs.Kit.{⊎_elim, lt-ltb, le-ltb, ltb-true, arith}
use Rattle.basics.specs.Basics.{if'◌then◌else◌}
use Rattle.basics.specs.Basics.{from}
use Rattle.memory_bytes.specs.Bytes.{le2, le4, bytes}
use Rattle.basics.specs.Lists.{tab}
use Rattle.memory_bytes.proofs.Bytes.{le2_cong, le4_cong, bytes_cong}
use Rattle.basics.proofs.Tabs.{lt_or_ge, tab_same}
use Rattle.basics.proofs.Elements.{all_map, many_ext}
use Rattle.basics.proofs.Firsts.{all_from}
use Rattle.memory_layout.specs.Places.{starts_at, blocks_at, directories_at, head_size, keys_at, named_at, opens_at, refs_at, slot_size, states_at, tables_at, used_at, used_size}
use Rattle.block_forms.specs.Decode.{read_owner, read_mark}
use Rattle.memory_layout.specs.Views.{head_of, row_count, page_count, table_end, open_at, directory_at, is_used, slot_of, slot_place, held_of, row_at, key_of, ref_of, state_of, start_at, table_at}
use Rattle.memory_layout.specs.Views.{entry_at, block_word, named_block, length_of, pending_of, directory_count, named_count, open_count}
use Rattle.memory_layout.specs.Flat.{opens_of, directories_of}

-- the n bytes from a on are the same in both
abbrev pub Same : List ℕ → List ℕ → ℕ → ℕ → Type 0
Same m m' a n = (b : ℕ) → a ≤ b → b < a + n → get_or m' b 0 ≡ get_or m b 0

-- all bytes from a on are the same in both
abbrev pub Behind : List ℕ → List ℕ → ℕ → Type 0
Behind m m' a = (b : ℕ) → a ≤ b → get_or m' b 0 ≡ get_or m b 0

-- a page's start is stored, and behind the last page it is the number of rows
pub start_stored : (m : List ℕ) (c p : ℕ) → p < page_count m → start_at m c p ≡ le2 m (starts_at c + p * 2)
unfolding start_at if'◌then◌else◌
start_stored m c p h = rw (lt-ltb p (page_count m) h)

pub start_behind : (m : List ℕ) (c p : ℕ) → page_count m ≤ p → start_at m c p ≡ row_count m
unfolding start_at if'◌then◌else◌
start_behind m c p h = rw (le-ltb p (page_count m) h)

module _ (m m' : List ℕ) where
  -- a number in bytes that are the same
  pub same2 : (a : ℕ) → Same m m' a 2 → le2 m' a ≡ le2 m a
  same2 a s = le2_cong m m' a a (λ k h. s (a + k) (omega arith) (omega arith))

  pub same4 : (a : ℕ) → Same m m' a 4 → le4 m' a ≡ le4 m a
  same4 a s = le4_cong m m' a a (λ k h. s (a + k) (omega arith) (omega arith))

  pub same_bytes : (a n : ℕ) → Same m m' a n → bytes m' a n ≡ bytes m a n
  same_bytes a n s = bytes_cong m m' a a n (λ k h. s (a + k) (omega arith) (omega arith))

  -- a part of bytes that are the same
  pub within : (a n b k : ℕ) → Same m m' a n → a ≤ b → b + k ≤ a + n → Same m m' b k
  within a n b k s p q c h1 h2 = s c (omega arith) (omega arith)

  pub within2 : (a n b : ℕ) → Same m m' a n → a ≤ b → b + 2 ≤ a + n → le2 m' b ≡ le2 m b
  within2 a n b s p q = same2 b (within a n b 2 s p q)

  pub within4 : (a n b : ℕ) → Same m m' a n → a ≤ b → b + 4 ≤ a + n → le4 m' b ≡ le4 m b
  within4 a n b s p q = same4 b (within a n b 4 s p q)

  -- ---- the head and what stands in it

  pub same_head : Same m m' 4 28 → head_of m' ≡ head_of m
  unfolding head_of
  same_head s = λ i. record {
    capacity = within4 4 28 4 s (omega arith) (omega arith) i;
    blocks = within4 4 28 8 s (omega arith) (omega arith) i;
    level = within4 4 28 12 s (omega arith) (omega arith) i;
    next = within4 4 28 16 s (omega arith) (omega arith) i;
    running = not (eqb (within4 4 28 20 s (omega arith) (omega arith) i) 0);
    begun = within4 4 28 24 s (omega arith) (omega arith) i;
    taken = within4 4 28 28 s (omega arith) (omega arith) i;
  }

  pub same_opens : Same m m' 36 4 → Same m m' opens_at (open_limit * 4) → open_count m ≤ open_limit → opens_of m' ≡ opens_of m
  unfolding opens_of open_at
  same_opens s t h =
      ap (tab (open_at m') 0) (same4 36 s)
      ∙ tab_same (open_at m') (open_at m) 0 (open_count m)
      (λ k p q. ap (λ (w : ℕ). record { transaction = w / statement_limit; written = w % statement_limit }) (within4 opens_at (open_limit * 4) (opens_at + k * 4) t (omega arith) (omega arith)))

  pub same_directories : Same m m' 44 4 → Same m m' directories_at 16 → directory_count m ≤ 4 → directories_of m' ≡ directories_of m
  unfolding directories_of directory_at
  same_directories s t h =
      ap (tab (directory_at m') 0) (same4 44 s)
      ∙ tab_same (directory_at m') (directory_at m) 0 (directory_count m)
      (λ k p q. ap (λ (w : ℕ). w % block_limit) (within4 directories_at 16 (directories_at + k * 4) t (omega arith) (omega arith)))

  pub same_used : Same m m' used_at used_size → is_used m' ≡ is_used m
  unfolding is_used
  same_used s = fun_ext (λ b. by_bound b (ltb b block_limit) refl)
    where
      by_bound : (b : ℕ) (t : Bool) → ltb b block_limit ≡ t → (t && eqb (get_or m' (used_at + b / 8) 0 / 2 ^ (b % 8) % 2) 1) ≡ (t && eqb (get_or m (used_at + b / 8) 0 / 2 ^ (b % 8) % 2) 1)
      by_bound b false h = refl
      by_bound b true h =
          let l : b < block_limit = ltb-true b block_limit h in
          ap (λ (x : ℕ). eqb (x / 2 ^ (b % 8) % 2) 1) (s (used_at + b / 8) (omega arith) (omega arith))

  -- a page's table goes by the ends of the tables alone
  pub same_table : (p : ℕ) → ((t : ℕ) → t < 8 → table_end m' t ≡ table_end m t) → table_at m' p ≡ table_at m p
  unfolding table_at
  same_table p e =
      many_ext _ _ (from 0 7) (all_map _ _ (λ t h. ap (λ (z : ℕ). leb z p) (e t (omega arith))) (from 0 7) (all_from 0 7))

  -- ---- columns, for a capacity c

  module _ (c : ℕ) where
    pub same_named : Same m m' 40 4 → Behind m m' (named_at c) → tab (named_block m' c) 0 (named_count m') ≡ tab (named_block m c) 0 (named_count m)
    unfolding named_block
    same_named s t =
        ap (tab (named_block m' c) 0) (same4 40 s)
        ∙ tab_same (named_block m' c) (named_block m c) 0 (named_count m)
        (λ k p q. ap (λ (w : ℕ). w % block_limit) (same2 (named_at c + k * 2) (λ b x y. t b (omega arith))))

    -- a slot that is named is one of c
    pub slot_below : (r : ℕ) → 1 ≤ c → slot_of c r < c
    unfolding slot_of if'◌then◌else◌
    slot_below r h = by_test (ltb (r % slot_limit) c) refl
      where
        by_test : (t : Bool) → ltb (r % slot_limit) c ≡ t → (if' t then r % slot_limit else 0) < c
        by_test true e = ltb-true (r % slot_limit) c e
        by_test false e = h

    -- what stands in a slot, by its bytes
    pub same_held : (a k s r : ℕ) → Same m m' a slot_size → held_of m' a k s r ≡ held_of m a k s r
    unfolding held_of length_of
    same_held a k s r t =
        let n : length_of s ≤ payload_limit = omega (arith, min-le_right (s % mark_value) payload_limit) in
        λ i. record {
          tuple = record {
            key = k;
            number = within4 a slot_size a t (omega arith) (omega arith) i;
            owner = read_owner s (within4 a slot_size (a + 4) t (omega arith) (omega arith) i);
            mark = read_mark s;
            payload = same_bytes (a + 8) (length_of s) (within a slot_size (a + 8) (length_of s) t (omega arith) (omega arith)) i;
          };
          pending = pending_of r;
        }

    -- row j of the one is row i of the other: its key, slot number and state stand there, and the slot's bytes are the same
    pub moved_row : (i j : ℕ) → key_of m' c j ≡ key_of m c i → ref_of m' c j ≡ ref_of m c i → state_of m' c j ≡ state_of m c i
        → Same m m' (slot_place (slot_of c (ref_of m c i))) slot_size → row_at m' c j ≡ row_at m c i
    unfolding row_at
    moved_row i j ek er es t =
        (λ x. held_of m' (slot_place (slot_of c (er x))) (ek x) (es x) (er x))
        ∙ same_held (slot_place (slot_of c (ref_of m c i))) (key_of m c i) (state_of m c i) (ref_of m c i) t

    -- the rows are the same if all slots and the columns of the rows are
    pub same_rows : (n : ℕ) → 1 ≤ c → n ≤ c → Same m m' head_size (c * 79) → tab (row_at m' c) 0 n ≡ tab (row_at m c) 0 n
    same_rows n h l s =
        tab_same (row_at m' c) (row_at m c) 0 n
        (λ k p q.
        let b : slot_of c (ref_of m c k) < c = slot_below (ref_of m c k) h in
        moved_row k k
        (within4 head_size (c * 79) (keys_at c + k * 4) s (omega arith) (omega arith))
        (within2 head_size (c * 79) (refs_at c + k * 2) s (omega arith) (omega arith))
        (s (states_at c + k) (omega arith) (omega arith))
        (within head_size (c * 79) (slot_place (slot_of c (ref_of m c k))) slot_size s (omega arith) (omega arith)))

    -- ---- pages

    pub same_start : (p : ℕ) → page_count m' ≡ page_count m → row_count m' ≡ row_count m → page_count m ≤ 2 * c → Same m m' (starts_at c) (c * 4)
        → start_at m' c p ≡ start_at m c p
    same_start p ep er h s = ⊎_elim
        (λ l. start_stored m' c p (omega arith) ∙ within2 (starts_at c) (c * 4) (starts_at c + p * 2) s (omega arith) (omega arith) ∙ sym (start_stored m c p l))
        (λ l. start_behind m' c p (omega arith) ∙ er ∙ sym (start_behind m c p l))
        (lt_or_ge p (page_count m))

    pub same_entries : Same m m' 32 4 → Same m m' tables_at 16 → page_count m ≤ 2 * c → Same m m' (starts_at c) (c * 8)
        → tab (entry_at m' c) 0 (page_count m') ≡ tab (entry_at m c) 0 (page_count m)
    unfolding entry_at table_at
    same_entries sr st h s =
        let ep : page_count m' ≡ page_count m = within2 tables_at 16 78 st (omega arith) (omega arith) in
        let er : row_count m' ≡ row_count m = same4 32 sr in
        let ends : (t : ℕ) → t < 8 → table_end m' t ≡ table_end m t = λ t b. within2 tables_at 16 (64 + t * 2) st (omega arith) (omega arith) in
        let start : (p : ℕ) → start_at m' c p ≡ start_at m c p = λ p. same_start p ep er h (λ b x y. s b x (omega arith)) in
        ap (tab (entry_at m' c) 0) ep
        ∙ tab_same (entry_at m' c) (entry_at m c) 0 (page_count m)
        (λ p a b. let w : block_word m' c p ≡ block_word m c p = within2 (starts_at c) (c * 8) (blocks_at c + p * 2) s (omega arith) (omega arith) in
        λ i. record {
          table = same_table p ends i;
          frozen = eqb (w i / block_limit % 2) 1;
          count = start (suc p) i - start p i;
          block = w i % block_limit;
        })
