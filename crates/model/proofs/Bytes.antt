-- An image's bytes and its view: a block exchanged in the one is exchanged in the other; recovery of bytes is recovery of the view.
use Rattle.block_forms.specs.Limits.{block_limit, block_size}
use Rattle.basics.proofs.Kit.{◌≡◌, sym, ap, ◌∙◌, subst, fun_ext, true, false, not, List, [], ◌++◌, ℕ, suc, ◌+◌, ◌*◌, ◌%◌, ◌≤◌, ◌<◌, ◌/◌, ◌-◌, leb, eqb, ltb, length, take, drop}
use Rattle.basics.proofs.Kit.{length-append, length-take, length-drop, take-append-drop, take_at, drop-drop, drop-append-add, drop_at, arith}
use Rattle.basics.specs.Basics.{if'◌then◌else◌, basics}
use Rattle.basics.proofs.Facts.{by, lie, and_true}
use Rattle.block_forms.specs.Block.{header, as_header, encode_block}
use Rattle.block_forms.specs.Decode.{decode_block}
use Rattle.block_forms.specs.declared.Header.{Header}
use Rattle.block_forms.proofs.Laws.{encode_length, decode_encode, decode_in_range}
use Rattle.image_rows.specs.Rows.{row_rules}
use Rattle.image.specs.View.{View, view, block_at, block_count}
use Rattle.image.specs.Stages.{Stage, refuses, holds, whole_blocks, capacity_limit, directories_for, directory_blocks, unused_numbers, block_ok, is_zero, counts_ok, header_ok, header_test, read_directories}
use Rattle.image.specs.Stages.{entries_ok, tested_entries, directory_test, read_pages, rows_of_pages, tested_pages, page_test}
use Rattle.image.specs.Whole.{header_stage, pages_below, pages_stage}
use Rattle.model.specs.State.{Store}
use Rattle.model.specs.Checkpoint.{header_for}
use Rattle.model.specs.Recover.{memory_for, put_block, fresh_store, make, made_image, recovered_store, recover_pages, recover_below, recover}
use Rattle.model.proofs.Views.{put, recover_from, recover_view, AllSane}
use Rattle.model.proofs.Recovery.{found, pages_store, refuses-holds, holds_eq}
use Rattle.model.proofs.Start.{headed}
use Rattle.basics.proofs.Elements.{eqb_self, eqb-true, le_true, leb-true, leb-false, lt_false, not-false}
use Rattle.basics.proofs.Parts.{front}

-- ---- a block of an image exchanged

module _ (img xs : List ℕ) (b : ℕ) (fits : block_size * b + block_size ≤ length img) (block : length xs ≡ block_size) where
  head : length (take (block_size * b) img) ≡ block_size * b
  head = rw (length-take (block_size * b) img) (omega arith)

  pub length_put : length (put_block img b xs) ≡ length img
  unfolding put_block
  length_put = simp (length-append, length-drop) (rw (head, block) (omega arith))

  at_put : block_at (put_block img b xs) b ≡ xs
  unfolding put_block block_at
  at_put = rw (drop_at (take (block_size * b) img) (xs ++ drop (block_size * b + block_size) img) (block_size * b) head) (take_at xs (drop (block_size * b + block_size) img) block_size block)

  below_put : (i : ℕ) → i < b → block_at (put_block img b xs) i ≡ block_at img i
  unfolding put_block block_at
  below_put i h =
      front (take (block_size * b) img) _ (block_size * i) block_size (rw head (omega arith))
      ∙ sym (front (take (block_size * b) img) (drop (block_size * b) img) (block_size * i) block_size (rw head (omega arith)))
      ∙ ap (λ z. take block_size (drop (block_size * i) z)) (take-append-drop (block_size * b) img)

  above_put : (i : ℕ) → b < i → block_at (put_block img b xs) i ≡ block_at img i
  unfolding put_block block_at
  above_put i h =
      let m = block_size * i - (block_size * b + block_size) in
      let e : block_size * i ≡ length (take (block_size * b) img) + (length xs + m) = rw (head, block) (omega arith) in
      let f : block_size * b + block_size + m ≡ block_size * i = omega arith in
      ap (λ z. take block_size (drop z (put_block img b xs))) e
      ∙ ap (take block_size) (drop-append-add (take (block_size * b) img) (xs ++ drop (block_size * b + block_size) img) (length xs + m)
      ∙ drop-append-add xs (drop (block_size * b + block_size) img) m ∙ drop-drop m (block_size * b + block_size) img ∙ ap (λ z. drop z img) f)

  apart : (i : ℕ) → eqb b i ≡ false → b < suc i → b < i
  apart i h k = by (leb (suc b) i) (leb-true (suc b) i)
      (λ l. let g : i < suc b = leb-false (suc b) i l in let e : b ≡ i = omega arith in lie (sym h ∙ subst (λ z. eqb b z ≡ true) e (eqb_self b)))

  block_put : (i : ℕ) → view (put_block img b xs) i ≡ put (view img) b (decode_block xs) i
  unfolding view put if'◌then◌else◌
  block_put i =
      by (eqb b i)
      (λ h. rw h (ap decode_block (subst (λ z. block_at (put_block img b xs) z ≡ xs) (eqb-true b i h) at_put)))
      (λ h. by (leb (suc i) b)
      (λ k. rw h (ap decode_block (below_put i (leb-true (suc i) b k))))
      (λ k. rw h (ap decode_block (above_put i (apart i h (leb-false (suc i) b k))))))

  pub view_put : view (put_block img b xs) ≡ put (view img) b (decode_block xs)
  view_put = fun_ext block_put

-- every block of a view is malformed or in range
pub view_sane : (img : List ℕ) → AllSane (view img)
unfolding view
view_sane img i = decode_in_range (block_at img i)

-- ---- recovery of bytes and of the view

-- an image of n whole blocks
whole_blocks_lem : (len n : ℕ) → len ≡ block_size * n → 2 ≤ n → n ≤ block_limit → whole_blocks len ≡ true
unfolding whole_blocks
whole_blocks_lem len n e l u =
    let q : len / block_size ≡ n = omega arith in
    let r : len % block_size ≡ 0 = omega arith in
    rw (q, r, le_true 2 n l, le_true n block_limit u)

pub blocks_whole : (len : ℕ) → whole_blocks len ≡ true → (len ≡ block_size * (len / block_size)) × (2 ≤ len / block_size) × (len / block_size ≤ block_limit)
unfolding whole_blocks
blocks_whole len e =
    let k = and_true (eqb (len % block_size) 0) _ e in
    let l = and_true (leb 2 (len / block_size)) (leb (len / block_size) block_limit) k.1 in
    let z : len % block_size ≡ 0 = eqb-true _ _ k.0 in
    (omega arith, leb-true 2 (len / block_size) l.0, leb-true (len / block_size) block_limit l.1)

pub stage_is : (img : List ℕ) (n : ℕ) → length img ≡ block_size * n → 2 ≤ n → n ≤ block_limit → header_stage img ≡ header_test n (as_header (view img 0))
unfolding header_stage block_count if'◌then◌else◌
stage_is img n e l u = let q : length img / block_size ≡ n = omega arith in rw (whole_blocks_lem (length img) n e l u, q)

-- with memory enough
enough : (m : ℕ) (v : View) (st : Stage Header) (s : Store) → recover_from v st ≡ holds s → memory_for s.capacity ≤ m → recover_below m v st ≡ holds s
unfolding recover_from recover_below if'◌then◌else◌ recovered_store
enough m v (refuses n) s e h = refuses-holds e
enough m v (holds c) s e h =
    let k = pages_store c (pages_stage v c) s e in
    let q : s.capacity ≡ c.capacity = ap (λ z. z.capacity) (sym k.2) in
    rw (lt_false m (memory_for c.capacity) (subst (λ z. memory_for z ≤ m) q h)) e

pub recover_view_lem : (m : ℕ) (img : List ℕ) (s : Store) (n : ℕ) → length img ≡ block_size * n → 2 ≤ n → n ≤ block_limit → recover_view n (view img) ≡ holds s → memory_for s.capacity ≤ m
    → recover m img ≡ holds s
unfolding recover_view recover
recover_view_lem m img s n e l u r h = enough m (view img) (header_stage img) s (rw (stage_is img n e l u) r) h

-- ---- what an accepted recovery says of its image

pub record Accepted (img : List ℕ) (s : Store) : Type 0 where
  pub long : length img ≡ block_size * s.blocks
  pub least : 2 ≤ s.blocks
  pub most : s.blocks ≤ block_limit
  pub seen : recover_view s.blocks (view img) ≡ holds s

-- without the test of the memory
below : (m : ℕ) (v : View) (st : Stage Header) (s : Store) → recover_below m v st ≡ holds s → recover_from v st ≡ holds s
unfolding recover_from recover_below if'◌then◌else◌
below m v (refuses n) s e = refuses-holds e
below m v (holds h) s e = by (ltb m (memory_for h.capacity)) (λ k. refuses-holds (rw k at e)) (λ k. rw k at e)

accepted_stage : (img : List ℕ) (s : Store) → recover_from (view img) (header_stage img) ≡ holds s → Accepted img s
unfolding recover_view recover_from header_stage block_count if'◌then◌else◌ recovered_store
accepted_stage img s e =
    by (whole_blocks (length img))
    (λ w.
    let n = length img / block_size in
    let q : recover_view n (view img) ≡ holds s = rw w at e in
    let k = found n (view img) s q in
    let b = headed n k.head k.head_ok in
    let c = blocks_whole (length img) w in
    let f : s.blocks ≡ n = ap (λ z. z.blocks) (sym k.store) ∙ b.blocks in
    record {
      long = rw f c.0;
      least = rw f c.1;
      most = rw f c.2;
      seen = subst (λ z. recover_view z (view img) ≡ holds s) (sym f) q;
    })
    (λ w. refuses-holds (rw w at e))

pub accepted_recovery : (m : ℕ) (img : List ℕ) (s : Store) → recover m img ≡ holds s → Accepted img s
unfolding recover
accepted_recovery m img s e = accepted_stage img s (below m (view img) (header_stage img) s e)

-- ---- a store just made

-- what an accepted make says
pub make_accepted : (len m n : ℕ) (s : Store) → make len m n ≡ holds s
    → (whole_blocks len ≡ true) × (1 ≤ n) × (n ≤ capacity_limit) × (memory_for n ≤ m) × (s ≡ fresh_store (len / block_size) n)
unfolding make if'◌then◌else◌
make_accepted len m n s e =
    by (not (whole_blocks len)) (λ a. refuses-holds (rw a at e))
    (λ a. by (ltb n 1) (λ b. refuses-holds (rw (a, b) at e))
    (λ b. by (ltb capacity_limit n) (λ c. refuses-holds (rw (a, b, c) at e))
    (λ c. by (ltb m (memory_for n)) (λ d. refuses-holds (rw (a, b, c, d) at e))
    (λ d.
    let lo : 1 < suc n = leb-false (suc n) 1 b in
    let hi : n < suc capacity_limit = leb-false (suc capacity_limit) n c in
    let mem : memory_for n < suc m = leb-false (suc m) (memory_for n) d in
    (not-false (whole_blocks len) a, omega arith, omega arith, omega arith, sym (holds_eq (rw (a, b, c, d) at e)))))))

-- the tests of a header, and those of the directory and the pages below it, for `unfolding`
unfoldable header_tests : ℕ
unfolding header_test counts_ok header_ok directories_for directory_blocks unused_numbers block_ok is_zero
header_tests = 0

unfoldable page_tests : ℕ
unfolding pages_stage pages_below directory_test read_directories tested_entries entries_ok page_test read_pages tested_pages rows_of_pages row_rules
page_tests = 0

-- the header that make writes passes, and the store below it is empty
fresh_view : (v : View) (b n : ℕ) → 1 ≤ n → n ≤ capacity_limit → v 0 ≡ header (header_for (fresh_store b n) 0 0 0 [])
    → recover_view b v ≡ holds (fresh_store b n)
unfolding recover_view recover_from header_tests page_tests basics header_for fresh_store recover_pages recovered_store
fresh_view v b n l u e = rw (e, eqb_self b, le_true 1 n l, le_true n capacity_limit u, zero) (rw zero)
  where
    zero : leb 0 n ≡ true
    zero = le_true 0 n (omega arith)

-- the image of a store just made holds that store
pub made_accepted : (img : List ℕ) (m n : ℕ) (s : Store) → make (length img) m n ≡ holds s → Accepted (made_image img n) s
unfolding made_image header_for fresh_store put if'◌then◌else◌
made_accepted img m n s e =
    let k = make_accepted (length img) m n s e in
    let c = blocks_whole (length img) k.0 in
    let b = length img / block_size in
    let h = header_for (fresh_store b n) 0 0 0 [] in
    let x = encode_block (header h) in
    let fits : block_size * 0 + block_size ≤ length img = omega arith in
    let eq : view (made_image img n) 0 ≡ header h = ap (λ v. v 0) (view_put img x 0 fits (encode_length (header h))) ∙ decode_encode (header h) (omega arith) in
    rw k.4 (record {
      long = length_put img x 0 fits (encode_length (header h)) ∙ c.0;
      least = c.1;
      most = c.2;
      seen = fresh_view (view (made_image img n)) b n k.1 k.2 eq;
    })
