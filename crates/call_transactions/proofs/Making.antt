-- Make: its tests, and the image with block 0 written.
use Rattle.block_forms.specs.Limits.{block_limit, block_size}
use Rattle.basics.proofs.Kit.{◌≡◌, refl, sym, ap, ◌∙◌, ⊎_elim, true, false, List, ◌++◌, ℕ, ◌%◌, ◌≤◌, ◌<◌, ◌/◌, leb, eqb, ltb, length, drop, le-leb, lt-ltb, le-ltb, lt-leb}
use Rattle.basics.proofs.Kit.{eqb-true, eq-eqb, ne_eqb, eqb-false, arith}
use Rattle.basics.specs.Basics.{if'◌then◌else◌}
use Rattle.basics.proofs.Facts.{by}
use Rattle.block_forms.specs.Block.{header, encode_block}
use Rattle.block_forms.specs.declared.Header.{Header}
use Rattle.image.specs.Stages.{Stage, refuses, holds, refusal_of, whole_blocks, capacity_limit}
use Rattle.model.specs.State.{Store}
use Rattle.model.specs.Checkpoint.{header_for}
use Rattle.model.specs.Recover.{memory_for, put_block, fresh_store, make, made_image}
use Rattle.basics.proofs.Elements.{and_no, or_right}
use Rattle.memory_layout.specs.Store.{FreshFits, HoldsNow}
use Rattle.basics.proofs.Tabs.{lt_or_ge}
use Rattle.call_contracts.specs.Shape.{MadeBy, Made}
use Rattle.std.specs.Prelude.{Ok, Err}
use Rattle.refusals.specs.declared.Refusal.{Refusal}
use Rattle.refusals.specs.Numbers.{number}
use Rattle.refusals.proofs.Numbers.{number_positive}
use Rattle.call_contracts.specs.declared.Reply.TheVariants.{Done}

module _ (n : ℕ) (img m : List ℕ) where
  pub made_refused : (r : Refusal) → make (length img) (length m) n ≡ refuses (number r) → Made n img m (Err r) img m
  unfolding MadeBy
  made_refused r e = rw e (refl, (refl, refl))

  pub made_done : (s : Store) (img' m' : List ℕ) → make (length img) (length m) n ≡ holds s → img' ≡ made_image img n → HoldsNow m m' s
      → Made n img m (Ok Done) img' m'
  unfolding MadeBy
  made_done s img' m' e q k = rw e (refl, (q, k))

-- ---- the tests

module _ (len mem n : ℕ) where
  not_whole : whole_blocks len ≡ false → make len mem n ≡ refuses 1
  unfolding make if'◌then◌else◌
  not_whole e = rw e

  pub make_odd : (len % block_size ≡ 0 → ⊥) → make len mem n ≡ refuses 1
  unfolding whole_blocks
  make_odd e = not_whole (rw (ne_eqb (len % block_size) 0 e))

  pub make_few : len / block_size < 2 → make len mem n ≡ refuses 1
  unfolding whole_blocks
  make_few h = not_whole (rw (lt-leb 2 (len / block_size) h) (and_no (eqb (len % block_size) 0)))

  pub make_many : block_limit < len / block_size → make len mem n ≡ refuses 1
  unfolding whole_blocks
  make_many h = not_whole (rw (lt-leb (len / block_size) block_limit h, and_no (leb 2 (len / block_size))) (and_no (eqb (len % block_size) 0)))

  module _ (whole : len % block_size ≡ 0) (few : 2 ≤ len / block_size) (many : len / block_size ≤ block_limit) where
    is_whole : whole_blocks len ≡ true
    unfolding whole_blocks
    is_whole = rw (eq-eqb (len % block_size) 0 whole, le-leb 2 (len / block_size) few, le-leb (len / block_size) block_limit many)

    pub make_none : n < 1 → make len mem n ≡ refuses 2
    unfolding make if'◌then◌else◌
    make_none h = rw (is_whole, lt-ltb n 1 h)

    pub make_large : capacity_limit < n → make len mem n ≡ refuses 2
    unfolding make if'◌then◌else◌
    make_large h = rw (is_whole, lt-ltb capacity_limit n h, or_right (ltb n 1) true refl)

    module _ (least : 1 ≤ n) (most : n ≤ capacity_limit) where
      pub make_short : mem < memory_for n → make len mem n ≡ refuses 3
      unfolding make if'◌then◌else◌
      make_short h = rw (is_whole, le-ltb n 1 least, le-ltb capacity_limit n most, lt-ltb mem (memory_for n) h)

      make_done : memory_for n ≤ mem → make len mem n ≡ holds (fresh_store (len / block_size) n)
      unfolding make if'◌then◌else◌
      make_done h = rw (is_whole, le-ltb n 1 least, le-ltb capacity_limit n most, le-ltb mem (memory_for n) h)

-- ---- the refusal that they give

-- the lengths and the capacity that are accepted
pub record Fits (len mem n : ℕ) : Type 0 where
  pub whole : len % block_size ≡ 0
  pub room : FreshFits mem (len / block_size) n

pub make_accepts : {len mem n : ℕ} → Fits len mem n → make len mem n ≡ holds (fresh_store (len / block_size) n)
make_accepts f = let r = f.room in make_done _ _ _ f.whole r.few r.many r.least r.most r.long

stage_refuses : (g : Stage Store) (r : Refusal) → number r ≡ refusal_of g → g ≡ refuses (number r)
unfolding refusal_of
stage_refuses (refuses k) r e = ap refuses (sym e)
stage_refuses (holds s) r e = absurd (omega (arith, e, number_positive r))

module _ (len mem n : ℕ) where
  pub refusal_given : {k : ℕ} → make len mem n ≡ refuses k → k ≡ refusal_of (make len mem n)
  unfolding refusal_of
  refusal_given e = sym (ap refusal_of e)

  pub refusal_zero : Fits len mem n → 0 ≡ refusal_of (make len mem n)
  unfolding refusal_of
  refusal_zero f = sym (ap refusal_of (make_accepts f))

  pub make_refused : (r : Refusal) → number r ≡ refusal_of (make len mem n) → make len mem n ≡ refuses (number r)
  make_refused r e = stage_refuses (make len mem n) r e

  pub make_fits : 0 ≡ refusal_of (make len mem n) → Fits len mem n
  make_fits ev =
      let not-by : (k : ℕ) → 0 < k → make len mem n ≡ refuses k → ⊥ = λ k p e. omega (arith, ev, refusal_given e) in
      let whole : len % block_size ≡ 0 = by (eqb (len % block_size) 0) (λ t. eqb-true _ _ t) (λ t. absurd (not-by 1 (omega arith) (make_odd len mem n (eqb-false _ _ t)))) in
      let few : 2 ≤ len / block_size = ⊎_elim (λ h. absurd (not-by 1 (omega arith) (make_few len mem n h))) (λ h. h) (lt_or_ge (len / block_size) 2) in
      let many : len / block_size ≤ block_limit = ⊎_elim (λ h. absurd (not-by 1 (omega arith) (make_many len mem n h))) (λ h. h) (lt_or_ge block_limit (len / block_size)) in
      let least : 1 ≤ n = ⊎_elim (λ h. absurd (not-by 2 (omega arith) (make_none len mem n whole few many h))) (λ h. h) (lt_or_ge n 1) in
      let most : n ≤ capacity_limit = ⊎_elim (λ h. absurd (not-by 2 (omega arith) (make_large len mem n whole few many h))) (λ h. h) (lt_or_ge capacity_limit n) in
      let long : memory_for n ≤ mem = ⊎_elim (λ h. absurd (not-by 3 (omega arith) (make_short len mem n whole few many least most h))) (λ h. h) (lt_or_ge mem (memory_for n)) in
      record { whole = whole; room = record { least = least; most = most; long = long; few = few; many = many } }

-- ---- block 0

pub image_made : (img part : List ℕ) (b n : ℕ) (h : Header) → b ≡ length img / block_size
    → h ≡ record { blocks = b; capacity = n; level = 0; next = 0; pages = 0; directories = 0; d0 = 0; d1 = 0; d2 = 0; d3 = 0 }
    → part ≡ encode_block (header h) → part ++ drop block_size img ≡ made_image img n
unfolding made_image put_block header_for fresh_store
image_made img part b n h eb eh ep =
    ap (λ (z : List ℕ). z ++ drop block_size img) (ep ∙ ap (λ (z : Header). encode_block (header z)) eh
    ∙ ap (λ (z : ℕ). encode_block (header (record { blocks = z; capacity = n; level = 0; next = 0; pages = 0; directories = 0; d0 = 0; d1 = 0; d2 = 0; d3 = 0 }))) eb)
