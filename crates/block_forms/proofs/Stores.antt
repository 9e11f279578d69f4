-- Runs of stores: a number's bytes, a part copied, a record appended, a page's head.
use Rattle.basics.proofs.Kit.{◌≡◌, refl, ap, ◌∙◌, List, [], ◌∷◌, ◌++◌, ℕ, ◌+◌, ◌*◌, ◌%◌, ◌≤◌, ◌/◌, length}
use Rattle.basics.proofs.Kit.{arith}
use Rattle.block_forms.specs.Limits.{record_head, owner_width}
use Rattle.basics.specs.Lists.{over}
use Rattle.block_forms.specs.Numbers.{be4}
use Rattle.block_forms.specs.Tuple.{owner_size}
use Rattle.block_forms.specs.Bytes.{owner_is, tuple_of, size_of, flags_of, owner_word, owner_bytes, record_bytes, page_head}
use Rattle.block_forms.specs.declared.Owner.{Owner}
use Rattle.block_forms.specs.declared.Owner.TheVariants.{Committed, Tentative}
use Rattle.block_forms.specs.declared.Record.{Record}
use Rattle.basics.proofs.Overs.{over_then}

-- ---- a record is appended

module _ (m p : List ℕ) (at : ℕ) (r : Record) (l : length p ≡ r.len) where
  -- the first nine bytes of the record
  abbrev nine : List ℕ
  nine = be4 r.key ++ (be4 r.number ++ (flags_of (owner_is r.owner) r.mark r.len ∷ []))

  bytes_are : record_bytes (tuple_of r p) ≡ nine ++ (owner_bytes (owner_is r.owner) ++ p)
  unfolding record_bytes tuple_of be4
  bytes_are = rw l

  -- the stores one after the other
  module _ {m₁ m₂ m₃ : List ℕ} {f : ℕ} (key : m₁ ≡ over m at (be4 r.key)) (number : m₂ ≡ over m₁ (at + 4) (be4 r.number))
      (ef : f ≡ flags_of (owner_is r.owner) r.mark r.len) (flags : m₃ ≡ over m₂ (at + 8) (f ∷ [])) where
    first_nine : at + record_head ≤ length m → m₃ ≡ over m at nine
    unfolding be4
    first_nine h =
        let k = be4 r.key in
        let n = be4 r.number in
        flags ∙ rw (ef, number, key, over_then m k n at 4 refl (omega arith), over_then m (k ++ n) (flags_of (owner_is r.owner) r.mark r.len ∷ []) at 8 refl (omega arith))

    pub appended_tentative : {m₄ m₅ : List ℕ} {w t s e : ℕ} → r.owner ≡ Tentative t s → w ≡ owner_word (owner_is r.owner) → m₄ ≡ over m₃ (at + record_head) (be4 w)
        → e ≡ at + (record_head + owner_width) → m₅ ≡ over m₄ e p → at + (record_head + owner_width + length p) ≤ length m → m₅ ≡ over m at (record_bytes (tuple_of r p))
    unfolding be4 owner_bytes
    appended_tentative {w = w} o ew owner ee last h =
        last
        ∙ rw (ee, owner, first_nine (omega arith), over_then m nine (be4 w) at record_head refl (omega arith))
        (rw (over_then m (nine ++ be4 w) p at (record_head + owner_width) refl (omega arith), bytes_are, ew, o))

    pub appended_committed : {m₄ : List ℕ} {e : ℕ} → r.owner ≡ Committed → e ≡ at + record_head → m₄ ≡ over m₃ e p
        → at + (record_head + length p) ≤ length m → m₄ ≡ over m at (record_bytes (tuple_of r p))
    unfolding be4 owner_bytes
    appended_committed o ee last h = last ∙ rw (ee, first_nine (omega arith), over_then m nine p at record_head refl (omega arith), bytes_are, o)

module _ (r : Record) where
  pub size_tentative : {t s : ℕ} → r.owner ≡ Tentative t s → size_of r ≡ record_head + owner_width + r.len
  unfolding size_of owner_size
  size_tentative e = ap (λ (o : Owner). record_head + owner_size (owner_is o) + r.len) e

  pub size_committed : r.owner ≡ Committed → size_of r ≡ record_head + r.len
  unfolding size_of owner_size
  size_committed e = ap (λ (o : Owner). record_head + owner_size (owner_is o) + r.len) e

  pub size_nine : record_head + r.len ≤ size_of r
  unfolding size_of
  size_nine = omega arith

-- ---- a page's head

pub put_head : (m : List ℕ) (t n b l : ℕ) → 8 ≤ length m
    → over (over m 0 (be4 (536870912 + t * 33554432 + n * 524288 + b * 1024 + l / 4194304))) 4 (be4 (l % 4194304 * 1024)) ≡ over m 0 (page_head t n b l)
unfolding page_head be4
put_head m t n b l h =
    let u = 536870912 + t * 33554432 + n * 524288 + b * 1024 + l / 4194304 in
    over_then m (be4 u) (be4 (l % 4194304 * 1024)) 0 4 refl (omega arith)
