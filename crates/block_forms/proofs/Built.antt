-- A page's block is filled from the front: its head, then its records one by one.
use Rattle.basics.proofs.Kit.{◌≡◌, sym, ap, ◌∙◌, List, [], ◌∷◌, ◌++◌, append_assoc, ℕ, ◌+◌, ◌≤◌, ◌-◌, length, length-append, arith}
use Rattle.basics.specs.Basics.{sum}
use Rattle.basics.specs.Lists.{over}
use Rattle.basics.proofs.Overs.{over_middle}
use Rattle.block_forms.specs.Limits.{record_space, block_size}
use Rattle.block_forms.specs.Tuple.{Tuple, size, sizes}
use Rattle.block_forms.specs.Spell.{zeros}
use Rattle.block_forms.specs.Bytes.{payload_in, size_of, record_bytes, records, tuple_of, Appendable, page_head, part_page, behind, Appended}
use Rattle.block_forms.specs.Laws.{WholePage}
use Rattle.block_forms.specs.declared.Record.{Record}
use Rattle.basics.proofs.Overs.{length_part}
use Rattle.block_forms.proofs.Spelled.{length_zeros, zeros_add}
use Rattle.block_forms.proofs.Tuples.{length_record, length_records, records_more, sizes_more, record_size}
use Rattle.block_forms.proofs.Bitwise.{body, length_body, length_head, page_bytes_lem}

module _ (t l n b : ℕ) where
  -- a head in a block of zeros
  pub part_start : over (zeros block_size) 0 (page_head t n b l) ≡ part_page t l n b []
  unfolding part_page records sum
  part_start = over_middle [] (zeros 8) (zeros record_space) (page_head t n b l) (length_head t n b l)

  pub part_length : (ts : List Tuple) → sizes ts ≤ record_space → length (part_page t l n b ts) ≡ block_size
  unfolding part_page
  part_length ts h = rw (length-append (page_head t n b l) (body ts), length_head t n b l, length_body ts h)

  -- one record more
  pub part_more : (ts : List Tuple) (x : Tuple) (at : ℕ) → at ≡ behind ts → at + size x ≤ block_size → over (part_page t l n b ts) at (record_bytes x) ≡ part_page t l n b (ts ++ (x ∷ []))
  unfolding part_page
  part_more ts x at pl h =
      let R = record_bytes x in
      let H = page_head t n b l in
      let P : List ℕ = H ++ records ts in
      let Z : List ℕ = zeros (record_space - (sizes ts + size x)) in
      let e : record_space - sizes ts ≡ size x + (record_space - (sizes ts + size x)) = omega arith in
      let z : zeros (record_space - sizes ts) ≡ zeros (size x) ++ Z = ap zeros e ∙ sym (zeros_add (size x) (record_space - (sizes ts + size x))) in
      let k : length P ≡ at = rw (length-append H (records ts), length_head t n b l, length_records ts) (sym pl) in
      let m : over (P ++ (zeros (size x) ++ Z)) (length P) R ≡ P ++ (R ++ Z) = over_middle P (zeros (size x)) Z R (length_record x ∙ sym (length_zeros (size x))) in
      rw (z, ← append_assoc H (records ts) (zeros (size x) ++ Z), ← k, m, records_more ts x, sizes_more ts x, append_assoc (records ts) R Z) (append_assoc H (records ts) (R ++ Z))

-- what a run of stores over the block has appended
pub appends : {old new xs : List ℕ} {at end : ℕ} {r : Record} → Appendable at r xs → end ≡ at + size_of r
    → new ≡ over old at (record_bytes (tuple_of r (payload_in xs r))) → Appended old new at r xs end
appends {xs = xs} {at = at} {r = r} a place made =
    let p : List ℕ = payload_in xs r in
    let s : size_of r ≡ size (tuple_of r p) = record_size r p (length_part r.len r.start xs a.inside) in
    let room = a.room in
    record {
      place = place;
      page = λ t l n b ts e pl. made ∙ ap (λ (z : List ℕ). over z at (record_bytes (tuple_of r p))) e ∙ part_more t l n b ts (tuple_of r p) at pl (omega arith);
    }

-- the place behind one record more
pub behind_more : {old new xs : List ℕ} {at end : ℕ} {r : Record} → r.start + r.len ≤ length xs → Appended old new at r xs end
    → (ts : List Tuple) → at ≡ behind ts → end ≡ behind (ts ++ (tuple_of r (payload_in xs r) ∷ []))
behind_more {xs = xs} {r = r} inside a ts e =
    let p : List ℕ = payload_in xs r in
    let s = record_size r p (length_part r.len r.start xs inside) in
    omega (arith, a.place, sizes_more ts (tuple_of r p))

pub whole_page : WholePage
unfolding part_page
whole_page t l ts fit = sym (page_bytes_lem t l ts fit)
