-- A page is spelled again, record by record, as it is read.
use Rattle.basics.proofs.Kit.{◌≡◌, refl, sym, ap, ◌∙◌, false, some, List, [], ◌∷◌, ◌++◌, ℕ, ◌+◌, ◌≤◌, ◌<◌, length, drop, length-drop, arith}
use Rattle.basics.specs.Basics.{sum}
use Rattle.basics.proofs.Facts.{by}
use Rattle.basics.proofs.Elements.{all_drop}
use Rattle.block_bits.specs.Bits.{bits_in, field}
use Rattle.block_bits.proofs.Blocks.{field_lt}
use Rattle.block_forms.specs.Limits.{page_head_size, record_space, block_size}
use Rattle.block_forms.specs.Numbers.{same}
use Rattle.block_forms.specs.Tuple.{Tuple, sizes, Byte, AllBytes}
use Rattle.block_forms.specs.Block.{page, encode_block, PageFits}
use Rattle.block_forms.specs.Decode.{page_tuples, page_bytes}
use Rattle.block_forms.specs.Bytes.{payload_in, tuple_of, part_page, behind, Appended}
use Rattle.block_forms.specs.declared.Record.{Record}
use Rattle.block_forms.proofs.Same.{same_eq}
use Rattle.block_forms.proofs.ReadTuples.{read_all_fit, read_room}
use Rattle.block_forms.proofs.Built.{behind_more, part_length, whole_page}
use Rattle.block_forms.proofs.Laws.{page_sizes}
use Rattle.block_reader.specs.declared.Cursor.{Cursor}
use Rattle.block_reader.proofs.Records.{Found-is}
use Rattle.block_reader.proofs.Walk.{Passed, passed_start, passed_more, passed_end}

-- i of n records are read and stand in the copy, a page that will have n tuples with b record bytes
pub record Again (xs copy : List ℕ) (t l n b at i : ℕ) : Type 0 where
  pub done : List Tuple
  pub passed : Passed xs n at i done
  pub place : at ≡ behind done
  pub made : copy ≡ part_page t l n b done

pub again_start : (xs : List ℕ) {copy : List ℕ} (t l n b : ℕ) → length xs ≡ block_size → copy ≡ part_page t l n b [] → Again xs copy t l n b page_head_size 0
unfolding sum
again_start xs t l n b k made = record { done = []; passed = passed_start xs n k; place = refl; made = made }

module _ {xs copy : List ℕ} {t l n b at i : ℕ} (k : length xs ≡ block_size) (a : Again xs copy t l n b at i) where
  pub again_length : length copy ≡ block_size
  again_length = ap length a.made ∙ part_length t l n b a.done (omega (arith, a.place, a.passed.room))

  pub again_iteration : i < n → {r : Record} {c : Cursor} → Found-is xs at r c → {copy' : List ℕ} {at' : ℕ} → Appended copy copy' at r xs at' → Again xs copy' t l n b at' (i + 1)
  again_iteration h {r} {c} g {at' = at'} put =
      let q : at' ≡ c.at = omega (arith, put.place, g.takes, g.next) in
      record {
        done = a.done ++ (tuple_of r (payload_in xs r) ∷ []);
        passed = rw q (passed_more a.passed h g);
        place = behind_more g.inside put a.done a.place;
        made = put.page t l n b a.done a.made a.place;
      }

  module _ (h : n ≤ i) where
    again_end : page_tuples n xs ≡ some a.done
    again_end = passed_end a.passed h

    again_count : length a.done ≡ n
    again_count = omega (arith, a.passed.count, a.passed.most)

    module _ (bytes : AllBytes xs) (et : t ≡ field (bits_in xs) 4 3) (el : l ≡ field (bits_in xs) 22 32) where
      fit : PageFits t l a.done
      fit =
          let d : length (drop page_head_size xs) ≡ record_space = rw (length-drop page_head_size xs, k) in
          let ht : field (bits_in xs) 4 3 < 8 = field_lt xs 4 3 in
          let hl : field (bits_in xs) 22 32 < 4294967296 = field_lt xs 22 32 in
          record {
            table = omega arith;
            level = omega arith;
            tuples = read_all_fit n (drop page_head_size xs) a.done (all_drop Byte page_head_size xs bytes) again_end;
            room = omega (arith, read_room n (drop page_head_size xs) a.done again_end);
          }

      -- the copy is what the tuples spell, if their sizes are the record bytes
      pub again_spells : at ≡ page_head_size + b → copy ≡ encode_block (page t l a.done)
      again_spells e =
          let p = a.place in
          let s : b ≡ sizes a.done = omega arith in
          let c : n ≡ length a.done = sym again_count in
          a.made ∙ rw (s, c) (whole_page t l a.done fit)

      -- else these bytes do not spell the tuples
      pub again_other : b ≡ field (bits_in xs) 13 9 → (at ≡ page_head_size + b → ⊥) → same (encode_block (page t l a.done)) xs ≡ false
      unfolding page_bytes
      again_other eb ne =
          by (same (encode_block (page t l a.done)) xs)
          (λ s. let q = same_eq (encode_block (page t l a.done)) xs s in
          let p = a.place in
          let z : field (bits_in xs) 13 9 ≡ sizes a.done = ap (λ (ys : List ℕ). field (bits_in ys) 13 9) (sym q) ∙ page_sizes t l a.done fit in
          absurd (ne (omega arith)))
          (λ s. s)
