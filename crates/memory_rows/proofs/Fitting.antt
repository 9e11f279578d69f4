-- Whatever bytes the memory has, its tuples are in the ranges of a block.
use Rattle.block_forms.specs.Limits.{mark_value, payload_limit}
use Rattle.basics.proofs.Kit.{List, ℕ, suc, ◌+◌, ◌*◌, ◌%◌, ◌<◌, zero, min-le_right, length, get_or, arith}
use mir.Syntax.{w8}
use mir.Val as val
use Rattle.block_forms.specs.Tuple.{AllBytes, Fits}
use Rattle.block_forms.proofs.ReadTuples.{owner_fits}
use Rattle.memory_bytes.specs.Bytes.{le4, bytes}
use Rattle.memory_bytes.proofs.Bytes.{length_bytes}
use Rattle.memory_layout.specs.Places.{keys_at}
use Rattle.memory_layout.specs.Views.{length_of, held_of, row_at, key_of, state_of, ref_of, slot_of, slot_place}
use Rattle.memory_layout.specs.Flat.{flat_of, rows_of, capacity_of, row_in}
use Rattle.memory_rows.proofs.Access.{row_is}

module _ (m : List ℕ) (small : (k : ℕ) → val.Fits w8 (get_or m k 0)) where
  word_small : (a : ℕ) → le4 m a < 4294967296
  unfolding le4
  word_small a = omega (arith, small a, small (a + 1), small (a + 2), small (a + 3))

  all_bytes : (a n : ℕ) → AllBytes (bytes m a n)
  unfolding bytes
  all_bytes a zero = tt
  all_bytes a (suc n) = (omega (arith, small a), all_bytes (suc a) n)

  held_fits : (a k s r : ℕ) → k < 4294967296 → Fits (held_of m a k s r).tuple
  unfolding held_of length_of
  held_fits a k s r h =
      record {
        key = h;
        number = word_small a;
        owner = owner_fits s (le4 m (a + 4)) (word_small (a + 4));
        payload = omega (arith, length_bytes m (a + 8) (length_of s), min-le_right (s % mark_value) payload_limit);
        bytes = all_bytes (a + 8) (length_of s);
      }

  pub tuple_fits : (i : ℕ) → i < length (rows_of m) → Fits (row_in (flat_of m) i).tuple
  unfolding row_at
  tuple_fits i h =
      let c : ℕ = capacity_of m in
      rw (row_is m i h) (held_fits (slot_place (slot_of c (ref_of m c i))) (key_of m c i) (state_of m c i) (ref_of m c i) (word_small (keys_at c + i * 4)))
