-- The record that the cursor finds is the tuple that is read there.
use Rattle.basics.proofs.Kit.{◌≡◌, refl, ap, true, false, List, ℕ, ◌+◌, ◌%◌, ◌≤◌, add-zero, add_assoc, length, drop, length-take, length-drop, drop-drop, get_or-drop, arith}
use Rattle.std.specs.Prelude.{Some, None}
use Rattle.basics.proofs.Facts.{by}
use Rattle.basics.proofs.Elements.{all_drop}
use Rattle.basics.specs.Basics.{if'◌then◌else◌}
use Rattle.block_forms.specs.Limits.{payload_limit, record_head, mark_value, block_size}
use Rattle.block_forms.specs.Numbers.{num4}
use Rattle.block_forms.specs.Tuple.{owner_size, Byte, AllBytes, OwnerFits, Fits}
use Rattle.block_forms.specs.Decode.{read_owner, read_tuple, record_length, is_record}
use Rattle.block_forms.specs.Bytes.{owner_is, size_of, payload_in, tuple_of, Appendable}
use Rattle.block_forms.specs.declared.Record.{Record}
use Rattle.block_forms.proofs.ReadTuples.{whole_parts, owner_size_lem, owner_same, read_fits}
use Rattle.block_reader.specs.Answers.{record_at, next_at}
use Rattle.block_reader.specs.declared.Cursor.{Cursor}
use Rattle.block_reader.proofs.Cursors.{flags_at, taken_at}

num4_drop : (xs : List ℕ) (at n : ℕ) → num4 (drop at xs) n ≡ num4 xs (at + n)
unfolding num4
num4_drop xs at n =
    rw (get_or-drop at xs n 0, get_or-drop at xs (n + 1) 0, get_or-drop at xs (n + 2) 0, get_or-drop at xs (n + 3) 0, add_assoc at n 1, add_assoc at n 2, add_assoc at n 3)

same_pair : {A B : Type 0} {p q : A × B} → Some p ≡ Some q → (p.0 ≡ q.0) × (p.1 ≡ q.1)
same_pair {A} {B} {p} {q} e = let k : p ≡ q = cc in (ap (λ (z : A × B). z.0) k, ap (λ (z : A × B). z.1) k)

module _ (xs : List ℕ) (at : ℕ) where
  -- the record at a place is the tuple that is read there
  pub record_tuple : tuple_of (record_at xs at) (payload_in xs (record_at xs at)) ≡ read_tuple (drop at xs)
  unfolding tuple_of record_at read_tuple
  record_tuple =
      let o = read_owner (flags_at xs at) (num4 xs (at + record_head)) in
      rw (
        num4_drop xs at 0,
        num4_drop xs at 4,
        num4_drop xs at 9,
        get_or-drop at xs 8 0,
        add-zero at,
        owner_same o,
        drop-drop (record_head + owner_size o) at xs,
      )

  pub record_taken : size_of (record_at xs at) ≡ record_length (drop at xs)
  unfolding size_of record_at
  record_taken =
      let o = read_owner (flags_at xs at) (num4 xs (at + record_head)) in
      rw (taken_at xs at, owner_same o, owner_size_lem (flags_at xs at) (num4 xs (at + record_head)))

  record_ends : (record_at xs at).start + (record_at xs at).len ≡ at + record_length (drop at xs)
  unfolding record_at
  record_ends = rw (taken_at xs at, owner_size_lem (flags_at xs at) (num4 xs (at + record_head))) (omega arith)

  record_length_lem : (record_at xs at).len ≡ flags_at xs at % mark_value
  unfolding record_at
  record_length_lem = refl

  -- what a record that the cursor found is
  pub record Found-is (r : Record) (c : Cursor) : Type 0 where
    pub is_whole : is_record (drop at xs) ≡ true
    pub limit : r.len ≤ payload_limit
    pub payload : length (payload_in xs r) ≡ r.len
    pub inside : r.start + r.len ≤ length xs
    pub tuple : tuple_of r (payload_in xs r) ≡ read_tuple (drop at xs)
    pub takes : size_of r ≡ record_length (drop at xs)
    pub next : c.at ≡ at + record_length (drop at xs)
    pub ends : c.at ≤ length xs

  pub found_is : {r : Record} {c : Cursor} → at ≤ length xs → Some (r, c) ≡ next_at xs at → Found-is r c
  unfolding next_at if'◌then◌else◌
  found_is {r} {c} room e =
      by (is_record (drop at xs))
      (λ w.
      let k : Some (r, c) ≡ Some (record_at xs at, record { at = at + record_length (drop at xs) }) = rw w at e in
      let q = same_pair k in
      let h = whole_parts (drop at xs) w in
      let d = length-drop at xs in
      let fl = get_or-drop at xs 8 0 in
      let end : (record_at xs at).start + (record_at xs at).len ≤ length xs = omega (arith, record_ends, h.1.1) in
      let l : length (payload_in xs (record_at xs at)) ≡ (record_at xs at).len = simp (length-take, length-drop) (omega arith) in
      rw (q.0, q.1) (record {
        is_whole = w;
        limit = omega (arith, record_length_lem, h.1.0, fl);
        payload = l;
        inside = end;
        tuple = record_tuple;
        takes = record_taken;
        next = refl;
        ends = omega (arith, h.1.1);
      }))
      (λ w. let k : Some (r, c) ≡ None = rw w at e in let z : ◌≡◌ {A = ℕ} 0 1 = cc in absurd (omega arith))

  -- its owner is in range
  pub found_fits : {r : Record} {c : Cursor} → AllBytes xs → Found-is r c → OwnerFits (owner_is r.owner)
  unfolding tuple_of
  found_fits {r} b g =
      let fit : Fits (tuple_of r (payload_in xs r)) = rw g.tuple (read_fits (drop at xs) g.is_whole (all_drop Byte at xs b)) in
      fit.owner

  -- it can be appended to a block at the same place
  pub found_appends : {r : Record} {c : Cursor} → length xs ≡ block_size → AllBytes xs → Found-is r c → Appendable at r xs
  found_appends l b g = record { room = omega (arith, g.takes, g.next, g.ends); inside = g.inside; limit = g.limit; owner = found_fits b g }

  pub bad_is : None ≡ next_at xs at → is_record (drop at xs) ≡ false
  unfolding next_at if'◌then◌else◌
  bad_is e =
      by (is_record (drop at xs))
      (λ w. let k : None ≡ Some (record_at xs at, record { at = at + record_length (drop at xs) }) = rw w at e in let z : ◌≡◌ {A = ℕ} 0 1 = cc in absurd (omega arith))
      (λ w. w)
