-- A mark's transactions: their bits put one after another, and read from any bytes.
use Rattle.basics.proofs.Kit.{◌≡◌, refl, sym, ap, ◌∙◌, some, List, [], ◌∷◌, ◌++◌, append_assoc, append-nil, ℕ, zero, suc, ◌+◌, ◌*◌, ◌%◌, ◌/◌, ◌≤◌, ◌<◌, length, take, drop, get_or, arith}
use Rattle.basics.proofs.Kit.{length-take, length-drop, take-append-drop, take-suc, take-add, drop-drop, drop_at, take_at, add-one, add-zero, zero-add, pow_pos}
use Rattle.basics.specs.Lists.{over}
use Rattle.basics.proofs.Overs.{over_then, length_part}
use Rattle.basics.proofs.Elements.{all_take, all_drop}
use Rattle.block_bits.specs.Bits.{bits_of, bits_in, field}
use Rattle.block_bits.specs.Fields.{total}
use Rattle.block_bits.proofs.Blocks.{bits_in_append, length_bits_in, bits_of_field}
use Rattle.block_bits.proofs.RoundTrip.{same_bits}
use Rattle.block_forms.specs.Numbers.{be4, num4}
use Rattle.block_forms.specs.Tuple.{Byte, AllBytes}
use Rattle.block_forms.specs.Spell.{spell}
use Rattle.block_forms.specs.Block.{entry_fields}
use Rattle.block_forms.specs.Decode.{read_entries}
use Rattle.block_forms.proofs.Spelled.{bytes_at, spell_append, length_spell}
use Rattle.block_forms.proofs.Entries.{length_entries, spell_entries_snoc}
use Rattle.block_forms.proofs.Laws.{total_entries, entries_fit, entries_count}
use Rattle.image_rows.specs.Rows.{open_limit}
use Rattle.log_records.specs.Records.{LogRecord, opened_by, committed_by, aborted_by, inserted_by, replaced_by, deleted_by, mark_of, MarkFits, mark_fields, log_fields, encode_record}
use Rattle.log_records.specs.Records.{decode_record}
use Rattle.log_records.specs.Laws.{Read}
use Rattle.log_records.specs.Bytes.{mark_bytes, last_fields, entry_bytes, count_of}
use Rattle.log_records.specs.Entries.{entry_as, entry_of, mark_size, EntriesPart, MarkAt}
use Rattle.log_records.specs.declared.Entry.TheVariants.{Malformed, Mark}
use Rattle.log_records.proofs.Spelling.{total_last, mark_size_lem, field_back}
use Rattle.log_records.proofs.Bytewise.{entry_all, entry_bits, mark_bytes_lem, kind_of}
use Rattle.log_records.proofs.Laws.{encode_decode, mark_front, mark_entries}
use Rattle.log_records.proofs.Stores.{over_whole}
use Rattle.log_records.proofs.Fronts.{read_none, read_some, read_length, split_front, four_back}

-- ---- put one after another

-- bits put behind those that are there
bits_then : (B xs ys : List ℕ) (n : ℕ) → n ≡ length xs → n ≤ length B → over (over B 0 xs) n ys ≡ over B 0 (xs ++ ys)
bits_then B xs ys n e h = ap (λ k. over (over B 0 xs) k ys) (sym (zero-add n)) ∙ over_then B xs ys 0 n e (omega arith)

-- one transaction more
pub entry_put : (B txs : List ℕ) (i : ℕ) {v : ℕ} {b b' : List ℕ} → i < length txs → 12 * length txs ≤ length B → b ≡ over B 0 (spell (entry_fields (take i txs)))
    → v ≡ get_or txs i 0 → b' ≡ over b (12 * i) (bits_of 12 v) → b' ≡ over B 0 (spell (entry_fields (take (i + 1) txs)))
entry_put B txs i h room e f g =
    let t : length (take i txs) ≡ i = simp length-take (omega arith) in
    let S = spell (entry_fields (take i txs)) in
    let l : 12 * i ≡ length (spell (entry_fields (take i txs))) = sym (length_entries (take i txs) ∙ ap (λ n. 12 * n) t) in
    g ∙ rw (e, f, bits_then B S (bits_of 12 (get_or txs i 0)) (12 * i) l (omega arith), add-one i, take-suc txs i 0 h)
    (ap (over B 0) (sym (spell_entries_snoc (take i txs) (get_or txs i 0))))

-- all of them, and zero bits to a whole byte
pub entries_put : (p₀ p txs : List ℕ) {b : List ℕ} → EntriesPart p₀ txs → AllBytes p → b ≡ over (bits_in p₀) 0 (spell (entry_fields txs))
    → bits_in p ≡ over b (12 * length txs) (bits_of (4 * (length txs % 2)) 0) → p ≡ entry_bytes txs
unfolding spell
entries_put p₀ p txs h b e f =
    let n = length txs in
    let B = length_bits_in p₀ in
    let S = spell (entry_fields txs) in
    let last : spell (last_fields txs) ≡ spell (entry_fields txs) ++ bits_of (4 * (length txs % 2)) 0 =
    spell_append (entry_fields txs) ((4 * (length txs % 2), 0) ∷ []) ∙ ap (λ z. S ++ z) (append-nil (bits_of (4 * (length txs % 2)) 0)) in
    let l : length (bits_in p₀) ≡ length (spell (last_fields txs)) = sym (length_spell (last_fields txs) ∙ total_last txs ∙ omega (arith, h.size)) in
    let bits : bits_in p ≡ spell (last_fields txs) =
    f ∙ rw (e, bits_then (bits_in p₀) S (bits_of (4 * (n % 2)) 0) (12 * n) (sym (length_entries txs)) (omega (arith, h.size)), ← last)
    (over_whole (bits_in p₀) (spell (last_fields txs)) l) in
    same_bits p (entry_bytes txs) (bytes_at p b) (bytes_at (entry_bytes txs) (entry_all txs)) (bits ∙ sym (entry_bits txs))

-- ---- read from any bytes

bits_take : (xs : List ℕ) (k m : ℕ) → k + m ≤ length xs → bits_in (take m (drop k xs)) ≡ take (8 * m) (drop (8 * k) (bits_in xs))
bits_take xs k m h =
    let P = take k xs in
    let M = take m (drop k xs) in
    let lp : length (bits_in P) ≡ 8 * k = length_bits_in P ∙ ap (λ n. 8 * n) (simp length-take (omega arith)) in
    let lm : length (bits_in M) ≡ 8 * m = length_bits_in M ∙ ap (λ n. 8 * n) (length_part m k xs h) in
    let parts : bits_in xs ≡ bits_in P ++ (bits_in M ++ bits_in (drop m (drop k xs))) =
    ap bits_in (sym (take-append-drop k xs) ∙ ap (λ z. P ++ z) (sym (take-append-drop m (drop k xs)))) ∙ bits_in_append P (M ++ drop m (drop k xs))
    ∙ ap (λ z. bits_in P ++ z) (bits_in_append M (drop m (drop k xs))) in
    sym (rw (parts, drop_at (bits_in P) (bits_in M ++ bits_in (drop m (drop k xs))) (8 * k) lp) (take_at (bits_in M) (bits_in (drop m (drop k xs))) (8 * m) lm))

-- the transactions read from bit `at` on are spelled by these bits
entries_spelled : (xs : List ℕ) (at n : ℕ) → at + 12 * n ≤ 8 * length xs → spell (entry_fields (read_entries xs at n)) ≡ take (12 * n) (drop at (bits_in xs))
unfolding spell entry_fields read_entries
entries_spelled xs at zero h = refl
entries_spelled xs at (suc n) h =
    let B = bits_in xs in
    let e : 12 * suc n ≡ 12 + 12 * n = omega arith in
    rw (e, take-add 12 (12 * n) (drop at B), drop-drop 12 at B, bits_of_field xs at 12 (omega arith), entries_spelled xs (at + 12) n (omega arith))

-- what a mark asks of its bytes
pub record MarkFront (xs : List ℕ) : Type 0 where
  pub whole : mark_size (count_of xs) ≤ length xs
  pub zero : get_or xs 1 0 % 32 ≡ 0
  pub limit : count_of xs ≤ open_limit
  pub last : field (bits_in xs) (48 + 12 * count_of xs) (4 * (count_of xs % 2)) ≡ 0

mark_front_lem : (xs : List ℕ) (r : LogRecord) → Read xs r → kind_of r ≡ 7 → MarkFront xs
unfolding log_fields mark_fields be4
mark_front_lem xs (opened_by tx) d k = absurd (omega arith)
mark_front_lem xs (committed_by tx) d k = absurd (omega arith)
mark_front_lem xs (aborted_by tx) d k = absurd (omega arith)
mark_front_lem xs (inserted_by tx t k bs) d q = absurd (omega arith)
mark_front_lem xs (replaced_by tx t k bs) d q = absurd (omega arith)
mark_front_lem xs (deleted_by tx t k) d q = absurd (omega arith)
mark_front_lem xs (mark_of l txs) d k =
    let n = length txs in
    let h : length txs < 128 = omega (arith, d.fits.count) in
    let e : xs ≡ (mark_bytes (length txs) l ++ entry_bytes txs) ++ d.rest = d.is ∙ ap (λ z. z ++ d.rest) (mark_bytes_lem l txs h) in
    let c : count_of xs ≡ length txs = rw e (omega arith) in
    let z : get_or xs 1 0 % 32 ≡ 0 = rw e (omega arith) in
    let got = field_back (mark_of l txs) (mark_front l txs) [] (4 * (n % 2)) 0 refl (pow_pos (4 * (n % 2))) d.rest in
    let at : total (mark_front l txs) ≡ 48 + 12 * length txs = omega (arith, total_entries txs) in
    let last : field (bits_in xs) (48 + 12 * count_of xs) (4 * (count_of xs % 2)) ≡ 0 = rw (c, d.is, ← at) got in
    let w : mark_size (count_of xs) ≤ length xs = rw (c, ← mark_size_lem l txs) (read_length xs (mark_of l txs) d) in
    record { whole = w; zero = z; limit = omega (arith, d.fits.count); last = last }

module _ (xs : List ℕ) (b : AllBytes xs) (k : get_or xs 0 0 / 16 ≡ 7) where
  pub mark_none : (MarkFront xs → ⊥) → entry_of (decode_record xs) ≡ Malformed
  mark_none f = read_none xs b (λ r d e. f (mark_front_lem xs r d (e ∙ k)))

  module _ (f : MarkFront xs) where
    -- its transactions
    abbrev transactions_of : List ℕ
    transactions_of = read_entries xs 48 (count_of xs)

    -- how many bytes they take
    abbrev width : ℕ
    width = (3 * count_of xs + 1) / 2

    whole_bytes : 6 + (3 * count_of xs + 1) / 2 ≤ length xs
    unfolding mark_size
    whole_bytes = f.whole

    last_spelled : spell (last_fields transactions_of) ≡ bits_in (take width (drop 6 xs))
    unfolding spell
    last_spelled =
        let n = count_of xs in
        let w = 4 * (count_of xs % 2) in
        let B = bits_in xs in
        let room = whole_bytes in
        let c = entries_count xs 48 (count_of xs) in
        let zero : bits_of (4 * (count_of xs % 2)) 0 ≡ take (4 * (count_of xs % 2)) (drop (48 + 12 * count_of xs) (bits_in xs)) =
        ap (bits_of w) (sym f.last) ∙ bits_of_field xs (48 + 12 * n) w (omega arith) in
        let e : 12 * count_of xs + 4 * (count_of xs % 2) ≡ 8 * ((3 * count_of xs + 1) / 2) = omega arith in
        rw (
          spell_append (entry_fields transactions_of) ((4 * (length transactions_of % 2), 0) ∷ []),
          c,
          append-nil (bits_of w 0),
          entries_spelled xs 48 n (omega arith),
          zero,
          bits_take xs 6 width room,
          ← e,
          take-add (12 * n) w (drop 48 B),
          drop-drop (12 * n) 48 B,
        )

    entries_are : entry_bytes transactions_of ≡ take width (drop 6 xs)
    entries_are =
        let part = all_take Byte width (drop 6 xs) (all_drop Byte 6 xs b) in
        same_bits (entry_bytes transactions_of) (take width (drop 6 xs)) (bytes_at (entry_bytes transactions_of) (entry_all transactions_of))
        (bytes_at (take width (drop 6 xs)) part) (entry_bits transactions_of ∙ last_spelled)

    head_spelled : mark_bytes (count_of xs) (num4 xs 2) ++ drop 6 xs ≡ xs
    unfolding num4
    head_spelled =
        let room = whole_bytes in
        let x0 : 7 * 16 + count_of xs / 8 ≡ get_or xs 0 0 = omega (arith, bytes_at xs b 1) in
        let x1 : count_of xs % 8 * 32 ≡ get_or xs 1 0 = omega (arith, bytes_at xs b 1, f.zero) in
        let level = four_back (get_or xs 2 0) (get_or xs 3 0) (get_or xs 4 0) (get_or xs 5 0) (bytes_at xs b 2) (bytes_at xs b 3) (bytes_at xs b 4) (bytes_at xs b 5) in
        (λ i. x0 i ∷ x1 i ∷ (level i ++ drop 6 xs)) ∙ split_front 6 xs (omega arith)

    mark_fits : MarkFits (num4 xs 2) transactions_of
    unfolding num4
    mark_fits = record {
      level = omega (arith, bytes_at xs b 2, bytes_at xs b 3, bytes_at xs b 4, bytes_at xs b 5);
      count = omega (arith, entries_count xs 48 (count_of xs), f.limit);
      transactions = entries_fit xs 48 (count_of xs);
    }

    mark_spelled : encode_record (mark_of (num4 xs 2) transactions_of) ++ drop width (drop 6 xs) ≡ xs
    mark_spelled =
        let c = entries_count xs 48 (count_of xs) in
        let H = mark_bytes (count_of xs) (num4 xs 2) in
        rw (mark_bytes_lem (num4 xs 2) transactions_of (omega (arith, f.limit)), c, entries_are)
        (append_assoc H (take width (drop 6 xs)) (drop width (drop 6 xs)) ∙ ap (λ z. H ++ z) (take-append-drop width (drop 6 xs)) ∙ head_spelled)

    pub mark_some : {l n : ℕ} → l ≡ num4 xs 2 → n ≡ count_of xs → entry_of (decode_record xs) ≡ Mark l n
    unfolding entry_as
    mark_some p q =
        rw (p, q, ← entries_count xs 48 (count_of xs)) (read_some xs (mark_of (num4 xs 2) transactions_of) (drop width (drop 6 xs)) mark_fits mark_spelled)

-- ---- a mark that was read

pub entry_nth : (xs : List ℕ) (at n i : ℕ) → i < n → get_or (read_entries xs at n) i 0 ≡ field (bits_in xs) (at + 12 * i) 12
unfolding read_entries
entry_nth xs at zero i h = absurd (omega arith)
entry_nth xs at (suc n) zero h = ap (λ k. field (bits_in xs) k 12) (sym (add-zero at))
entry_nth xs at (suc n) (suc i) h =
    let e : at + 12 + 12 * i ≡ at + 12 * suc i = omega arith in
    entry_nth xs (at + 12) n i (omega arith) ∙ ap (λ k. field (bits_in xs) k 12) e

module _ (xs : List ℕ) (b : AllBytes xs) (l : ℕ) (txs : List ℕ) (d : decode_record xs ≡ some (mark_of l txs)) where
  -- its transactions, as `mark_transaction` reads them
  pub mark_element : (i : ℕ) → i < length txs → field (bits_in xs) (48 + 12 * i) 12 ≡ get_or txs i 0
  mark_element i h =
      let r = encode_decode xs b (mark_of l txs) d in
      let all : read_entries xs 48 (length txs) ≡ txs = ap (λ z. read_entries z 48 (length txs)) r.is ∙ mark_entries l txs r.rest r.fits in
      sym (entry_nth xs 48 (length txs) i h) ∙ ap (λ z. get_or z i 0) all

-- they stand inside the log
pub mark_at : (log : List ℕ) → AllBytes log → (at l : ℕ) (txs : List ℕ) → decode_record (drop at log) ≡ some (mark_of l txs) → (i : ℕ) → i < length txs → MarkAt log at i
unfolding mark_size
mark_at log b at l txs d i h =
    let r = encode_decode (drop at log) (all_drop Byte at log b) (mark_of l txs) d in
    let w = read_length (drop at log) (mark_of l txs) r in
    record { few = omega (arith, r.fits.count); inside = omega (arith, mark_size_lem l txs, length-drop at log) }
