-- The cursor goes through a page: at each of its places it finds the record of the next tuple.
use Rattle.basics.proofs.Kit.{◌≡◌, refl, sym, ap, ◌∙◌, some, none, Option·map, List, [], ◌∷◌, ◌++◌, append_assoc, append-nil, ℕ, suc, ◌+◌, ◌≤◌, ◌<◌, zero, ◌-◌, length, take, drop}
use Rattle.basics.proofs.Kit.{length-append, drop-drop, take_at, drop_at, drop_of_length-le, arith}
use Rattle.std.specs.Prelude.{Some, None}
use Rattle.basics.proofs.Facts.{by-option, never}
use Rattle.basics.proofs.Lists.{behind_none, behind_two}
use Rattle.basics.specs.Basics.{if'◌then◌else◌}
use Rattle.block_forms.specs.Limits.{page_head_size, block_size}
use Rattle.block_forms.specs.Tuple.{Tuple}
use Rattle.block_forms.specs.Block.{page, PageBlock, as_page}
use Rattle.block_forms.specs.Decode.{read_tuple, record_length, read_tuples, page_tuples, decode_block}
use Rattle.block_forms.specs.Bytes.{payload_in, tuple_of}
use Rattle.block_forms.specs.declared.Record.{Record}
use Rattle.block_forms.proofs.ReadTuples.{split, none_is}
use Rattle.block_forms.proofs.Laws.{encode_length, page_tuples_lem, page_read}
use Rattle.block_reader.specs.Answers.{next_at}
use Rattle.block_reader.specs.declared.Cursor.{Cursor}
use Rattle.block_reader.proofs.Records.{Found-is, found_is, bad_is}

-- as many tuples are read as are asked for
pub read_count : (n : ℕ) (xs : List ℕ) (ts : List Tuple) → read_tuples n xs ≡ some ts → length ts ≡ n
read_count zero xs ts e = ap length (none_is xs ts e)
read_count (suc n) xs ts e = let s = split n xs ts e in ap length s.is ∙ ap suc (read_count n (drop (record_length xs) xs) s.others s.read)

-- ---- any block

-- i of n tuples are read, those of done, and the cursor is at at
pub record Passed (xs : List ℕ) (n at i : ℕ) (done : List Tuple) : Type 0 where
  pub most : i ≤ n
  pub room : at ≤ length xs
  pub count : length done ≡ i
  pub rest : page_tuples n xs ≡ Option·map (λ ts. done ++ ts) (read_tuples (n - i) (drop at xs))

pub passed_start : (xs : List ℕ) (n : ℕ) → length xs ≡ block_size → Passed xs n page_head_size 0 []
passed_start xs n k =
    let z : n - 0 ≡ n = omega arith in
    record { most = omega arith; room = omega arith; count = refl; rest = rw z (sym (behind_none (page_tuples n xs))) }

module _ {xs : List ℕ} {n at i : ℕ} {done : List Tuple} (p : Passed xs n at i done) where
  -- a record is missing
  pub passed_bad : i < n → None ≡ next_at xs at → page_tuples n xs ≡ none
  unfolding read_tuples if'◌then◌else◌
  passed_bad h b =
      let e : n - i ≡ suc (n - (i + 1)) = omega arith in
      p.rest ∙ rw (e, bad_is xs at b)

  -- one record more
  pub passed_more : i < n → {r : Record} {c : Cursor} → Found-is xs at r c → Passed xs n c.at (i + 1) (done ++ (tuple_of r (payload_in xs r) ∷ []))
  unfolding read_tuples if'◌then◌else◌
  passed_more h {r} f =
      let x = read_tuple (drop at xs) in
      let e : n - i ≡ suc (n - (i + 1)) = omega arith in
      let next : page_tuples n xs ≡ Option·map (λ ts. (done ++ (read_tuple (drop at xs) ∷ [])) ++ ts) (read_tuples (n - (i + 1)) (drop (at + record_length (drop at xs)) xs)) =
      p.rest ∙ rw (e, f.is_whole, behind_two done (x ∷ []) (read_tuples (n - (i + 1)) (drop (record_length (drop at xs)) (drop at xs))), drop-drop (record_length (drop at xs)) at xs) in
      record {
        most = omega arith;
        room = f.ends;
        count = length-append done (tuple_of r (payload_in xs r) ∷ []) ∙ omega (arith, p.count);
        rest = rw (f.tuple, f.next) next;
      }

  pub passed_end : n ≤ i → page_tuples n xs ≡ some done
  unfolding read_tuples
  passed_end h =
      let u = p.most in
      let e : n - i ≡ 0 = omega arith in
      p.rest ∙ rw e (ap some (append-nil done))

  -- if all can be read, they are those that are read and those to come
  passed_known : {ts : List Tuple} → page_tuples n xs ≡ some ts → ts ≡ done ++ drop i ts
  passed_known {ts} e =
      by-option (read_tuples (n - i) (drop at xs))
      (λ h. let k : none ≡ some ts = rw h at (sym p.rest ∙ e) in never k)
      (λ us h. let k : some (done ++ us) ≡ some ts = rw h at (sym p.rest ∙ e) in
      let q : ts ≡ done ++ us = cc in
      q ∙ ap (λ (l : List Tuple). done ++ l) (sym (ap (drop i) q ∙ drop_at done us i p.count)))

-- ---- a page

-- i of the tuples ts of a page are passed, and the cursor is at at
pub record Walk (xs : List ℕ) (ts : List Tuple) (at i : ℕ) : Type 0 where
  pub read : page_tuples (length ts) xs ≡ some ts
  pub passed : Passed xs (length ts) at i (take i ts)

-- before the first record
pub walk_read : (n : ℕ) {xs : List ℕ} {ts : List Tuple} → length xs ≡ block_size → page_tuples n xs ≡ some ts → Walk xs ts page_head_size 0
walk_read n {xs} {ts} k e =
    let c : length ts ≡ n = read_count n (drop page_head_size xs) ts e in
    record { read = rw c e; passed = passed_start xs (length ts) k }

pub walk_start : (xs : List ℕ) {p : PageBlock} → as_page (decode_block xs) ≡ some p → Walk xs p.tuples page_head_size 0
walk_start xs {p} e =
    let r = page_read xs e in
    walk_read (length p.tuples) (rw r.spelling at (encode_length (page p.table p.level p.tuples)))
    (rw (← r.spelling) (page_tuples_lem p.table p.level p.tuples r.range))

-- the record r, found at at, is that of tuple i, and the cursor goes on at next
pub record Handed (xs : List ℕ) (ts : List Tuple) (at i : ℕ) (r : Record) (next : ℕ) : Type 0 where
  pub found : Found-is xs at r (record { at = next })
  pub left : drop i ts ≡ tuple_of r (payload_in xs r) ∷ drop (i + 1) ts
  pub done : take (i + 1) ts ≡ take i ts ++ (tuple_of r (payload_in xs r) ∷ [])
  pub walk : Walk xs ts next (i + 1)

module _ {xs : List ℕ} {ts : List Tuple} {at i : ℕ} (w : Walk xs ts at i) where
  pub walk_end : length ts ≤ i → drop i ts ≡ []
  walk_end h = drop_of_length-le ts h

  module _ (h : i < length ts) where
    -- a page never ends too early
    pub walk_bad : None ≡ next_at xs at → ⊥
    walk_bad e = let k : none ≡ some ts = sym (passed_bad w.passed h e) ∙ w.read in never k

    pub walk_found : {r : Record} {c : Cursor} → Some (r, c) ≡ next_at xs at → Handed xs ts at i r c.at
    walk_found {r} {c} e =
        let f = found_is xs at w.passed.room e in
        let x = tuple_of r (payload_in xs r) in
        let q = passed_more w.passed h f in
        let k : ts ≡ (take i ts ++ (x ∷ [])) ++ drop (i + 1) ts = passed_known q w.read in
        let d : take (i + 1) ts ≡ take i ts ++ (x ∷ []) = ap (take (i + 1)) k ∙ take_at (take i ts ++ (x ∷ [])) (drop (i + 1) ts) (i + 1) q.count in
        record {
          found = f;
          left = ap (drop i) (k ∙ append_assoc (take i ts) (x ∷ []) (drop (i + 1) ts)) ∙ drop_at (take i ts) (x ∷ drop (i + 1) ts) i w.passed.count;
          done = d;
          walk = record { read = w.read; passed = rw d q };
        }
