-- Records of a log repeated from a byte on: one further (`turn`, `going_next`, `going_stop`), or the end (`going_end`).
use Rattle.basics.proofs.Kit.{◌≡◌, refl, sym, ap, ◌∙◌, subst, Bool, true, false, some, List, [], ◌∷◌, ◌++◌, ℕ, ◌+◌, ◌-◌, ◌≤◌, ◌<◌, min, length, take, drop, get_or, arith}
use Rattle.basics.proofs.Kit.{drop-drop, take-append_seam}
use Rattle.basics.specs.Basics.{if'◌then◌else◌}
use Rattle.basics.proofs.Facts.{by-option, never}
use Rattle.basics.proofs.Elements.{some_eq, all_drop}
use Rattle.block_forms.specs.Numbers.{be4}
use Rattle.block_forms.specs.Tuple.{Byte, AllBytes}
use Rattle.block_forms.proofs.Spelled.{all_bytes}
use Rattle.log_records.specs.Records.{LogRecord, opened_by, committed_by, aborted_by, inserted_by, replaced_by, deleted_by, mark_of, log_fields, log_size}
use Rattle.log_records.specs.Records.{decode_record, ended, followed_by, read_log}
use Rattle.log_records.specs.Laws.{Read}
use Rattle.log_records.specs.Entries.{change_is, entry_as, entry_of, entry_in, entry_size}
use Rattle.log_records.specs.declared.Entry.{Entry}
use Rattle.log_records.proofs.Spelling.{tuple_size, two_bytes}
use Rattle.log_records.proofs.Bytewise.{tuple_bytes}
use Rattle.log_records.proofs.Laws.{encode_decode}
use Rattle.log_records.proofs.Logs.{log_split}
use Rattle.log_records.proofs.Walks.{size_of_entry, walk_next}
use Rattle.log_model.specs.Repeats.{call_of, call_if, repeat}
use Rattle.call_forward.specs.Rolling.{entry_is, OneRepeated, AllRepeated, records_in, MayRepeat}
use Rattle.call_forward.proofs.Repeated.{Left, left_start, left_next, left_stop, left_end}

-- ---- a record by its entry and its payload

-- bs are the payload of r, if it has one
abbrev pub HasPayload : LogRecord → List ℕ → Type 0
HasPayload (opened_by tx) bs = Unit {0}
HasPayload (committed_by tx) bs = Unit {0}
HasPayload (aborted_by tx) bs = Unit {0}
HasPayload (inserted_by tx t k xs) bs = bs ≡ xs
HasPayload (replaced_by tx t k xs) bs = bs ≡ xs
HasPayload (deleted_by tx t k) bs = Unit {0}
HasPayload (mark_of l txs) bs = Unit {0}

pub entry_repeated : (r : LogRecord) (bs : List ℕ) → HasPayload r bs → {m m' : List ℕ} {ok : Bool} → OneRepeated (entry_is (entry_as r) bs) m ok m' → OneRepeated r m ok m'
unfolding entry_is entry_as change_is
entry_repeated (opened_by tx) bs h o = o
entry_repeated (committed_by tx) bs h o = o
entry_repeated (aborted_by tx) bs h o = o
entry_repeated (inserted_by tx t k xs) bs h {m} {m'} {ok} o = subst (λ z. OneRepeated (inserted_by tx t k z) m ok m') h o
entry_repeated (replaced_by tx t k xs) bs h {m} {m'} {ok} o = subst (λ z. OneRepeated (replaced_by tx t k z) m ok m') h o
entry_repeated (deleted_by tx t k) bs h o = o
entry_repeated (mark_of l txs) bs h {m} {m'} {ok} o = marks o
  where
    marks : OneRepeated (mark_of l []) m ok m' → OneRepeated (mark_of l txs) m ok m'
    marks o = unfold repeat call_of call_if in record { answer = o.answer; memory = o.memory }

-- the bytes of a payload behind the eight before it
behind_place : (a b c d e f g h : ℕ) (bs rest : List ℕ) (k n : ℕ) → k ≡ 8 → n ≡ length bs → take n (drop k (((a ∷ b ∷ c ∷ d ∷ e ∷ f ∷ g ∷ h ∷ []) ++ bs) ++ rest)) ≡ bs
behind_place a b c d e f g h bs rest k n p q = rw (p, q) (take-append_seam bs rest)

payload_read : (xs : List ℕ) (r : LogRecord) → Read xs r → (k n : ℕ) → k ≡ min 8 (log_size r) → n ≡ log_size r - k → HasPayload r (take n (drop k xs))
unfolding log_size log_fields be4
payload_read xs (opened_by tx) d k n p q = tt
payload_read xs (committed_by tx) d k n p q = tt
payload_read xs (aborted_by tx) d k n p q = tt
payload_read xs (inserted_by tx t key bs) d k n p q =
    let e = tuple_bytes (inserted_by tx t key bs) 2 tx t key bs refl (omega arith) d.fits.0 d.fits.1 in
    let z = tuple_size 2 tx t key bs in
    ap (λ v. take n (drop k v)) (d.is ∙ ap (λ v. v ++ d.rest) e) ∙ behind_place _ _ _ _ _ _ _ _ bs d.rest k n (omega (arith, p, z)) (omega (arith, p, q, z))
payload_read xs (replaced_by tx t key bs) d k n p q =
    let e = tuple_bytes (replaced_by tx t key bs) 3 tx t key bs refl (omega arith) d.fits.0 d.fits.1 in
    let z = tuple_size 3 tx t key bs in
    ap (λ v. take n (drop k v)) (d.is ∙ ap (λ v. v ++ d.rest) e) ∙ behind_place _ _ _ _ _ _ _ _ bs d.rest k n (omega (arith, p, z)) (omega (arith, p, q, z))
payload_read xs (deleted_by tx t key) d k n p q = tt
payload_read xs (mark_of l txs) d k n p q = tt

-- ---- what stands at a byte

-- the first of the records that are left stands at byte p
pub record Turn (log : List ℕ) (p size : ℕ) (e : Entry) (qs : List LogRecord) : Type 0 where
  pub what : LogRecord
  pub rest : List LogRecord
  pub is : qs ≡ what ∷ rest
  pub entry : e ≡ entry_as what
  pub two : 1 < size
  pub read : read_log (drop (p + size) log) ≡ some rest
  pub inside : p + size ≤ length log
  pub payload : (k n : ℕ) → k ≡ p + min 8 size → n ≡ p + size - k → HasPayload what (take n (drop k log))

-- a record that is read is what stands there
pub entry_read : (xs : List ℕ) (r : LogRecord) → ended xs ≡ false → decode_record xs ≡ some r → entry_in xs ≡ entry_as r
unfolding entry_in entry_of if'◌then◌else◌
entry_read xs r h d = rw (h, d)

module _ (log : List ℕ) (b : AllBytes log) (p : ℕ) (qs : List LogRecord) (read : read_log (drop p log) ≡ some qs) {e : Entry} (q : e ≡ entry_in (drop p log)) {size : ℕ} (z : size ≡ entry_size e) where
  turn : p ≤ length log → (size ≡ 0 → ⊥) → Turn log p size e qs
  unfolding followed_by
  turn room going =
      let n = walk_next log b p q z room going in
      by-option (read_log (drop (p + size) log))
      (λ h. never (sym (sym read ∙ n.more ∙ ap (followed_by n.what) h)))
      (λ rest h.
      let is : qs ≡ n.what ∷ rest = some_eq (sym read ∙ n.more ∙ ap (followed_by n.what) h) in
      let f = log_split (drop p log) n.what rest (read ∙ ap some is) in
      let d = encode_decode (drop p log) (all_drop Byte p log b) n.what f.first in
      record {
        what = n.what;
        rest = rest;
        is = is;
        entry = n.is;
        two = omega (arith, n.takes, two_bytes n.what);
        read = h;
        inside = n.inside;
        payload = λ k m x y.
            subst (λ v. HasPayload n.what (take m v)) (drop-drop (min 8 size) p log ∙ ap (λ v. drop v log) (sym x))
            (payload_read (drop p log) n.what d (min 8 size) m (ap (min 8) n.takes) (omega (arith, x, y, n.takes)));
      })

  -- nothing is left
  pub turn_end : size ≡ 0 → qs ≡ []
  turn_end stop = go qs read
    where
      go : (qs : List LogRecord) → read_log (drop p log) ≡ some qs → qs ≡ []
      go [] h = refl
      go (r ∷ rs) h =
          let f = log_split (drop p log) r rs h in
          let a : e ≡ entry_as r = q ∙ entry_read (drop p log) r f.going f.first in
          absurd (omega (arith, stop, z ∙ ap entry_size a ∙ size_of_entry r, two_bytes r))

-- ---- one after another

-- of the records from byte `at` on, repeated on the store in s₀, those from byte p on are left
pub record Going (s₀ log : List ℕ) (at : ℕ) (s : List ℕ) (p : ℕ) : Type 0 where
  pub inside : p ≤ length log
  pub records : List LogRecord
  pub read : read_log (drop p log) ≡ some records
  pub left : Left s₀ (records_in (read_log (drop at log))) s records

pub going_start : (s log : List ℕ) (at : ℕ) → MayRepeat s log at → Going s log at s at
unfolding records_in
going_start s log at h =
    record {
      inside = h.inside;
      records = h.records;
      read = h.read;
      left = subst (λ q. Left s q s h.records) (sym (ap records_in h.read)) (left_start s h.records h.has_store);
    }

module _ {s₀ log : List ℕ} {at : ℕ} {s : List ℕ} {p : ℕ} (g : Going s₀ log at s p) where
  -- the record that is next
  pub going_turn : ((j : ℕ) → get_or log j 0 < 256) → {e : Entry} → e ≡ entry_in (drop p log) → {size : ℕ} → size ≡ entry_size e → (size ≡ 0 → ⊥) → Turn log p size e g.records
  going_turn b q z h = turn log (all_bytes log b) p g.records g.read q z g.inside h

  pub going_end : g.records ≡ [] → AllRepeated (records_in (read_log (drop at log))) s₀ true s
  going_end e = left_end (subst (Left s₀ (records_in (read_log (drop at log))) s) e g.left)

  module _ {size : ℕ} {e : Entry} (t : Turn log p size e g.records) (bs : List ℕ) (h : HasPayload t.what bs) {ok : Bool} {s' : List ℕ} (o : OneRepeated (entry_is e bs) s ok s') where
    here : OneRepeated t.what s ok s'
    here = entry_repeated t.what bs h (subst (λ z. OneRepeated (entry_is z bs) s ok s') t.entry o)

    left_here : Left s₀ (records_in (read_log (drop at log))) s (t.what ∷ t.rest)
    left_here = subst (Left s₀ (records_in (read_log (drop at log))) s) t.is g.left

    pub going_next : ok ≡ true → Going s₀ log at s' (p + size)
    going_next k = record { inside = t.inside; records = t.rest; read = t.read; left = left_next left_here here k }

    pub going_stop : ok ≡ false → AllRepeated (records_in (read_log (drop at log))) s₀ false s'
    going_stop k = left_stop left_here here k
