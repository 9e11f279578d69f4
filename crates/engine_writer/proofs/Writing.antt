-- A row's record on a page: its size, and that it can be appended; a page while its rows are measured and written.
use Rattle.basics.proofs.Kit.{◌≡◌, refl, sym, ap, ◌∙◌, subst, true, false, List, [], ◌∷◌, ◌++◌, ℕ, ◌+◌, ◌*◌, ◌≤◌, ◌<◌, leb, length, length-append, arith}
use Rattle.basics.specs.Basics.{if'◌then◌else◌, sum}
use Rattle.block_forms.specs.Limits.{page_head_size, record_space, most_record, block_size}
use Rattle.block_forms.specs.Tuple.{Tuple, size, sizes, OwnerFits, Fits}
use Rattle.block_forms.specs.Block.{page, encode_block, PageFits}
use Rattle.block_forms.specs.Bytes.{payload_in, tuple_of, size_of, Appendable, part_page, behind, Appended}
use Rattle.block_forms.specs.declared.Record.{Record}
use Rattle.basics.proofs.Overs.{length_part}
use Rattle.block_forms.proofs.Tuples.{count_sizes, record_size, sizes_more}
use Rattle.block_forms.proofs.Built.{behind_more, whole_page}
use Rattle.model.specs.Checkpoint.{storable}
use Rattle.engine_writer.specs.Written.{Spells, Measures}
use Rattle.engine_writer.specs.declared.Shown.{Shown}

-- ---- a row's record

module _ {m : List ℕ} {r : Record} {x : Tuple} (s : Spells m r x) where
  -- the record takes as much room as the tuple
  spells_size : size_of r ≡ size x
  spells_size = record_size r (payload_in m r) (length_part r.len r.start m s.inside) ∙ ap size s.tuple

  -- the record of a tuple in range can be appended
  pub spells_appends : {at : ℕ} → Fits x → at + size x ≤ block_size → Appendable at r m
  unfolding tuple_of
  spells_appends fit h =
      let l : length (payload_in m r) ≡ r.len = length_part r.len r.start m s.inside in
      record {
        room = omega (arith, spells_size);
        inside = s.inside;
        limit = omega (arith, ap (λ (z : Tuple). length z.payload) s.tuple, fit.payload);
        owner = subst (λ (z : Tuple). OwnerFits z.owner) (sym s.tuple) fit.owner;
      }

-- ---- the rows are measured

-- n rows were passed, which show ts
pub record Measured (n : ℕ) (ts : List Tuple) (count bytes : ℕ) : Type 0 where
  pub length_is : count ≡ length ts
  pub size_is : bytes ≡ sizes ts
  pub few : count ≤ n
  pub light : bytes ≤ most_record * n

pub measured_none : {n : ℕ} {ts : List Tuple} → ts ≡ [] → Measured n ts 0 0
unfolding sum
measured_none e = rw e (record { length_is = refl; size_is = refl; few = omega arith; light = omega arith })

module _ {n : ℕ} {ts : List Tuple} {count bytes : ℕ} (d : Measured n ts count bytes) where
  pub measured_same : {us : List Tuple} {count' bytes' n' : ℕ} → us ≡ ts → count' ≡ count → bytes' ≡ bytes → n < n' → Measured n' us count' bytes'
  measured_same eu ec eb l = rw (eu, ec, eb) (record { length_is = d.length_is; size_is = d.size_is; few = omega (arith, d.few); light = omega (arith, d.light) })

  pub measured_more : {us : List Tuple} (x : Tuple) {count' bytes' w n' : ℕ} → us ≡ ts ++ (x ∷ []) → count' ≡ count + 1 → w ≡ size x → w ≤ most_record → bytes' ≡ bytes + w → n < n'
      → Measured n' us count' bytes'
  measured_more x eu ec ew small eb l =
      rw eu (record {
        length_is = omega (arith, d.length_is, length-append ts (x ∷ []));
        size_is = omega (arith, d.size_is, sizes_more ts x);
        few = omega (arith, d.few);
        light = omega (arith, d.light);
      })

-- ---- the rows are written

-- a page under construction that has the records of ts, up to place at
pub record Filling (block : List ℕ) (t l n b : ℕ) (ts : List Tuple) (at : ℕ) : Type 0 where
  pub made : block ≡ part_page t l n b ts
  pub place : at ≡ behind ts
  pub room : at ≤ block_size

pub filling_start : {block : List ℕ} {t l : ℕ} {w : Shown} {all ts : List Tuple} → block ≡ part_page t l w.count w.bytes [] → Measures w all → ts ≡ []
    → Filling block t l (length all) (sizes all) ts page_head_size
unfolding sum
filling_start {t = t} {l} e w et = rw et (record { made = e ∙ (λ i. part_page t l (w.count i) (w.bytes i) []); place = refl; room = omega arith })

module _ {block : List ℕ} {t l n b : ℕ} {ts : List Tuple} {at : ℕ} (f : Filling block t l n b ts at) where
  pub filling_same : {block' : List ℕ} {us : List Tuple} {at' : ℕ} → block' ≡ block → at' ≡ at → us ≡ ts → Filling block' t l n b us at'
  filling_same eb ea eu = rw (eb, ea, eu) f

  pub filling_more : {m block' : List ℕ} {r : Record} {x : Tuple} {us : List Tuple} {at' : ℕ} → Spells m r x → Appended block block' at r m at' → us ≡ ts ++ (x ∷ []) → sizes us ≤ record_space
      → Filling block' t l n b us at'
  filling_more {m} {r = r} s put eu fits =
      let e : ts ++ (tuple_of r (payload_in m r) ∷ []) ≡ _ = ap (λ (z : Tuple). ts ++ (z ∷ [])) s.tuple ∙ sym eu in
      let p = behind_more s.inside put ts f.place ∙ ap behind e in
      record { made = put.page t l n b ts f.made f.place ∙ ap (part_page t l n b) e; place = p; room = omega (arith, p) }

-- with all its tuples it is the page
pub filling_end : {block : List ℕ} {t l at : ℕ} {ts us : List Tuple} → Filling block t l (length ts) (sizes ts) us at → us ≡ ts → PageFits t l ts → block ≡ encode_block (page t l ts)
filling_end {t = t} {l} {ts = ts} f e fit = f.made ∙ ap (part_page t l (length ts) (sizes ts)) e ∙ whole_page t l ts fit

-- few tuples have room in a block
pub few_fit : {w : Shown} {ts : List Tuple} → Measures w ts → w.bytes ≤ record_space → w.count < 64
few_fit {ts = ts} w h = omega (arith, w.count, w.bytes, count_sizes ts)

-- ---- what is stored

-- the head alone is the page without tuples
pub empty_page : {t l : ℕ} → t < 8 → l < 4294967296 → part_page t l 0 0 [] ≡ encode_block (page t l [])
unfolding sum
empty_page {t} {l} ht hl = whole_page t l [] (record { table = ht; level = hl; tuples = tt; room = omega arith })

module _ {w : Shown} {ts : List Tuple} (d : Measures w ts) where
  pub storable_all : leb w.bytes record_space ≡ true → storable ts ≡ ts
  unfolding storable if'◌then◌else◌
  storable_all h = rw (ap (λ (z : ℕ). leb z record_space) (sym d.bytes) ∙ h)

  pub storable_none : leb w.bytes record_space ≡ false → storable ts ≡ []
  unfolding storable if'◌then◌else◌
  storable_none h = rw (ap (λ (z : ℕ). leb z record_space) (sym d.bytes) ∙ h)
