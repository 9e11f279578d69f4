-- The entries of directory blocks, one block after another.
use Rattle.std.specs.Prelude.{Some, None, Option as Answer}
use Rattle.basics.proofs.Kit.{◌≡◌, refl, sym, ap, ◌∙◌, subst, ◌&&◌, some, none, Option, Option·map, List, [], ◌++◌, append-nil, ℕ, ◌+◌, ◌≤◌}
use Rattle.basics.proofs.Kit.{◌<◌, ◌-◌, min, eqb, length, take, drop, get_or, length-append, eqb-true, eq-eqb, ne_eqb, arith}
use Rattle.basics.specs.Basics.{if'◌then◌else◌}
use Rattle.basics.proofs.Facts.{by, never, and_true, clash}
use Rattle.basics.proofs.Elements.{some_eq}
use Rattle.basics.proofs.Lists.{behind_none, behind_two}
use Rattle.basics.specs.Lists.{over}
use Rattle.basics.proofs.Overs.{over_nil}
use Rattle.block_forms.specs.Limits.{entries_per_block}
use Rattle.block_forms.specs.Block.{Block, DirectoryBlock, as_directory}
use Rattle.block_forms.specs.Decode.{read_entries, decode_block}
use Rattle.block_reader.specs.Answers.{reading}
use Rattle.block_reader.specs.declared.Block.TheVariants.{Directory}
use Rattle.block_reader.proofs.Answering.{is_directory}
use Rattle.block_forms.proofs.Laws.{decode_entries}
use Rattle.basics.proofs.Overs.{over_then}
use Rattle.basics.proofs.Ands.{and_no}
use Rattle.basics.proofs.Iterations.{drop_iteration, drop_end}
use Rattle.image.specs.View.{View}
use Rattle.image.specs.Stages.{entries_due, add_entries, read_directories}
use Rattle.image.specs.Answers.{Filled}

-- ---- one directory block

-- a directory that was read
pub record Read (n k : ℕ) (xs : List ℕ) : Type 0 where
  pub entries : List ℕ
  pub is : as_directory (decode_block xs) ≡ some (record { level = k; entries = entries })
  pub count : length entries ≡ n
  pub read : read_entries xs 64 n ≡ entries

pub directory_read : (xs : List ℕ) {n k : ℕ} → Some (Directory n k) ≡ reading (decode_block xs) → Read n k xs
directory_read xs e =
    let d = is_directory (decode_block xs) e in
    record { entries = d.entries; is = d.is; count = d.count; read = subst (λ m. read_entries xs 64 m ≡ d.entries) d.count (decode_entries xs d.is) }

module _ (l p : ℕ) {n k : ℕ} {xs : List ℕ} (r : Read n k xs) where
  due_is : entries_due l p (as_directory (decode_block xs)) ≡ (if' eqb k l && eqb n (min entries_per_block p) then some r.entries else none)
  unfolding entries_due
  due_is = rw (r.is, r.count)

  pub other_level : (k ≡ l → ⊥) → entries_due l p (as_directory (decode_block xs)) ≡ none
  unfolding if'◌then◌else◌
  other_level h = due_is ∙ rw (ne_eqb k l h)

  pub other_count : (n ≡ min entries_per_block p → ⊥) → entries_due l p (as_directory (decode_block xs)) ≡ none
  unfolding if'◌then◌else◌
  other_count h = due_is ∙ rw (ne_eqb n (min entries_per_block p) h, and_no)

  -- its entries, put over those of out
  pub entries_put : (at : ℕ) (out : List ℕ) {out' : List ℕ} (es : List ℕ) → k ≡ l → n ≡ min entries_per_block p → take n es ≡ read_entries xs 64 n
      → out' ≡ over out at (take n es) → Filled (entries_due l p (as_directory (decode_block xs))) at out (Some n) out'
  unfolding if'◌then◌else◌
  entries_put at out es hk hn he ho =
      let e : entries_due l p (as_directory (decode_block xs)) ≡ some r.entries = due_is ∙ rw (eq-eqb k l hk, eq-eqb n (min entries_per_block p) hn) in
      rw e (ap Some (sym r.count), ho ∙ ap (over out at) (he ∙ r.read))

pub not_put : (o : Option (List ℕ)) (at : ℕ) (out out' : List ℕ) → o ≡ none → Filled o at out None out'
not_put o at out out' e = rw e refl

-- as many as are due
pub due_count : (l p : ℕ) (o : Option DirectoryBlock) {es : List ℕ} → entries_due l p o ≡ some es → length es ≡ min entries_per_block p
unfolding entries_due if'◌then◌else◌
due_count l p none e = never e
due_count l p (some d) e =
    by (eqb d.level l && eqb (length d.entries) (min entries_per_block p))
    (λ t. ap length (sym (some_eq (rw t at e))) ∙ eqb-true (length d.entries) (min entries_per_block p) (and_true (eqb d.level l) _ t).1)
    (λ t. never (rw t at e))

-- ---- what was put

pub record Put (o : Option (List ℕ)) (at : ℕ) (out : List ℕ) (n : ℕ) (out' : List ℕ) : Type 0 where
  pub entries : List ℕ
  pub some_are : o ≡ some entries
  pub count : length entries ≡ n
  pub put : out' ≡ over out at entries

pub filled_yes : (o : Option (List ℕ)) (at : ℕ) (out out' : List ℕ) {r : Answer ℕ} {n : ℕ} → r ≡ Some n → Filled o at out r out' → Put o at out n out'
filled_yes none at out out' t f = clash cc
filled_yes (some es) at out out' {r} {n} t f = let q : Some n ≡ Some (length es) = sym t ∙ f.0 in record { entries = es; some_are = refl; count = cc; put = f.1 }

pub filled_not : (o : Option (List ℕ)) (at : ℕ) (out out' : List ℕ) {r : Answer ℕ} → r ≡ None → Filled o at out r out' → o ≡ none
filled_not none at out out' t f = refl
filled_not (some es) at out out' t f = let q : None ≡ Some (length es) = sym t ∙ f.0 in clash cc

-- ---- the turns

-- the entries of the first i blocks
pub record Gathering (v : View) (l pages : ℕ) (ds out₀ : List ℕ) (i at : ℕ) (out : List ℕ) : Type 0 where
  pub done : List ℕ
  pub count : length done ≡ at
  pub room : at ≤ pages
  pub put : out ≡ over out₀ 0 done
  pub rest : read_directories v l pages ds ≡ Option·map (λ es. done ++ es) (read_directories v l (pages - at) (drop i ds))

pub gathering_start : (v : View) (l pages : ℕ) (ds out₀ : List ℕ) → Gathering v l pages ds out₀ 0 0 out₀
gathering_start v l pages ds out₀ = record {
  done = [];
  count = refl;
  room = omega arith;
  put = sym (over_nil out₀ 0);
  rest = let z : pages - 0 ≡ pages = omega arith in rw z (sym (behind_none (read_directories v l pages ds)));
}

module _ {v : View} {l pages : ℕ} {ds out₀ : List ℕ} {i at : ℕ} {out : List ℕ} (a : Gathering v l pages ds out₀ i at out) where
  -- one block more: the code holds d
  module _ (h : i < length ds) {d : Block} (e : d ≡ v (get_or ds i 0)) (out' : List ℕ) where
    next : read_directories v l (pages - at) (drop i ds)
        ≡ add_entries (entries_due l (pages - at) (as_directory d)) (read_directories v l (pages - at - entries_per_block) (drop (i + 1) ds))
    unfolding read_directories
    next = ap (read_directories v l (pages - at)) (drop_iteration ds i h) ∙ rw e

    pub gathering_iteration : {r : Answer ℕ} {n : ℕ} → pages ≤ length out₀ → r ≡ Some n → Filled (entries_due l (pages - at) (as_directory d)) at out r out'
        → Gathering v l pages ds out₀ (i + 1) (at + n) out'
    unfolding add_entries
    gathering_iteration {r} {n} m t f =
        let p = filled_yes (entries_due l (pages - at) (as_directory d)) at out out' t f in
        let due : n ≡ min entries_per_block (pages - at) = sym p.count ∙ due_count l (pages - at) (as_directory d) p.some_are in
        let ro = a.room in
        let y : at ≡ 0 + at = omega arith in
        let z : pages - at - entries_per_block ≡ pages - (at + n) = omega arith in
        let more = read_directories v l (pages - (at + n)) (drop (i + 1) ds) in
        let q : read_directories v l (pages - at) (drop i ds) ≡ Option·map (λ es. p.entries ++ es) more
        = next ∙ ap (λ (x : Option (List ℕ)). add_entries x (read_directories v l (pages - at - entries_per_block) (drop (i + 1) ds))) p.some_are ∙ rw z in
        record {
          done = a.done ++ p.entries;
          count = length-append a.done p.entries ∙ omega (arith, a.count, p.count);
          room = omega arith;
          put = p.put ∙ ap (λ (o : List ℕ). over o at p.entries) a.put ∙ ap (λ (k : ℕ). over (over out₀ 0 a.done) k p.entries) y
              ∙ over_then out₀ a.done p.entries 0 at (sym a.count) (omega (arith, a.count));
          rest = a.rest ∙ ap (Option·map (λ es. a.done ++ es)) q ∙ behind_two a.done p.entries more;
        }

    pub gathering_stop : {r : Answer ℕ} (out'' : List ℕ) → r ≡ None → Filled (entries_due l (pages - at) (as_directory d)) at out r out'
        → Filled (read_directories v l pages ds) 0 out₀ None out''
    unfolding add_entries
    gathering_stop out'' t f =
        let e = filled_not (entries_due l (pages - at) (as_directory d)) at out out' t f in
        not_put (read_directories v l pages ds) 0 out₀ out'' (a.rest ∙ rw (next, e))

  pub gathering_end : length ds ≤ i → Filled (read_directories v l pages ds) 0 out₀ (Some at) out
  unfolding read_directories
  gathering_end h =
      let q : read_directories v l pages ds ≡ some a.done = a.rest ∙ rw (drop_end ds i h) (ap some (append-nil a.done)) in
      rw q (ap Some (sym a.count), a.put)
