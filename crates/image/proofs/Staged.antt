-- The stages of the tests, put together.
use Rattle.std.specs.Prelude.{Some, None, Option as Answer}
use Rattle.basics.proofs.Kit.{◌≡◌, refl, sym, ap, ◌∙◌, Bool, true, false, some, none, Option, ◌&&◌, eqb, leb, List, [], ◌∷◌, ◌++◌, map, ℕ, ◌+◌, ◌*◌, ◌%◌, ◌≤◌, ◌/◌, ◌-◌}
use Rattle.basics.proofs.Kit.{length, take, drop, length-append, length-take, take_at, le-leb, leb-true, eqb-true, eq-eqb, arith}
use Rattle.basics.specs.Basics.{if'◌then◌else◌, all, every}
use Rattle.basics.proofs.Facts.{by, by-option, never, lie, and_true, clash}
use Rattle.basics.proofs.Elements.{some_eq, every_all}
use Rattle.basics.specs.Lists.{over}
use Rattle.block_forms.specs.Limits.{entries_per_block, block_limit, block_size}
use Rattle.block_forms.specs.Spell.{zeros}
use Rattle.block_forms.specs.Block.{Block, as_header, as_page, as_directory}
use Rattle.block_forms.specs.Decode.{decode_block}
use Rattle.block_reader.specs.Answers.{reading}
use Rattle.block_forms.specs.declared.Header.{Header}
use Rattle.block_reader.specs.declared.Block.TheVariants as read
use Rattle.block_reader.proofs.Answering.{is_header_lem, no_header}
use Rattle.image_rows.specs.Rows.{rows_ok}
use Rattle.image.specs.View.{View, view, block_at, block_count}
use Rattle.image.specs.Stages.{Stage, refuses, holds, whole_blocks, block_ok, directories_for, numbers_of, directory_blocks, header_ok, header_test, entries_due, add_entries, read_directories}
use Rattle.image.specs.Stages.{entries_ok, tested_entries, capacity_limit}
use Rattle.image.specs.Stages.{directory_test, StoredPage, read_pages, rows_of_pages, tested_pages, page_test}
use Rattle.image.specs.Whole.{header_stage, pages_below, pages_stage, with_header, after_header, read_image}
use Rattle.image.specs.Answers.{Filled, accepts, no_entries, entries_in, pages_answer, image_answer}
use Rattle.image_header.proofs.Heads.{Counts, counts_are}
use Rattle.image.proofs.Collect.{first_page}
use Rattle.image.proofs.Named.{due_count, filled_yes, filled_not}

-- ---- 1 and 22

module _ (xs : List ℕ) where
  pub ragged : (length xs % block_size ≡ 0 → 2 ≤ length xs / block_size → length xs / block_size ≤ block_limit → ⊥) → refuses 1 ≡ header_stage xs
  unfolding header_stage whole_blocks if'◌then◌else◌
  ragged n =
      by (whole_blocks (length xs))
      (λ w.
      let p = and_true (eqb (length xs % block_size) 0) (leb 2 (length xs / block_size) && leb (length xs / block_size) block_limit) w in
      let q = and_true (leb 2 (length xs / block_size)) (leb (length xs / block_size) block_limit) p.1 in
      absurd (n (eqb-true _ _ p.0) (leb-true _ _ q.0) (leb-true _ _ q.1)))
      (λ w. rw w)

  module _ (w : length xs % block_size ≡ 0) (l : 2 ≤ length xs / block_size) (m : length xs / block_size ≤ block_limit) (bs : List ℕ) (b : bs ≡ block_at xs 0) where
    -- the first block decides
    pub by_block : header_test (length xs / block_size) (as_header (decode_block bs)) ≡ header_stage xs
    unfolding header_stage whole_blocks block_count view if'◌then◌else◌
    by_block = rw (b, eq-eqb (length xs % block_size) 0 w, le-leb 2 (length xs / block_size) l, le-leb (length xs / block_size) block_limit m)

module _ (n : ℕ) where
  pub header_yes : (b : Block) {h : Header} → Some (read.Header h) ≡ reading b → header_ok n h ≡ true → holds h ≡ header_test n (as_header b)
  unfolding header_test if'◌then◌else◌
  header_yes b e t = rw (is_header_lem b e, t)

  pub header_no : (b : Block) {h : Header} → Some (read.Header h) ≡ reading b → header_ok n h ≡ false → refuses 22 ≡ header_test n (as_header b)
  unfolding header_test if'◌then◌else◌
  header_no b e t = rw (is_header_lem b e, t)

  pub other_header : (b : Block) → ((h : Header) → reading b ≡ Some (read.Header h) → ⊥) → refuses 22 ≡ header_test n (as_header b)
  unfolding header_test
  other_header b e = rw (no_header b e)

-- what a header that passed says
pub record Passing (xs : List ℕ) (h : Header) : Type 0 where
  pub counts : Counts (block_count xs) h
  pub directories : all (block_ok (block_count xs)) (directory_blocks h) ≡ true

pub refuses-holds {ℓ} : {A : Type 0} {X : Type ℓ} {n : ℕ} {a : A} → refuses n ≡ holds a → X
refuses-holds e = clash cc

pub holds_eq : {A : Type 0} {a b : A} → holds a ≡ holds b → a ≡ b
holds_eq e = cc

tested_ok : (n : ℕ) (o : Option Header) (h : Header) → header_test n o ≡ holds h → header_ok n h ≡ true
unfolding header_test if'◌then◌else◌
tested_ok n none h e = refuses-holds e
tested_ok n (some g) h e =
    by (header_ok n g) (λ t. let q : g ≡ h = holds_eq (rw t at e) in rw (← q) t) (λ t. refuses-holds (rw t at e))

pub passing : (xs : List ℕ) (h : Header) → header_stage xs ≡ holds h → Passing xs h
unfolding header_stage header_ok if'◌then◌else◌
passing xs h e =
    by (whole_blocks (length xs))
    (λ w.
    let t = tested_ok (block_count xs) (as_header (view xs 0)) h (rw w at e) in
    let a = every_all _ t in
    record { counts = counts_are (block_count xs) h a.0; directories = a.1.0 })
    (λ w. refuses-holds (rw w at e))

-- ---- 23: as many entries as pages

record Joined (o more : Option (List ℕ)) (es : List ℕ) : Type 0 where
  pub first : List ℕ
  pub others : List ℕ
  pub is : o ≡ some first
  pub rest : more ≡ some others
  pub are : es ≡ first ++ others

joined : (o more : Option (List ℕ)) {es : List ℕ} → add_entries o more ≡ some es → Joined o more es
unfolding add_entries
joined none more e = never e
joined (some fs) none e = never e
joined (some fs) (some gs) e = record { first = fs; others = gs; is = refl; rest = refl; are = sym (some_eq e) }

pub entries_count : (v : View) (l : ℕ) (ds : List ℕ) (p : ℕ) (es : List ℕ) → p ≤ entries_per_block * length ds → read_directories v l p ds ≡ some es → length es ≡ p
unfolding read_directories
entries_count v l [] p es h e = let z : es ≡ [] = cc in ap length z ∙ omega arith
entries_count v l (d ∷ ds) p es h e =
    let j = joined (entries_due l p (as_directory (v d))) (read_directories v l (p - entries_per_block) ds) e in
    let n = entries_count v l ds (p - entries_per_block) j.others (omega arith) j.rest in
    ap length j.are ∙ length-append j.first j.others ∙ omega (arith, due_count l p (as_directory (v d)) j.is)

-- ---- 24: the blocks of the pages are the entries

pub read_blocks : (v : View) (l : ℕ) (es : List ℕ) (ps : List StoredPage) → read_pages v l es ≡ some ps → map (λ p. p.block) ps ≡ es
unfolding read_pages
read_blocks v l [] ps e = let z : ps ≡ [] = cc in ap (map (λ p. p.block)) z
read_blocks v l (x ∷ es) ps e =
    let f = first_page l x (as_page (v x)) (read_pages v l es) e in
    ap (map (λ p. p.block)) f.are ∙ ap (λ (m : List ℕ). x ∷ m) (read_blocks v l es f.others f.rest)

-- ---- 23 and 24 together

module _ (v : View) (h : Header) where
  abbrev entries_read : Option (List ℕ)
  entries_read = read_directories v h.level h.pages (directory_blocks h)

  pub bad_directory : entries_read ≡ none → pages_stage v h ≡ refuses 23
  unfolding pages_stage pages_below directory_test tested_entries
  bad_directory e = rw e

  module _ (es : List ℕ) (e : entries_read ≡ some es) where
    pub bad_entries : entries_ok h.blocks (directory_blocks h) es ≡ false → pages_stage v h ≡ refuses 23
    unfolding pages_stage pages_below directory_test tested_entries if'◌then◌else◌
    bad_entries t = rw (e, t)

    module _ (t : entries_ok h.blocks (directory_blocks h) es ≡ true) where
      by_pages : pages_stage v h ≡ page_test v h es
      unfolding pages_stage pages_below directory_test tested_entries if'◌then◌else◌
      by_pages = rw (e, t)

      pages_refused : (o : Option (List StoredPage)) → accepts (tested_pages h o) ≡ false → tested_pages h o ≡ refuses 24
      unfolding accepts tested_pages if'◌then◌else◌
      pages_refused none q = refl
      pages_refused (some ps) q =
          by (rows_ok h.capacity h.next (rows_of_pages ps))
          (λ r. let z : true ≡ false = rw r at q in lie (sym z))
          (λ r. rw r)

      pub bad_pages : accepts (page_test v h es) ≡ false → pages_stage v h ≡ refuses 24
      unfolding page_test
      bad_pages q = by_pages ∙ pages_refused (read_pages v h.level es) q

      pages_held : (o : Option (List StoredPage)) → read_pages v h.level es ≡ o → accepts (tested_pages h o) ≡ true
          → pages_answer (tested_pages h o) ≡ holds (over no_entries 0 es)
      unfolding accepts tested_pages pages_answer entries_in if'◌then◌else◌
      pages_held none r q = lie q
      pages_held (some ps) r q =
          by (rows_ok h.capacity h.next (rows_of_pages ps))
          (λ k. rw (k, read_blocks v h.level es ps r))
          (λ k. let z : false ≡ true = rw k at q in lie z)

      pub all_good : accepts (page_test v h es) ≡ true → pages_answer (pages_stage v h) ≡ holds (over no_entries 0 es)
      unfolding page_test
      all_good q = ap pages_answer by_pages ∙ pages_held (read_pages v h.level es) refl q

-- what they showed, where they passed
pub record Tested (v : View) (h : Header) (ps : List StoredPage) : Type 0 where
  pub entries : List ℕ
  pub listed : read_directories v h.level h.pages (directory_blocks h) ≡ some entries
  pub entries_ok : entries_ok h.blocks (directory_blocks h) entries ≡ true
  pub read : read_pages v h.level entries ≡ some ps
  pub rows_ok : rows_ok h.capacity h.next (rows_of_pages ps) ≡ true

pub tested : (v : View) (h : Header) (ps : List StoredPage) → pages_stage v h ≡ holds ps → Tested v h ps
unfolding pages_stage pages_below directory_test tested_entries page_test tested_pages if'◌then◌else◌
tested v h ps e =
    by-option (read_directories v h.level h.pages (directory_blocks h))
    (λ b. refuses-holds (rw b at e))
    (λ es b. by (entries_ok h.blocks (directory_blocks h) es)
    (λ c. by-option (read_pages v h.level es)
    (λ d. refuses-holds (rw (b, c, d) at e))
    (λ qs d. by (rows_ok h.capacity h.next (rows_of_pages qs))
    (λ r.
    let z : holds qs ≡ holds ps = rw (b, c, d, r) at e in
    let q : qs ≡ ps = holds_eq z in
    record { entries = es; listed = b; entries_ok = c; read = d ∙ ap some q; rows_ok = ap (λ (x : List StoredPage). rows_ok h.capacity h.next (rows_of_pages x)) (sym q) ∙ r })
    (λ r. refuses-holds (rw (b, c, d, r) at e))))
    (λ c. refuses-holds (rw (b, c) at e)))

-- ---- the same, as the code has it

-- the 1,024 zeros that the code begins with
pub none_read : zeros capacity_limit ≡ no_entries
unfolding no_entries
none_read = refl

-- the entries that were read
pub record Got (xs : List ℕ) (h : Header) (out : List ℕ) : Type 0 where
  pub passed : Passing xs h
  pub entries : List ℕ
  pub read : entries_read (view xs) h ≡ some entries
  pub out_are : out ≡ over no_entries 0 entries
  pub front : take h.pages out ≡ entries

module _ {xs : List ℕ} {h : Header} where
  module _ (b : Passing xs h) where
    pub four : h.directories ≤ 4
    four = omega (arith, b.counts.four)

    pub within_none : h.pages ≤ capacity_limit
    within_none = omega (arith, b.counts.pages, b.counts.high)

    pub named : all (block_ok (block_count xs)) (take h.directories (numbers_of h)) ≡ true
    unfolding directory_blocks
    named = b.directories

    read_are : read_directories (view xs) h.level h.pages (take h.directories (numbers_of h)) ≡ entries_read (view xs) h
    unfolding directory_blocks
    read_are = refl

    -- each directory block but the last has 336 entries
    enough : h.pages ≤ entries_per_block * length (take h.directories (numbers_of h))
    unfolding directories_for
    enough = simp length-take (omega (arith, four, b.counts.directories))

    module _ {none : List ℕ} (e : none ≡ no_entries) (out : List ℕ) {r : Answer ℕ}
        (f : Filled (read_directories (view xs) h.level h.pages (take h.directories (numbers_of h))) 0 none r out) where
      pub not_read : r ≡ None → pages_stage (view xs) h ≡ refuses 23
      not_read t = bad_directory (view xs) h (sym read_are ∙ filled_not _ 0 none out t f)

      pub got : {n : ℕ} → r ≡ Some n → Got xs h out
      unfolding over
      got t =
          let q = filled_yes (read_directories (view xs) h.level h.pages (take h.directories (numbers_of h))) 0 none out t f in
          let n = entries_count (view xs) h.level (take h.directories (numbers_of h)) h.pages q.entries enough q.some_are in
          let o : out ≡ over no_entries 0 q.entries = q.put ∙ ap (λ (l : List ℕ). over l 0 q.entries) e in
          record {
            passed = b;
            entries = q.entries;
            read = sym read_are ∙ q.some_are;
            out_are = o;
            front = ap (take h.pages) o ∙ take_at q.entries (drop (0 + length q.entries) no_entries) h.pages n;
          }

  module _ {out : List ℕ} (g : Got xs h out) {k : Bool} (ok : k ≡ entries_ok h.blocks (take h.directories (numbers_of h)) (take h.pages out)) where
    ok_are : {b : Bool} → k ≡ b → entries_ok h.blocks (directory_blocks h) g.entries ≡ b
    unfolding directory_blocks
    ok_are t = rw (← g.front) (sym ok ∙ t)

    pub not_ok : k ≡ false → pages_stage (view xs) h ≡ refuses 23
    not_ok t = bad_entries (view xs) h g.entries g.read (ok_are t)

    module _ (t : k ≡ true) where
      -- every entry is a block of the image
      pub in_image : all (block_ok (block_count xs)) (take h.pages out) ≡ true
      unfolding entries_ok every
      in_image = rw (g.front, ← g.passed.counts.blocks) (and_true (all (block_ok h.blocks) g.entries) _ (ok_are t)).0

      module _ {m : Bool} (pages-ok : m ≡ accepts (page_test (view xs) h (take h.pages out))) where
        test_are : accepts (page_test (view xs) h g.entries) ≡ m
        test_are = sym (pages-ok ∙ rw g.front)

        pub wrong_pages : m ≡ false → pages_stage (view xs) h ≡ refuses 24
        wrong_pages q = bad_pages (view xs) h g.entries g.read (ok_are t) (test_are ∙ q)

        pub right_pages : m ≡ true → holds out ≡ pages_answer (pages_stage (view xs) h)
        right_pages q = rw g.out_are (sym (all_good (view xs) h g.entries g.read (ok_are t) (test_are ∙ q)))

-- ---- all together

-- what the answer of tests 23 and 24 says
pub pages_stopped : (s : Stage (List StoredPage)) {n : ℕ} → refuses n ≡ pages_answer s → s ≡ refuses n
unfolding pages_answer
pages_stopped (refuses m) {n} e = let z : n ≡ m = cc in ap refuses (sym z)
pages_stopped (holds ps) e = refuses-holds e

-- the pages that were accepted, and their entries
pub record Accepted (s : Stage (List StoredPage)) (es : List ℕ) : Type 0 where
  pub pages : List StoredPage
  pub is : s ≡ holds pages
  pub entries : es ≡ entries_in pages

pub pages_accepted : (s : Stage (List StoredPage)) {es : List ℕ} → holds es ≡ pages_answer s → Accepted s es
unfolding pages_answer
pages_accepted (refuses n) e = refuses-holds (sym e)
pages_accepted (holds ps) e = record { pages = ps; is = refl; entries = holds_eq e }

module _ (xs : List ℕ) where
  pub image_refused : {n : ℕ} → refuses n ≡ header_stage xs → refuses n ≡ image_answer (read_image xs)
  unfolding read_image after_header image_answer
  image_refused e = rw (← e)

  module _ (h : Header) (e : holds h ≡ header_stage xs) where
    then_pages : image_answer (with_header h (pages_stage (view xs) h)) ≡ image_answer (read_image xs)
    unfolding read_image after_header
    then_pages = rw (← e)

    pub image_stopped : {n : ℕ} → refuses n ≡ pages_answer (pages_stage (view xs) h) → refuses n ≡ image_answer (read_image xs)
    unfolding with_header image_answer
    image_stopped q = sym (ap (λ (s : Stage (List StoredPage)). image_answer (with_header h s)) (pages_stopped (pages_stage (view xs) h) q)) ∙ then_pages

    pub image_holds : {es : List ℕ} → holds es ≡ pages_answer (pages_stage (view xs) h) → holds (record { header = h; entries = es }) ≡ image_answer (read_image xs)
    unfolding with_header image_answer
    image_holds q =
        let a = pages_accepted (pages_stage (view xs) h) q in
        (λ i. holds (record { header = h; entries = a.entries i }))
        ∙ sym (ap (λ (s : Stage (List StoredPage)). image_answer (with_header h s)) a.is) ∙ then_pages
