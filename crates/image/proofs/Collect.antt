-- The pages of an image one after another, their rows in columns; and what the tests make of them.
use Rattle.std.specs.Prelude.{Some, None, Option as Answer}
use Rattle.block_forms.specs.Limits.{block_size}
use Rattle.basics.proofs.Kit.{◌≡◌, refl, sym, ap, ◌∙◌, subst, Bool, true, false, ◌&&◌, some, none, Option, Option·map, List, [], ◌∷◌, ◌++◌, append_assoc, append-nil, map, ℕ, suc, ◌+◌, ◌*◌, ◌≤◌}
use Rattle.basics.proofs.Kit.{◌<◌, ◌/◌, ◌-◌, leb, ltb, length, drop, get_or, length-append, le-leb, leb-true, lt-leb, leb-false}
use Rattle.basics.proofs.Kit.{ltb-true, arith}
use Rattle.basics.specs.Basics.{if'◌then◌else◌, all, every}
use Rattle.basics.proofs.Facts.{by, by-option, never, and_true, clash}
use Rattle.basics.proofs.Elements.{some_eq}
use Rattle.basics.proofs.Lists.{map_append, all_get, all_join, behind_none, behind_two}
use Rattle.block_forms.specs.Tuple.{Tuple}
use Rattle.block_forms.specs.Block.{PageBlock, as_page}
use Rattle.block_forms.specs.Decode.{page_tuples, decode_block}
use Rattle.block_forms.specs.declared.Header.{Header}
use Rattle.block_reader.specs.declared.PageHead.{PageHead}
use Rattle.block_reader.proofs.Walk.{walk_start}
use Rattle.image_rows.specs.Rows.{Row, rows_of, mark_ok, rows_ok}
use Rattle.image_rows.specs.Columns.{bare, rows_in, columns_ok}
use Rattle.basics.proofs.Ands.{and_yes, and_no}
use Rattle.basics.proofs.Iterations.{drop_iteration, drop_end}
use Rattle.image_rows.proofs.Bare.{columns_bare, rows_tests}
use Rattle.image_page.specs.Page.{good_page}
use Rattle.image.specs.View.{View, view, block_at, block_count}
use Rattle.image.specs.Stages.{refuses, holds, block_ok, StoredPage, stored_page, page_ok, add_page, read_pages, rows_of_pages, tested_pages, page_test}
use Rattle.image.specs.Answers.{accepts}

-- ---- lists

rows_pages : (ps qs : List StoredPage) → rows_of_pages (ps ++ qs) ≡ rows_of_pages ps ++ rows_of_pages qs
unfolding rows_of_pages
rows_pages [] qs = refl
rows_pages (p ∷ ps) qs = rw (rows_pages ps qs) (sym (append_assoc (rows_of p.table p.tuples) (rows_of_pages ps) (rows_of_pages qs)))

-- a block that may be named is in the image
pub within : (xs es : List ℕ) (i : ℕ) → all (block_ok (block_count xs)) es ≡ true → i < length es → block_size * get_or es i 0 + block_size ≤ length xs
unfolding block_ok block_count
within xs es i e h =
    let b = and_true (ltb 0 (get_or es i 0)) (ltb (get_or es i 0) (length xs / block_size)) (all_get (block_ok (block_count xs)) 0 es i e h) in
    let l = ltb-true (get_or es i 0) (length xs / block_size) b.1 in omega arith

-- ---- a good page

pub record Goods (l room : ℕ) (p : PageHead) (o : Option PageBlock) : Type 0 where
  pub tuples : List Tuple
  pub is : o ≡ some (record { table = p.table; level = p.level; tuples = tuples })
  pub right : page_ok l (record { table = p.table; level = p.level; tuples = tuples }) ≡ true
  pub count : length tuples ≡ p.count
  pub room_left : p.count ≤ room
  pub marks : all mark_ok (rows_of p.table tuples) ≡ true

no-good {ℓ} : {X : Type ℓ} {p : PageHead} → None ≡ Some p → X
no-good e = clash cc

pub goods : (l room : ℕ) (o : Option PageBlock) {p : PageHead} → good_page l room o ≡ Some p → Goods l room p o
unfolding good_page if'◌then◌else◌ every
goods l room none e = no-good e
goods l room (some b) {p} e =
    by (page_ok l b && (leb (length b.tuples) room && (all mark_ok (rows_of b.table b.tuples) && true)))
    (λ h.
    let g : Some (record { table = b.table; count = length b.tuples; level = b.level }) ≡ Some p = rw h at e in
    let q : record { table = b.table; count = length b.tuples; level = b.level } ≡ p = cc in
    let x = and_true (page_ok l b) _ h in
    let y = and_true (leb (length b.tuples) room) _ x.1 in
    let z = and_true (all mark_ok (rows_of b.table b.tuples)) true y.1 in
    let G : PageHead → Type 0 = λ k. Goods l room k (some b) in
    subst G q (record { tuples = b.tuples; is = refl; right = x.0; count = refl; room_left = leb-true (length b.tuples) room y.0; marks = z.0 }))
    (λ h. no-good (rw h at e))

-- a good page is one more
page_added : (l room e : ℕ) (p : PageHead) (o : Option PageBlock) (g : Goods l room p o) (more : Option (List StoredPage))
    → add_page l e o more ≡ Option·map (λ ps. record { block = e; table = p.table; tuples = g.tuples } ∷ ps) more
unfolding add_page if'◌then◌else◌
page_added l room e p o g more = rw (g.is, g.right)

-- the first of some pages, and those after it
pub record First (l e : ℕ) (o : Option PageBlock) (more : Option (List StoredPage)) (ps : List StoredPage) : Type 0 where
  pub page : PageBlock
  pub is : o ≡ some page
  pub right : page_ok l page ≡ true
  pub others : List StoredPage
  pub rest : more ≡ some others
  pub are : ps ≡ stored_page e page ∷ others

pub first_page : (l e : ℕ) (o : Option PageBlock) (more : Option (List StoredPage)) {ps : List StoredPage} → add_page l e o more ≡ some ps → First l e o more ps
unfolding add_page if'◌then◌else◌
first_page l e none more q = never q
first_page l e (some p) none q = by (page_ok l p) (λ r. never (rw r at q)) (λ r. never (rw r at q))
first_page l e (some p) (some qs) q =
    by (page_ok l p)
    (λ r. record { page = p; is = refl; right = r; others = qs; rest = refl; are = sym (some_eq (rw r at q)) })
    (λ r. never (rw r at q))

pub length_rows : (t : ℕ) (ts : List Tuple) → length (rows_of t ts) ≡ length ts
unfolding rows_of
length_rows t [] = refl
length_rows t (x ∷ ts) = ap suc (length_rows t ts)

-- a page at the end
one_more : (ps : List StoredPage) (p : StoredPage) → rows_of_pages (ps ++ (p ∷ [])) ≡ rows_of_pages ps ++ rows_of p.table p.tuples
unfolding rows_of_pages
one_more ps p = rows_pages ps (p ∷ []) ∙ ap (λ (x : List Row). rows_of_pages ps ++ x) (append-nil (rows_of p.table p.tuples))

-- ---- a page that is not good

too_many : (cap next : ℕ) (rs : List Row) → cap < length rs → rows_ok cap next rs ≡ false
too_many cap next rs h = rows_tests cap next rs ∙ rw (lt-leb (length rs) cap h, and_no)

mark_wrong : (cap next : ℕ) (rs : List Row) → all mark_ok rs ≡ false → rows_ok cap next rs ≡ false
mark_wrong cap next rs e = rows_tests cap next rs ∙ rw (e, and_no, and_no)

-- no list of pages that goes on with it passes: it has too many tuples, or a wrong delete mark
module _ (l room cap next e : ℕ) (done : List StoredPage) (full : length (rows_of_pages done) + room ≡ cap) where
  bad_rows : (p : PageBlock) → good_page l room (some p) ≡ None → page_ok l p ≡ true → (qs : List StoredPage) → rows_ok cap next (rows_of_pages (done ++ (stored_page e p ∷ qs))) ≡ false
  unfolding rows_of_pages good_page if'◌then◌else◌ every
  bad_rows p bad right qs =
      let own : List Row = rows_of p.table p.tuples in
      let ps : List StoredPage = done ++ (stored_page e p ∷ qs) in
      let rs : rows_of_pages ps ≡ rows_of_pages done ++ (own ++ rows_of_pages qs) = rows_pages done (stored_page e p ∷ qs) in
      by (leb (length p.tuples) room)
      (λ a. by (all mark_ok own)
      (λ b. let z : Some (record { table = p.table; count = length p.tuples; level = p.level }) ≡ None = rw (right, a, b) at bad in no-good (sym z))
      (λ b. mark_wrong cap next (rows_of_pages ps)
      (ap (all mark_ok) rs ∙ rw (all_join mark_ok (rows_of_pages done) (own ++ rows_of_pages qs), all_join mark_ok own (rows_of_pages qs), b, and_no))))
      (λ a.
      let m = leb-false (length p.tuples) room a in
      let n = ap length rs ∙ length-append (rows_of_pages done) (own ++ rows_of_pages qs) in
      let o = length-append own (rows_of_pages qs) in
      let k = length_rows p.table p.tuples in
      too_many cap next (rows_of_pages ps) (omega arith))

  bad_page : (o : Option PageBlock) → good_page l room o ≡ None → (more : Option (List StoredPage)) (ps : List StoredPage)
      → Option·map (λ qs. done ++ qs) (add_page l e o more) ≡ some ps → rows_ok cap next (rows_of_pages ps) ≡ false
  bad_page o bad more ps q =
      by-option (add_page l e o more)
      (λ z. never (rw z at q))
      (λ us z.
      let f = first_page l e o more z in
      let y : done ++ us ≡ ps = some_eq (rw z at q) in
      ap (λ (x : List StoredPage). rows_ok cap next (rows_of_pages x)) (sym y ∙ ap (λ (x : List StoredPage). done ++ x) f.are)
      ∙ bad_rows f.page (sym (ap (good_page l room) f.is) ∙ bad) f.right f.others)

-- ---- the turns

accepted : {A : Type 0} (b : Bool) (x : A) → accepts (if' b then holds x else refuses 24) ≡ b
unfolding accepts if'◌then◌else◌
accepted true x = refl
accepted false x = refl

-- the pages of the first i entries, with their rows
pub record Collecting (v : View) (h : Header) (es : List ℕ) (i to : ℕ) (columns : List Row) : Type 0 where
  pub done : List StoredPage
  pub room : to ≤ h.capacity
  pub count : length (rows_of_pages done) ≡ to
  pub rows : columns ≡ map bare (rows_of_pages done)
  pub marks : all mark_ok (rows_of_pages done) ≡ true
  pub rest : read_pages v h.level es ≡ Option·map (λ ps. done ++ ps) (read_pages v h.level (drop i es))

pub collecting_start : (v : View) (h : Header) (es ps ns os ms : List ℕ) → Collecting v h es 0 0 (rows_in ps ns os ms 0)
unfolding rows_in rows_of_pages all
collecting_start v h es ps ns os ms =
    record { done = []; room = omega arith; count = refl; rows = refl; marks = refl; rest = sym (behind_none (read_pages v h.level es)) }

module _ {v : View} {h : Header} {es : List ℕ} {i to : ℕ} {columns : List Row} (a : Collecting v h es i to columns) where
  next : i < length es → read_pages v h.level (drop i es) ≡ add_page h.level (get_or es i 0) (as_page (v (get_or es i 0))) (read_pages v h.level (drop (i + 1) es))
  unfolding read_pages
  next l = ap (read_pages v h.level) (drop_iteration es i l)

  pub collecting_iteration : {q : PageHead} {more : List Row} → i < length es → (g : Goods h.level (h.capacity - to) q (as_page (v (get_or es i 0))))
      → more ≡ columns ++ map bare (rows_of q.table g.tuples) → Collecting v h es (i + 1) (to + q.count) more
  collecting_iteration {q} {more} l g m =
      let p : StoredPage = record { block = get_or es i 0; table = q.table; tuples = g.tuples } in
      let rs = one_more a.done p in
      let k = next l ∙ page_added h.level (h.capacity - to) (get_or es i 0) q _ g _ in
      record {
        done = a.done ++ (p ∷ []);
        room = omega (arith, a.room, g.room_left);
        count = ap length rs ∙ length-append (rows_of_pages a.done) (rows_of q.table g.tuples) ∙ omega (arith, a.count, length_rows q.table g.tuples, g.count);
        rows = m ∙ rw (a.rows, rs, map_append);
        marks = ap (all mark_ok) rs ∙ rw (all_join, a.marks, g.marks);
        rest = a.rest ∙ ap (Option·map (λ ps. a.done ++ ps)) k ∙ behind_two a.done (p ∷ []) (read_pages v h.level (drop (i + 1) es));
      }

  -- all pages are read
  pub collecting_end : length es ≤ i → columns_ok h.next columns ≡ accepts (page_test v h es)
  unfolding page_test tested_pages read_pages accepts if'◌then◌else◌
  collecting_end l =
      let rs = rows_of_pages a.done in
      let q : read_pages v h.level es ≡ some a.done = a.rest ∙ rw (drop_end es i l) (ap some (append-nil a.done)) in
      ap (columns_ok h.next) a.rows ∙ columns_bare h.next rs
      ∙ sym (rw (q, rows_tests h.capacity h.next rs, le-leb (length rs) h.capacity (omega (arith, a.count, a.room)), a.marks, and_yes) (accepted _ a.done))

  pub collecting_bad : i < length es → good_page h.level (h.capacity - to) (as_page (v (get_or es i 0))) ≡ None → false ≡ accepts (page_test v h es)
  unfolding page_test tested_pages accepts if'◌then◌else◌
  collecting_bad l bad =
      let f : length (rows_of_pages a.done) + (h.capacity - to) ≡ h.capacity = omega (arith, a.count, a.room) in
      by-option (read_pages v h.level es) (λ q. rw q)
      (λ ps q. rw (
        q,
        bad_page h.level (h.capacity - to) h.capacity h.next (get_or es i 0) a.done f _ bad _ ps
            (ap (Option·map (λ qs. a.done ++ qs)) (sym (next l)) ∙ sym a.rest ∙ q),
      ))

-- ---- the block that the code holds

module _ (xs es : List ℕ) (i : ℕ) {bs : List ℕ} (b : bs ≡ block_at xs (get_or es i 0)) where
  pub seen : decode_block bs ≡ view xs (get_or es i 0)
  unfolding view
  seen = rw b

  pub page_here : (l room : ℕ) {r : Answer PageHead} → r ≡ good_page l room (as_page (decode_block bs)) → good_page l room (as_page (view xs (get_or es i 0))) ≡ r
  page_here l room q = rw (← seen) (sym q)

  pub tuples_here : {l room : ℕ} {p : PageHead} (g : Goods l room p (as_page (view xs (get_or es i 0)))) → page_tuples p.count bs ≡ some g.tuples
  tuples_here g = rw (← g.count) (walk_start bs (ap as_page seen ∙ g.is)).read
