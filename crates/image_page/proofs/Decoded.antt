-- What a page that was read says of its bytes, and what its tests make of it.
use Rattle.std.specs.Prelude.{Some, None}
use Rattle.basics.proofs.Kit.{◌≡◌, sym, ◌∙◌, subst, true, some, List, [], ◌∷◌, ℕ, ◌≤◌, leb, length, le-leb, leb-true}
use Rattle.basics.specs.Basics.{if'◌then◌else◌, all, every}
use Rattle.block_forms.specs.Tuple.{Tuple}
use Rattle.block_forms.specs.Block.{as_page}
use Rattle.block_forms.specs.Decode.{page_tuples, decode_block}
use Rattle.block_reader.specs.Answers.{reading}
use Rattle.block_reader.specs.declared.PageHead.{PageHead}
use Rattle.block_reader.specs.declared.Block.TheVariants.{Page}
use Rattle.block_reader.proofs.Answering.{is_page}
use Rattle.block_reader.proofs.Walk.{walk_start}
use Rattle.image_rows.specs.Rows.{rows_of, mark_ok}
use Rattle.basics.proofs.Ands.{and_assoc}
use Rattle.basics.proofs.Facts.{by}
use Rattle.basics.proofs.Elements.{any_there, every_all}
use Rattle.image_page.specs.Page.{page_ok, good_page}

-- bytes that are read as a page with this head
pub record Passed (h : PageHead) (xs : List ℕ) : Type 0 where
  pub tuples : List Tuple
  pub is : as_page (decode_block xs) ≡ some (record { table = h.table; level = h.level; tuples = tuples })
  pub count : length tuples ≡ h.count
  pub read : page_tuples h.count xs ≡ some tuples

pub passed : (xs : List ℕ) {h : PageHead} → Some (Page h) ≡ reading (decode_block xs) → Passed h xs
passed xs e =
    let p = is_page (decode_block xs) e in
    record { tuples = p.tuples; is = p.is; count = p.count; read = subst (λ m. page_tuples m xs ≡ some p.tuples) p.count (walk_start xs p.is).read }

-- it may stand in an image whose header has level l, with at most `room` tuples
pub record Good (l room : ℕ) (h : PageHead) (ts : List Tuple) : Type 0 where
  pub counted : 1 ≤ h.count
  pub written : 1 ≤ h.level
  pub older : h.level ≤ l
  pub few : h.count ≤ room
  pub marks : all mark_ok (rows_of h.table ts) ≡ true

module _ (l room : ℕ) {h : PageHead} {xs : List ℕ} (p : Passed h xs) where
  -- the tests of a page in the order of the code
  good_is : good_page l room (as_page (decode_block xs))
      ≡ (if' every (leb 1 h.count ∷ leb 1 h.level ∷ leb h.level l ∷ leb h.count room ∷ all mark_ok (rows_of h.table p.tuples) ∷ []) then Some h else None)
  unfolding good_page page_ok every
  good_is = rw (p.is, any_there p.tuples, p.count, and_assoc, and_assoc)

  -- a test that failed
  pub good_not : (Good l room h p.tuples → ⊥) → None ≡ good_page l room (as_page (decode_block xs))
  unfolding if'◌then◌else◌ every
  good_not n =
      by (every (leb 1 h.count ∷ leb 1 h.level ∷ leb h.level l ∷ leb h.count room ∷ all mark_ok (rows_of h.table p.tuples) ∷ []))
      (λ e.
      let q = every_all (leb 1 h.count ∷ leb 1 h.level ∷ leb h.level l ∷ leb h.count room ∷ all mark_ok (rows_of h.table p.tuples) ∷ []) e in
      absurd (n (record { counted = leb-true _ _ q.0; written = leb-true _ _ q.1.0; older = leb-true _ _ q.1.1.0; few = leb-true _ _ q.1.1.1.0; marks = q.1.1.1.1.0 })))
      (λ e. sym (good_is ∙ rw e))

  pub good_yes : Good l room h p.tuples → Some h ≡ good_page l room (as_page (decode_block xs))
  unfolding if'◌then◌else◌ every
  good_yes g = sym (good_is ∙ rw (le-leb _ _ g.counted, le-leb _ _ g.written, le-leb _ _ g.older, le-leb _ _ g.few, g.marks))
