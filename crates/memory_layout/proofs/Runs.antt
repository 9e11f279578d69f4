-- Pages as runs of the rows: as many tuples are held as there are rows.
use Rattle.basics.proofs.Kit.{◌≡◌, refl, sym, ◌∙◌, List, [], ◌∷◌, map, length, take, drop, length-append, length-drop, length-map, length-take-le, arith}
use Rattle.basics.specs.Basics.{sum}
use Rattle.image_rows.specs.Rows.{rows_of}
use Rattle.image.proofs.Collect.{length_rows}
use Rattle.model.specs.State.{Held}
use Rattle.model.specs.Sight.{held}
use Rattle.memory_layout.specs.Flat.{Flat}
use Rattle.memory_layout.specs.Store.{page_of, nest, pages_in, total}
use Rattle.memory_layout.specs.declared.Entry.{Entry}

held_nest : (es : List Entry) (hs : List Held) → length hs ≡ total es → length (held (nest es hs)) ≡ total es
unfolding nest held total sum page_of
held_nest [] hs h = refl
held_nest (e ∷ es) hs h =
    let xs : List Held = take e.count hs in
    let l : length xs ≡ e.count = length-take-le e.count hs (omega arith) in
    let a : length (rows_of e.table (map (λ (h : Held). h.tuple) xs)) ≡ e.count =
    length_rows _ (map (λ (h : Held). h.tuple) xs) ∙ length-map xs (λ (h : Held). h.tuple) ∙ l in
    let b : length (held (nest es (drop e.count hs))) ≡ total es = held_nest es (drop e.count hs) (simp length-drop (omega arith)) in
    length-append (rows_of e.table (map (λ (h : Held). h.tuple) xs)) (held (nest es (drop e.count hs))) ∙ omega arith

pub held_count : (f : Flat) → total f.entries ≡ length f.rows → length (held (pages_in f)) ≡ length f.rows
held_count f full = held_nest f.entries f.rows (sym full) ∙ full
