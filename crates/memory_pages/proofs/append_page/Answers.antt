-- `memory_pages::append_page` meets its contract: an empty page is opened, then its block is written (`page_appended`); the slots stay in order (`page_order`).
use Rattle.basics.proofs.Kit.{◌≡◌, sym, ◌∙◌, ◌*◌, ◌<◌, arith}
use Rattle.memory_layout.proofs.Laws.{rows_length, entries_length}
use Rattle.memory_layout.specs.Views.{page_count, start_at}
use Rattle.memory_layout.specs.Flat.{capacity_of, Room}
use Rattle.memory_pages.proofs.Appending.{last_stands, open_room, open_pages, page_appended, page_order}
use Rattle.memory_pages.proofs.Ranges.{ranges, head_capacity, start_behind}
use Rattle.memory_pages.proofs.append_page.Goals as goal

pub overflow_cast-start : goal.overflow_cast-start
overflow_cast-start c = omega (arith, ranges c.requires.room, c.row_count-start.ensures, rows_length c.args.m.now)

pub open_page-requires : goal.open_page-requires
open_page-requires c = let space : let m = c.args.m.now in page_count m < 2 * capacity_of m = let m = c.args.m.now in omega (arith, c.requires.may.space, entries_length m, head_capacity m) in
    (c.requires.room, record { table = c.requires.may.table; place = omega (arith, c.page_count-n.ensures); space = space })

pub overflow_mul-a : goal.overflow_mul-a
overflow_mul-a c = let space : let m = c.args.m.now in page_count m < 2 * capacity_of m = let m = c.args.m.now in omega (arith, c.requires.may.space, entries_length m, head_capacity m) in
    let start : let m = c.args.m.now in c.row_count-start.result ≡ start_at m (capacity_of m) c.page_count-n.result = let m = c.args.m.now in let n = c.page_count-n in c.row_count-start.ensures ∙ rows_length m ∙ sym (start_behind m (capacity_of m) n.result (omega (arith, n.ensures))) in
    let opened : Room c.open_page.new.m = let pre = c.requires in let n = c.page_count-n.ensures in open_room pre.room n (last_stands pre.room n pre.may) (space) pre.may.block (start) c.open_page.ensures in
    omega (arith, ranges c.requires.room, ranges (opened), c.blocks-2.ensures)

pub overflow_add-a : goal.overflow_add-a
overflow_add-a c = let space : let m = c.args.m.now in page_count m < 2 * capacity_of m = let m = c.args.m.now in omega (arith, c.requires.may.space, entries_length m, head_capacity m) in
    let start : let m = c.args.m.now in c.row_count-start.result ≡ start_at m (capacity_of m) c.page_count-n.result = let m = c.args.m.now in let n = c.page_count-n in c.row_count-start.ensures ∙ rows_length m ∙ sym (start_behind m (capacity_of m) n.result (omega (arith, n.ensures))) in
    let opened : Room c.open_page.new.m = let pre = c.requires in let n = c.page_count-n.ensures in open_room pre.room n (last_stands pre.room n pre.may) (space) pre.may.block (start) c.open_page.ensures in
    omega (arith, ranges c.requires.room, ranges (opened), c.blocks-2.ensures)

pub put2-requires : goal.put2-requires
put2-requires c = let space : let m = c.args.m.now in page_count m < 2 * capacity_of m = let m = c.args.m.now in omega (arith, c.requires.may.space, entries_length m, head_capacity m) in
    let start : let m = c.args.m.now in c.row_count-start.result ≡ start_at m (capacity_of m) c.page_count-n.result = let m = c.args.m.now in let n = c.page_count-n in c.row_count-start.ensures ∙ rows_length m ∙ sym (start_behind m (capacity_of m) n.result (omega (arith, n.ensures))) in
    let opened : Room c.open_page.new.m = let pre = c.requires in let n = c.page_count-n.ensures in open_room pre.room n (last_stands pre.room n pre.may) (space) pre.may.block (start) c.open_page.ensures in
    let pre = c.requires in let n = c.page_count-n.ensures in let s = last_stands pre.room n pre.may in
    let o = c.open_page.ensures in let b = pre.may.block in
    omega (arith, ranges (opened), open_pages pre.room n s (space) b (start) o, c.blocks-2.ensures)

pub returns : goal.returns
returns c = let space : let m = c.args.m.now in page_count m < 2 * capacity_of m = let m = c.args.m.now in omega (arith, c.requires.may.space, entries_length m, head_capacity m) in
    let start : let m = c.args.m.now in c.row_count-start.result ≡ start_at m (capacity_of m) c.page_count-n.result = let m = c.args.m.now in let n = c.page_count-n in c.row_count-start.ensures ∙ rows_length m ∙ sym (start_behind m (capacity_of m) n.result (omega (arith, n.ensures))) in
    let pre = c.requires in let n = c.page_count-n.ensures in let s = last_stands pre.room n pre.may in
    let b = c.blocks-2.ensures in
    let w = c.put2.ensures in (
      page_appended pre.room n s (space) pre.may.block (start) c.open_page.ensures b w,
      page_order pre.room n s (space) pre.may.block (start) c.open_page.ensures b w pre.order,
    )

pub blocks-requires : goal.blocks-requires
blocks-requires c = let space : let m = c.args.m.now in page_count m < 2 * capacity_of m = let m = c.args.m.now in omega (arith, c.requires.may.space, entries_length m, head_capacity m) in
    let start : let m = c.args.m.now in c.row_count-start.result ≡ start_at m (capacity_of m) c.page_count-n.result = let m = c.args.m.now in let n = c.page_count-n in c.row_count-start.ensures ∙ rows_length m ∙ sym (start_behind m (capacity_of m) n.result (omega (arith, n.ensures))) in
    let opened : Room c.open_page.new.m = let pre = c.requires in let n = c.page_count-n.ensures in open_room pre.room n (last_stands pre.room n pre.may) (space) pre.may.block (start) c.open_page.ensures in
    opened
