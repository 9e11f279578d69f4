-- `memory_pages::remove_page` meets its contract: `close_page` moves no row to the page before, since page p has none (`page_removed`).
use Rattle.basics.proofs.Kit.{◌≡◌, sym, ◌∙◌, subst, ℕ, ◌<◌, arith}
use Rattle.memory_layout.proofs.Laws.{entries_length}
use Rattle.memory_layout.specs.Views.{page_count, table_at}
use Rattle.memory_pages.proofs.Changes.{page_removed}
use Rattle.memory_pages.proofs.Entries.{ends_behind}
use Rattle.memory_pages.proofs.Tables.{TableIs, table_is}
use Rattle.memory_pages.proofs.Ranges.{entry_table}
use Rattle.memory_pages.proofs.remove_page.Goals as goal

pub close_page-requires : goal.close_page-requires
close_page-requires c = let m = c.args.m.now in let p = c.args.p in
    let h : p < page_count m = omega (arith, entries_length m, c.requires.1.place) in
    let e : c.table_of-table.result ≡ table_at m p = c.table_of-table.ensures.0 ∙ entry_table m p h in
    (c.requires.0, record { table = c.table_of-table.ensures.1; place = h; behind = ends_behind (subst (λ (z : ℕ). TableIs m p z) (sym e) (table_is c.requires.0 p)) h })

pub returns : goal.returns
returns c = let m = c.args.m.now in let p = c.args.p in
    let h : p < page_count m = omega (arith, entries_length m, c.requires.1.place) in
    page_removed c.requires.0 h (c.table_of-table.ensures.0 ∙ entry_table m p h) c.close_page.ensures c.requires.1.empty
