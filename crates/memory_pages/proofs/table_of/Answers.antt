-- `memory_pages::table_of` meets its contract: a page's table is how many of the first seven tables end at or before it (`table_counted`).
use Rattle.memory_layout.specs.Views.{table_at}
use Rattle.memory_layout.proofs.Laws.{entries_length}
use Rattle.basics.proofs.Kit.{◌≡◌, sym, ◌∙◌, arith}
use Rattle.memory_pages.proofs.Ranges.{ranges, entry_table}
use Rattle.memory_pages.proofs.Tables.{table_is, table_counted}
use Rattle.memory_pages.proofs.table_of.Goals as goal

pub overflow_cast-p : goal.overflow_cast-p
overflow_cast-p c = omega (arith, ranges c.requires.0, entries_length c.args.m.now)

pub overflow_cast-result : goal.overflow_cast-result
overflow_cast-result c = let m = c.args.m.now in let p = c.args.p in
    let e : c.count_up_to2.result ≡ table_at m p = c.count_up_to2.ensures ∙ table_counted m p in
    omega (arith, (table_is c.requires.0 p).most)

pub returns : goal.returns
returns c = let m = c.args.m.now in let p = c.args.p in
    let e : c.count_up_to2.result ≡ table_at m p = c.count_up_to2.ensures ∙ table_counted m p in
    (e ∙ sym (entry_table m p (omega (arith, entries_length m))), omega (arith, (table_is c.requires.0 p).most))
