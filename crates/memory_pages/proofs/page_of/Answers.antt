-- `memory_pages::page_of` meets its contract: the page follows from how many pages from a on start at or before row i (`found`).
use Rattle.memory_layout.proofs.Laws.{starts, entries_length}
use Rattle.memory_bytes.specs.Columns.{up_to}
use Rattle.basics.specs.Lists.{tab}
use Rattle.memory_bytes.specs.Bytes.{column2}
use Rattle.basics.specs.Basics.{how_many}
use Rattle.basics.proofs.Kit.{ap, ◌∙◌, ℕ, ◌-◌, arith}
use Rattle.memory_pages.proofs.Finding.{Found, found}
use Rattle.memory_pages.proofs.Ranges.{ranges, start_most}
use Rattle.memory_pages.proofs.page_of.Goals as goal

pub overflow_cast-i : goal.overflow_cast-i
overflow_cast-i c = let m = c.args.m.now in let o = c.requires.1 in
    omega (arith, ranges c.requires.0, start_most c.requires.0 c.args.b, starts m c.requires.0 c.args.b (omega (arith, entries_length m, o.most)), o.last)

pub count_up_to2-requires : goal.count_up_to2-requires
count_up_to2-requires c = let m = c.args.m.now in let o = c.requires.1 in
    record {
      order = omega (arith, o.some);
      few = omega (arith, ranges c.requires.0, entries_length m, o.most);
      inside = omega (arith, ranges c.requires.0, entries_length m, o.most, c.starts.ensures);
    }

-- what the count says
known : (c : goal.After-count_up_to2)
    → Found c.args.m.now c.args.a c.args.b c.args.i c.count_up_to2.result
known c = let a = c.args in
    found c.requires.0 a.a a.b a.i c.count_up_to2.result c.requires.1
    (c.count_up_to2.ensures ∙ ap (λ (s : ℕ). how_many (up_to a.i) (tab (column2 a.m.now s) a.a (a.b - a.a))) c.starts.ensures)

pub overflow_add-result : goal.overflow_add-result
overflow_add-result c = omega (arith, (known c).most, ranges c.requires.0, entries_length c.args.m.now, c.requires.1.most)

pub overflow_sub-result : goal.overflow_sub-result
overflow_sub-result c = omega (arith, (known c).least)

pub returns : goal.returns
returns c = (known c).page
