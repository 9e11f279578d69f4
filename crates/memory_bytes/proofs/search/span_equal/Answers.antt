-- `memory_bytes::search::span_equal` meets its contract: fewer than 16 numbers by `found_covers`, 16 or more by `grouped_empty` or `grouped_covers`.
use Rattle.basics.proofs.Kit.{arith}
use Rattle.memory_bytes.specs.Bytes.{column4}
use Rattle.memory_bytes.proofs.Spans.{first_in, found_covers, grouped_empty, grouped_covers}
use Rattle.memory_bytes.proofs.search.span_equal.Goals as goal

pub last_equal-requires : goal.last_equal-requires
last_equal-requires c = let a = c.args in
    (first_in (column4 a.m.now a.base) a.key a.s a.e c.requires.0 c.find_equal-f.ensures, c.requires.1)

pub returns-then-e-s : goal.returns-then-e-s
returns-then-e-s c = let a = c.args in
    found_covers (column4 a.m.now a.base) a.key a.s a.e _ _ c.requires.0 c.find_equal-f.ensures c.last_equal.ensures

pub returns-then-g-s : goal.returns-then-g-s
returns-then-g-s c = let a = c.args in
    grouped_empty a.m.now a.base a.key c.groups_equal-g.ensures c.requires.0 c.if-g-s.true

pub overflow_sub-hi : goal.overflow_sub-hi
overflow_sub-hi c = let f = c.groups_equal-g.ensures.found c.if-g-s.false in omega arith

pub overflow_mul-lo : goal.overflow_mul-lo
overflow_mul-lo c = let f = c.groups_equal-g.ensures.found c.if-g-s.false in omega arith

pub overflow_add-base : goal.overflow_add-base
overflow_add-base c = let f = c.groups_equal-g.ensures.found c.if-g-s.false in omega arith

pub first_equal16-requires : goal.first_equal16-requires
first_equal16-requires c = let f = c.groups_equal-g.ensures.found c.if-g-s.false in omega arith

pub overflow_add-result : goal.overflow_add-result
overflow_add-result c = let f = c.groups_equal-g.ensures.found c.if-g-s.false in omega arith

pub returns : goal.returns
returns c = let a = c.args in
    grouped_covers a.m.now a.base a.key c.groups_equal-g.ensures c.if-g-s.false c.first_equal16.ensures
    c.last_equal16.ensures
