-- `memory_layout::holds_store` meets its contract: a lemma of Refusal for each test that fails, and `last_test` for the last return.
use Rattle.basics.proofs.Kit.{sym, ◌∙◌, arith}
use Rattle.memory_layout.proofs.Refusal.{too_short, unsigned, out_of_range, tables_fall, last_test, starts_at_lem}
use Rattle.memory_layout.proofs.holds_store.Goals as goal

pub returns-then-m-lt-HEAD_SIZE : goal.returns-then-m-lt-HEAD_SIZE
returns-then-m-lt-HEAD_SIZE c = too_short c.args.m.now (omega (arith, c.if-m-lt-HEAD_SIZE.true))

pub returns-then-get4-ne-SIGNATURE : goal.returns-then-get4-ne-SIGNATURE
returns-then-get4-ne-SIGNATURE c = unsigned c.args.m.now (omega (arith, c.if-m-lt-HEAD_SIZE.false)) c.get4.ensures c.if-get4-ne-SIGNATURE.true

pub returns-then-not-in_range : goal.returns-then-not-in_range
returns-then-not-in_range c = out_of_range c.args.m.now (omega (arith, c.if-m-lt-HEAD_SIZE.false)) c.get4.ensures c.if-get4-ne-SIGNATURE.false
    c.get_head-h.ensures c.get_counts-n.ensures c.in_range.ensures (c.if-not-in_range.true)

pub returns-then-not-tables_rise : goal.returns-then-not-tables_rise
returns-then-not-tables_rise c = tables_fall c.args.m.now (omega (arith, c.if-m-lt-HEAD_SIZE.false)) c.get4.ensures c.if-get4-ne-SIGNATURE.false
    c.get_head-h.ensures c.get_counts-n.ensures c.in_range.ensures (c.if-not-in_range.false) c.tables_rise.ensures (c.if-not-tables_rise.true)

pub starts_rise-requires : goal.starts_rise-requires
starts_rise-requires c = starts_at_lem c.args.m.now (omega (arith, c.if-m-lt-HEAD_SIZE.false)) c.get4.ensures c.if-get4-ne-SIGNATURE.false
    c.get_head-h.ensures c.get_counts-n.ensures c.in_range.ensures (c.if-not-in_range.false)

pub returns : goal.returns
returns c = c.starts_rise.ensures ∙ sym (last_test c.args.m.now (omega (arith, c.if-m-lt-HEAD_SIZE.false)) c.get4.ensures c.if-get4-ne-SIGNATURE.false
    c.get_head-h.ensures c.get_counts-n.ensures c.in_range.ensures (c.if-not-in_range.false) c.tables_rise.ensures (c.if-not-tables_rise.false))
