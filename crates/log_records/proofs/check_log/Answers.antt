-- `log_records::check_log` meets its contract: a walk along the records (`walk_next`), to the end or to what is no record.
use Rattle.basics.proofs.Kit.{arith}
use Rattle.block_forms.specs.Tuple.{AllBytes}
use Rattle.block_forms.proofs.Spelled.{all_bytes}
use Rattle.log_records.specs.Records.{read_log}
use Rattle.log_records.proofs.Spelling.{two_bytes}
use Rattle.log_records.proofs.Walks.{Next, some_size, small_entry, walk_next, walk_end, walk_bad, end_start, end_turn, end_whole, end_bad}
use Rattle.log_records.proofs.check_log.Goals as goal

-- what stands there is a record
next : (c : goal.After-entry_size-at) → Next c.args.log.now c.loop-at.at c.entry_size-at.result c.entry_at-e.result
next c = let bytes : AllBytes c.args.log.now = all_bytes c.args.log.now (λ j. omega (arith, c.type_inv.log j)) in
    walk_next c.args.log.now (bytes) c.loop-at.at c.entry_at-e.ensures c.entry_size-at.ensures c.loop-at.invariant.0
    (λ h. omega (arith, c.entry_size-at.ensures, some_size c.entry_at-e.result c.in_default.not-End c.in_default.not-Malformed))

pub loop-at-init : goal.loop-at-init
loop-at-init c = (omega arith, end_start (read_log c.args.log.now))

pub entry_size-at-requires : goal.entry_size-at-requires
entry_size-at-requires c = let bytes : AllBytes c.args.log.now = all_bytes c.args.log.now (λ j. omega (arith, c.type_inv.log j)) in
    small_entry c.args.log.now (bytes) c.loop-at.at c.entry_at-e.ensures

pub returns-in-End : goal.returns-in-End
returns-in-End c = let bytes : AllBytes c.args.log.now = all_bytes c.args.log.now (λ j. omega (arith, c.type_inv.log j)) in
    let p = c.loop-at in
    end_whole c.args.log.now p.at p.invariant.1 (walk_end c.args.log.now (bytes) p.at c.entry_at-e.ensures c.in-End.is)

pub returns-in-Malformed : goal.returns-in-Malformed
returns-in-Malformed c = let bytes : AllBytes c.args.log.now = all_bytes c.args.log.now (λ j. omega (arith, c.type_inv.log j)) in
    let p = c.loop-at in
    end_bad c.args.log.now p.at p.invariant.1 (walk_bad c.args.log.now (bytes) p.at c.entry_at-e.ensures c.in-Malformed.is)

pub loop-at-smaller : goal.loop-at-smaller
loop-at-smaller c = let n = next c in omega (arith, n.inside, n.takes, two_bytes n.what)

pub loop-at-preserved : goal.loop-at-preserved
loop-at-preserved c = let p = c.loop-at in let n = next c in (n.inside, end_turn c.args.log.now p.at p.invariant.1 c.entry_size-at.result n)

pub overflow_add-at : goal.overflow_add-at
overflow_add-at c = let n = next c in omega (arith, n.inside)
