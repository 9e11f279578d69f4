-- `log_records::last_mark` meets its contract: a walk along the records; each mark of the level takes the place of the one before (`mark_taken`).
use Rattle.basics.proofs.Kit.{ap, ◌∙◌, ◌<◌, eq-eqb, ne_eqb, arith}
use Rattle.basics.proofs.Facts.{clash}
use Rattle.block_forms.specs.Tuple.{AllBytes}
use Rattle.block_forms.proofs.Spelled.{all_bytes}
use Rattle.log_records.specs.Records.{read_log}
use Rattle.log_records.specs.Entries.{entry_size}
use Rattle.log_records.proofs.Spelling.{two_bytes}
use Rattle.log_records.proofs.Walks.{Next, some_size, mark_in, small_entry, walk_next, walk_end, walk_bad, mark_start, mark_taken, mark_passed, mark_end, mark_bad}
use Rattle.log_records.proofs.last_mark.Goals.{in-Call, in-Mark+then-l-level, in-Mark+else-l-level}
use Rattle.log_records.proofs.last_mark.Goals as goal

pub loop-place-init : goal.loop-place-init
loop-place-init c = (omega arith, mark_start c.args.level (read_log c.args.log.now))

pub returns-in-End : goal.returns-in-End
returns-in-End c = let bytes : AllBytes c.args.log.now = all_bytes c.args.log.now (λ j. omega (arith, c.type_inv.log j)) in
    let p = c.loop-place in
    mark_end c.args.log.now c.args.level p.at p.place p.invariant.1 (walk_end c.args.log.now (bytes) p.at c.entry_at-e.ensures c.in-End.is)

pub returns-in-Malformed : goal.returns-in-Malformed
returns-in-Malformed c = let bytes : AllBytes c.args.log.now = all_bytes c.args.log.now (λ j. omega (arith, c.type_inv.log j)) in
    let p = c.loop-place in
    mark_bad c.args.log.now c.args.level p.at p.place p.invariant.1 (walk_bad c.args.log.now (bytes) p.at c.entry_at-e.ensures c.in-Malformed.is)

pub entry_size-size-requires : goal.entry_size-size-requires
entry_size-size-requires c = let bytes : AllBytes c.args.log.now = all_bytes c.args.log.now (λ j. omega (arith, c.type_inv.log j)) in
    small_entry c.args.log.now (bytes) c.loop-place.at c.entry_at-e.ensures

-- what stands there is a record
next : (c : goal.Joined-e) → Next c.args.log.now c.loop-place.at c.entry_size-size.result c.entry_at-e.result
next c = let bytes : AllBytes c.args.log.now = all_bytes c.args.log.now (λ j. omega (arith, c.type_inv.log j)) in
    let some : 0 < entry_size c.entry_at-e.result = elim c.match-e.branch [
      | in-Call w ↦ (let i = w.in-Call.is in some_size c.entry_at-e.result (λ h. clash cc) (λ h. clash cc))
      | in-Mark+then-l-level w ↦ (let i = w.in-Mark.is in some_size c.entry_at-e.result (λ h. clash cc) (λ h. clash cc))
      | in-Mark+else-l-level w ↦ (let i = w.in-Mark.is in some_size c.entry_at-e.result (λ h. clash cc) (λ h. clash cc))
    ] in
    walk_next c.args.log.now (bytes) c.loop-place.at c.entry_at-e.ensures c.entry_size-size.ensures c.loop-place.invariant.0
    (λ h. omega (arith, c.entry_size-size.ensures, some))

pub loop-place-smaller : goal.loop-place-smaller
loop-place-smaller c = let n = next c in omega (arith, n.inside, n.takes, two_bytes n.what)

pub loop-place-preserved : goal.loop-place-preserved
unfolding mark_in
loop-place-preserved c = let p = c.loop-place in
    let n = next c in
    let l = c.args.level in
    let taken = mark_taken c.args.log.now l p.at p.place p.invariant.1 c.entry_size-size.result n in
    let passed = mark_passed c.args.log.now l p.at p.place p.invariant.1 c.entry_size-size.result n in (
      n.inside,
      elim c.match-e.branch [
        | in-Call w ↦ passed (ap (mark_in l) w.in-Call.is) w.place-is
        | in-Mark+then-l-level w ↦ taken (ap (mark_in l) w.in-Mark.is ∙ eq-eqb _ _ w.if-l-level.true) w.place-is
        | in-Mark+else-l-level w ↦ passed (ap (mark_in l) w.in-Mark.is ∙ ne_eqb _ _ w.if-l-level.false) w.place-is
      ],
    )

pub overflow_add-at : goal.overflow_add-at
overflow_add-at c = let n = next c in omega (arith, n.inside)
