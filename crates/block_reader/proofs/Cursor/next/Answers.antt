-- `block_reader::Cursor::next` meets its contract: no record where one would reach too far or be too long, else the record as the definitions read it (`found_as`).
use Rattle.basics.proofs.Kit.{lt-ltb, le-ltb, ◌≡◌, sym, ◌∙◌, List, ℕ, ◌+◌, ◌%◌, ltb, arith}
use Rattle.basics.specs.Basics.{if'◌then◌else◌}
use Rattle.block_forms.specs.Limits.{record_head, mark_value, committed_value}
use Rattle.block_forms.specs.Numbers.{num4}
use Rattle.block_forms.proofs.ReadTuples.{owner_part}
use Rattle.block_reader.proofs.Cursors.{word_tentative, word_committed, flags_at, part_small, part_tentative, none_far, none_long, none_short, found_as}
use Rattle.block_reader.proofs.Cursor.next.Goals.{then-tentative, else-tentative}
use Rattle.block_reader.proofs.Cursor.next.Goals as goal

pub returns-then-at-gt-LAST_RECORD : goal.returns-then-at-gt-LAST_RECORD
returns-then-at-gt-LAST_RECORD c = sym (none_far c.args.block.now c.args.self.at c.requires (omega arith))

pub returns-then-len-gt-PAYLOAD_LIMIT : goal.returns-then-len-gt-PAYLOAD_LIMIT
returns-then-len-gt-PAYLOAD_LIMIT c = sym (none_long c.args.block.now c.args.self.at c.requires (omega (arith, c.if-at-gt-LAST_RECORD.false)) (omega (arith, c.if-len-gt-PAYLOAD_LIMIT.true)))

pub overflow_add-end : goal.overflow_add-end
overflow_add-end c = let f : ℕ = flags_at c.args.block.now c.args.self.at in
    let e : c.record_size.result ≡ record_head + owner_part f + f % mark_value = c.record_size.ensures in
    omega (arith, part_small f)

pub returns-then-end-gt-BLOCK_SIZE : goal.returns-then-end-gt-BLOCK_SIZE
returns-then-end-gt-BLOCK_SIZE c = let z = c.record_size in
    sym (none_short c.args.block.now c.args.self.at c.requires (omega (arith, c.if-at-gt-LAST_RECORD.false)) (omega (arith, c.if-len-gt-PAYLOAD_LIMIT.false)) z.result
    z.ensures (omega (arith, c.if-end-gt-BLOCK_SIZE.true)))

pub overflow_add-at : goal.overflow_add-at
overflow_add-at c = omega (arith, c.if-at-gt-LAST_RECORD.false)

pub get4-word-requires : goal.get4-word-requires
get4-word-requires c = let f : ℕ = flags_at c.args.block.now c.args.self.at in
    let e : c.record_size.result ≡ record_head + owner_part f + f % mark_value = c.record_size.ensures in
    omega (arith, part_tentative f (lt-ltb _ _ c.if-tentative.true), c.if-end-gt-BLOCK_SIZE.false, c.requires)

pub get4-requires : goal.get4-requires
get4-requires c = omega (arith, c.if-at-gt-LAST_RECORD.false, c.requires)

pub overflow_add-at-2 : goal.overflow_add-at-2
overflow_add-at-2 c = omega (arith, c.if-at-gt-LAST_RECORD.false)

pub get4-requires-2 : goal.get4-requires-2
get4-requires-2 c = omega (arith, c.if-at-gt-LAST_RECORD.false, c.requires)

pub overflow_sub-found : goal.overflow_sub-found
overflow_sub-found c = omega (arith, c.record_size.ensures)

pub returns : goal.returns
returns c = let xs : List ℕ = c.args.block.now in
    let at : ℕ = c.args.self.at in
    let f : ℕ = flags_at xs at in
    let w : ℕ = num4 xs (at + record_head) in
    let z = c.record_size in
    let word : c.if-tentative.word ≡ (if' ltb f committed_value then w else 0) =
    elim c.if-tentative.branch [ then-tentative h ↦ h.word-is ∙ h.get4-word.ensures ∙ word_tentative f w (lt-ltb _ _ h.if-tentative.true) | else-tentative h ↦ h.word-is ∙ word_committed f w (le-ltb _ _ h.if-tentative.false) ] in
    found_as xs at c.requires (omega (arith, c.if-at-gt-LAST_RECORD.false)) (omega (arith, c.if-len-gt-PAYLOAD_LIMIT.false)) z.result z.ensures c.get4.ensures
    c.get4-2.ensures word c.owner_of.ensures c.mark_of.ensures (omega (arith, c.if-end-gt-BLOCK_SIZE.false))
