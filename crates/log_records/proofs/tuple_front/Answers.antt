-- `log_records::tuple_front` meets its contract: the tests are what a record asks of its first eight bytes (`PlaceFront`).
use Rattle.basics.proofs.Kit.{◌≡◌, ◌+◌, ◌*◌, ◌%◌, ◌/◌, sym, ap, ap₂, ◌∙◌, ⊎_elim, arith}
use Rattle.block_forms.specs.Tuple.{AllBytes}
use Rattle.block_forms.proofs.Spelled.{all_bytes}
use Rattle.log_records.specs.Kinds.{number_of}
use Rattle.log_records.specs.Bytes.{length_of}
use Rattle.log_records.proofs.Fronts.{PlaceFront, tuple_none, insert_some, replace_some}
use Rattle.log_records.proofs.tuple_front.Goals as goal

pub returns-then-xs-lt-PLACE : goal.returns-then-xs-lt-PLACE
returns-then-xs-lt-PLACE c = let bytes : AllBytes c.args.xs.now = all_bytes c.args.xs.now (λ j. omega (arith, c.type_inv.xs j)) in
    sym (tuple_none c.args.xs.now (bytes) c.args.kind c.requires (λ f. omega (arith, f.whole)))

pub returns-then-fourth-ne0 : goal.returns-then-fourth-ne0
returns-then-fourth-ne0 c = let bytes : AllBytes c.args.xs.now = all_bytes c.args.xs.now (λ j. omega (arith, c.type_inv.xs j)) in
    sym (tuple_none c.args.xs.now (bytes) c.args.kind c.requires (λ f. omega (arith, f.zero, c.from-fourth.ensures)))

pub returns-then-len-gt-PAYLOAD_LIMIT : goal.returns-then-len-gt-PAYLOAD_LIMIT
returns-then-len-gt-PAYLOAD_LIMIT c = let bytes : AllBytes c.args.xs.now = all_bytes c.args.xs.now (λ j. omega (arith, c.type_inv.xs j)) in
    let len_is : c.from-third.result % 32 * 2 + c.from-fourth.result / 128 ≡ length_of c.args.xs.now = ap₂ (λ x y. x % 32 * 2 + y / 128) c.from-third.ensures c.from-fourth.ensures in
    let len = len_is in sym (tuple_none c.args.xs.now (bytes) c.args.kind c.requires (λ f. omega (arith, f.limit)))

pub returns-then-xs-len : goal.returns-then-xs-len
returns-then-xs-len c = let bytes : AllBytes c.args.xs.now = all_bytes c.args.xs.now (λ j. omega (arith, c.type_inv.xs j)) in
    let len_is : c.from-third.result % 32 * 2 + c.from-fourth.result / 128 ≡ length_of c.args.xs.now = ap₂ (λ x y. x % 32 * 2 + y / 128) c.from-third.ensures c.from-fourth.ensures in
    let len = len_is in sym (tuple_none c.args.xs.now (bytes) c.args.kind c.requires (λ f. omega (arith, f.whole)))

pub returns-in-Insert : goal.returns-in-Insert
returns-in-Insert c = let bytes : AllBytes c.args.xs.now = all_bytes c.args.xs.now (λ j. omega (arith, c.type_inv.xs j)) in
    let len_is : c.from-third.result % 32 * 2 + c.from-fourth.result / 128 ≡ length_of c.args.xs.now = ap₂ (λ x y. x % 32 * 2 + y / 128) c.from-third.ensures c.from-fourth.ensures in
    let known : PlaceFront c.args.xs.now =
    let len = len_is in
    record { whole = omega (arith, c.if-xs-len.false); zero = omega (arith, c.if-fourth-ne0.false, c.from-fourth.ensures); limit = omega (arith, c.if-len-gt-PAYLOAD_LIMIT.false) } in
    sym (insert_some c.args.xs.now (bytes) (known) (c.requires.first ∙ ap number_of c.in-Insert.is) c.transaction_of-transaction.ensures
    (ap (λ z. z / 32) c.from-third.ensures) c.get4-key.ensures (len_is))

pub returns-in_default : goal.returns-in_default
returns-in_default c = let bytes : AllBytes c.args.xs.now = all_bytes c.args.xs.now (λ j. omega (arith, c.type_inv.xs j)) in
    let len_is : c.from-third.result % 32 * 2 + c.from-fourth.result / 128 ≡ length_of c.args.xs.now = ap₂ (λ x y. x % 32 * 2 + y / 128) c.from-third.ensures c.from-fourth.ensures in
    let known : PlaceFront c.args.xs.now =
    let len = len_is in
    record { whole = omega (arith, c.if-xs-len.false); zero = omega (arith, c.if-fourth-ne0.false, c.from-fourth.ensures); limit = omega (arith, c.if-len-gt-PAYLOAD_LIMIT.false) } in
    sym (replace_some c.args.xs.now (bytes) (known) (c.requires.first ∙ ⊎_elim (λ h. absurd (c.in_default.not-Insert h)) (ap number_of) c.requires.tuple) c.transaction_of-transaction.ensures
    (ap (λ z. z / 32) c.from-third.ensures) c.get4-key.ensures (len_is))
