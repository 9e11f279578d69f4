-- `log_records::delete_front` meets its contract: as a tuple without payload.
use Rattle.basics.proofs.Kit.{sym, ap, ap₂, ◌+◌, ◌*◌, ◌%◌, ◌/◌, arith}
use Rattle.block_forms.specs.Tuple.{AllBytes}
use Rattle.block_forms.proofs.Spelled.{all_bytes}
use Rattle.log_records.proofs.Fronts.{PlaceFront, delete_none, delete_some}
use Rattle.log_records.proofs.delete_front.Goals as goal

pub returns-then-xs-lt-PLACE : goal.returns-then-xs-lt-PLACE
returns-then-xs-lt-PLACE c = let bytes : AllBytes c.args.xs.now = all_bytes c.args.xs.now (λ j. omega (arith, c.type_inv.xs j)) in
    sym (delete_none c.args.xs.now (bytes) c.requires (λ f l. omega (arith, f.whole)))

pub returns-then-third-from-ne0 : goal.returns-then-third-from-ne0
returns-then-third-from-ne0 c = let bytes : AllBytes c.args.xs.now = all_bytes c.args.xs.now (λ j. omega (arith, c.type_inv.xs j)) in
    let e = ap₂ (λ x y. x % 32 * 256 + y) c.from-third.ensures c.from.ensures in
    sym (delete_none c.args.xs.now (bytes) c.requires (λ f l. omega (arith, f.zero, c.if-third-from-ne0.true)))

pub returns : goal.returns
returns c = let bytes : AllBytes c.args.xs.now = all_bytes c.args.xs.now (λ j. omega (arith, c.type_inv.xs j)) in
    let e = ap₂ (λ x y. x % 32 * 256 + y) c.from-third.ensures c.from.ensures in
    let zero = c.if-third-from-ne0.false in
    let f : PlaceFront c.args.xs.now = record { whole = omega (arith, c.if-xs-lt-PLACE.false); zero = omega arith; limit = omega arith } in
    sym (delete_some c.args.xs.now (bytes) f c.requires (omega arith) c.transaction_of.ensures (ap (λ z. z / 32) c.from-third.ensures) c.get4.ensures)
