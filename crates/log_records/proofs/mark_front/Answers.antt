-- `log_records::mark_front` meets its contract: the tests are what a mark asks of its bytes (`MarkFront`).
use Rattle.basics.proofs.Kit.{◌≡◌, ◌∙◌, sym, ap, ap₂, ◌+◌, ◌*◌, ◌%◌, ◌/◌, arith}
use Rattle.block_forms.specs.Tuple.{AllBytes}
use Rattle.block_forms.proofs.Spelled.{all_bytes}
use Rattle.block_bits.specs.Bits.{bits_in, field}
use Rattle.log_records.specs.Bytes.{count_of}
use Rattle.log_records.specs.Entries.{mark_size}
use Rattle.log_records.proofs.Marks.{MarkFront, mark_none, mark_some}
use Rattle.log_records.proofs.mark_front.Goals as goal

pub returns-then-xs-lt-MARK_HEAD : goal.returns-then-xs-lt-MARK_HEAD
unfolding mark_size
returns-then-xs-lt-MARK_HEAD c = let bytes : AllBytes c.args.xs.now = all_bytes c.args.xs.now (λ j. omega (arith, c.type_inv.xs j)) in
    sym (mark_none c.args.xs.now (bytes) c.requires (λ f. omega (arith, f.whole)))

pub returns-then-second-ne0 : goal.returns-then-second-ne0
returns-then-second-ne0 c = let bytes : AllBytes c.args.xs.now = all_bytes c.args.xs.now (λ j. omega (arith, c.type_inv.xs j)) in
    sym (mark_none c.args.xs.now (bytes) c.requires (λ f. omega (arith, f.zero, c.from-second.ensures)))

pub returns-then-count-gt-OPEN_LIMIT : goal.returns-then-count-gt-OPEN_LIMIT
returns-then-count-gt-OPEN_LIMIT c = let bytes : AllBytes c.args.xs.now = all_bytes c.args.xs.now (λ j. omega (arith, c.type_inv.xs j)) in
    let count_is : c.from.result % 16 * 8 + c.from-second.result / 32 ≡ count_of c.args.xs.now = ap₂ (λ x y. x % 16 * 8 + y / 32) c.from.ensures c.from-second.ensures in
    let n = count_is in sym (mark_none c.args.xs.now (bytes) c.requires (λ f. omega (arith, f.limit)))

pub returns-then-xs-mark_size : goal.returns-then-xs-mark_size
returns-then-xs-mark_size c = let bytes : AllBytes c.args.xs.now = all_bytes c.args.xs.now (λ j. omega (arith, c.type_inv.xs j)) in
    let count_is : c.from.result % 16 * 8 + c.from-second.result / 32 ≡ count_of c.args.xs.now = ap₂ (λ x y. x % 16 * 8 + y / 32) c.from.ensures c.from-second.ensures in
    let size = c.mark_size.ensures ∙ ap mark_size (count_is) in sym (mark_none c.args.xs.now (bytes) c.requires (λ f. omega (arith, f.whole)))

pub get_bits-requires : goal.get_bits-requires
unfolding mark_size
get_bits-requires c = let size = c.mark_size.ensures in
    record { word = omega arith; within = omega (arith, c.if-count-gt-OPEN_LIMIT.false, c.if-xs-mark_size.false); small = omega (arith, c.if-count-gt-OPEN_LIMIT.false) }

pub returns-then-get_bits-ne0 : goal.returns-then-get_bits-ne0
returns-then-get_bits-ne0 c = let bytes : AllBytes c.args.xs.now = all_bytes c.args.xs.now (λ j. omega (arith, c.type_inv.xs j)) in
    let count_is : c.from.result % 16 * 8 + c.from-second.result / 32 ≡ count_of c.args.xs.now = ap₂ (λ x y. x % 16 * 8 + y / 32) c.from.ensures c.from-second.ensures in
    let last_is : let xs = c.args.xs.now in c.get_bits.result ≡ field (bits_in xs) (48 + 12 * count_of xs) (4 * (count_of xs % 2)) =
    c.get_bits.ensures.0 ∙ ap (λ k. field (bits_in c.args.xs.now) (48 + 12 * k) (4 * (k % 2))) (count_is) in
    let last = last_is in sym (mark_none c.args.xs.now (bytes) c.requires (λ f. omega (arith, f.last)))

pub returns : goal.returns
returns c = let bytes : AllBytes c.args.xs.now = all_bytes c.args.xs.now (λ j. omega (arith, c.type_inv.xs j)) in
    let count_is : c.from.result % 16 * 8 + c.from-second.result / 32 ≡ count_of c.args.xs.now = ap₂ (λ x y. x % 16 * 8 + y / 32) c.from.ensures c.from-second.ensures in
    let last_is : let xs = c.args.xs.now in c.get_bits.result ≡ field (bits_in xs) (48 + 12 * count_of xs) (4 * (count_of xs % 2)) =
    c.get_bits.ensures.0 ∙ ap (λ k. field (bits_in c.args.xs.now) (48 + 12 * k) (4 * (k % 2))) (count_is) in
    let n = count_is in
    let size = c.mark_size.ensures ∙ ap mark_size n in
    let last = last_is in
    let f : MarkFront c.args.xs.now = record {
      whole = omega (arith, c.if-xs-mark_size.false);
      zero = omega (arith, c.if-second-ne0.false, c.from-second.ensures);
      limit = omega (arith, c.if-count-gt-OPEN_LIMIT.false);
      last = omega (arith, c.if-get_bits-ne0.false);
    } in
    sym (mark_some c.args.xs.now (bytes) c.requires f c.get4.ensures n)
