-- `engine_crossing::minutes_at` meets its contract: the part that is read is the payload (`part_bytes`).
use Rattle.basics.proofs.Kit.{◌≡◌, ap, ◌∙◌, ◌+◌, ◌-◌, take, drop, arith}
use Rattle.calendar.specs.Calendar.{minutes}
use Rattle.memory_bytes.proofs.Bytes.{part_bytes}
use Rattle.engine_crossing.proofs.minutes_at.Goals as goal

pub returns : goal.returns
returns c = let p = c.payload_at-p in
    let m = c.args.m.now in
    let a = p.result.start in
    let n = p.result.len in
    let e : a + n - a ≡ n = omega arith in
    (c.minutes.ensures.0 ∙ ap minutes (ap (λ k. take k (drop a m)) e ∙ part_bytes m a n p.ensures.inside ∙ p.ensures.here), omega (arith, c.minutes.ensures.1))
