-- `engine_crossing::put_key` meets its contract: the key's four bytes, put over four of the buffer.
use Rattle.basics.specs.Lists.{over}
use Rattle.model.specs.Crossing.{key_bytes}
use Rattle.basics.proofs.Kit.{◌≡◌, ap, ◌∙◌, ap₂, drop-drop, ◌++◌, ◌+◌, ◌*◌, ◌-◌, take, drop, ℕ, List, arith}
use Rattle.engine_crossing.proofs.put_key.Goals as goal

pub returns : goal.returns
unfolding key_bytes over
returns c = let a = c.args in
    let m = a.out.now in
    let at = 4 * a.n in
    let e : at + (at + 4 - at) ≡ at + 4 = omega arith in
    ap₂ (λ (xs ys : List ℕ). take at m ++ (xs ++ ys)) (c.copy_from_slice.ensures.after ∙ c.to_be_bytes.ensures)
    (drop-drop (at + 4 - at) at m ∙ ap (λ (k : ℕ). drop k m) e)
