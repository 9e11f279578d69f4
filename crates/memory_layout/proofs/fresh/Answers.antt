-- `memory_layout::fresh` meets its contract: `blanked` says what the six writes leave, and `blank_becomes` and `blank_in` that this is the empty store.
use Rattle.basics.proofs.Kit.{◌∙◌}
use Rattle.memory_layout.specs.Store.{fresh_flat}
use Rattle.memory_layout.specs.Flat.{Becomes}
use Rattle.memory_layout.proofs.Blank.{blanked, blank_becomes, blank_in}
use Rattle.memory_layout.proofs.fresh.Goals as goal

pub returns : goal.returns
returns c = let a = c.args in
    let k = blanked c.requires.most c.requires.many c.clear.ensures c.put4.ensures c.put4-2.ensures c.put4-3.ensures c.clear-2.ensures c.name_slots.ensures in
    let size = c.name_slots.auto.m ∙ c.clear-2.auto.m ∙ c.put4-3.auto.m ∙ c.put4-2.auto.m ∙ c.put4.auto.m ∙ c.clear.auto.m in
    let b : Becomes a.m.now c.name_slots.new.m (fresh_flat a.blocks a.n) = blank_becomes k c.requires size in
    (b, blank_in a.blocks a.n b)
