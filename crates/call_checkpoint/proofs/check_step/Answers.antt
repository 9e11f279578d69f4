-- `call_checkpoint::check_step` meets its contract: each test of the code is the model's test of that number.
use Rattle.block_forms.specs.Limits.{block_size}
use Rattle.basics.proofs.Kit.{◌≡◌, sym, ap, ◌∙◌, true, List, ℕ, ◌*◌}
use Rattle.memory_layout.specs.declared.Head.{Head}
use Rattle.memory_layout.specs.Flat.{flat_of}
use Rattle.memory_layout.specs.Store.{holds_store}
use Rattle.memory_layout.proofs.Laws.{holds_room, sizes}
use Rattle.call_checkpoint.proofs.Stepping.{refusal_4, refusal_5, refusal_18, refusal_none}
use Rattle.call_checkpoint.proofs.check_step.Goals as goal

pub returns-then-not-holds_store : goal.returns-then-not-holds_store
returns-then-not-holds_store c = refusal_4 _ _ (sym c.holds_store.ensures ∙ c.if-not-holds_store.true)

pub get_head-h-requires : goal.get_head-h-requires
get_head-h-requires c = let memory : List ℕ = c.args.m.now in
    let has_store : holds_store ((c.args.m.now)) ≡ true = sym c.holds_store.ensures ∙ c.if-not-holds_store.false in
    (sizes (holds_room _ has_store)).long

pub returns-then-len-h : goal.returns-then-len-h
returns-then-len-h c = let memory : List ℕ = c.args.m.now in
    let has_store : holds_store ((c.args.m.now)) ≡ true = sym c.holds_store.ensures ∙ c.if-not-holds_store.false in
    refusal_5 c.args.len memory has_store (λ q. c.if-len-h.true (q ∙ ap (λ (h : Head). block_size * h.blocks) (sym c.get_head-h.ensures)))

pub is_running-requires : goal.is_running-requires
is_running-requires c = let memory : List ℕ = c.args.m.now in
    let has_store : holds_store ((c.args.m.now)) ≡ true = sym c.holds_store.ensures ∙ c.if-not-holds_store.false in
    (sizes (holds_room _ has_store)).long

pub returns-then-not-is_running : goal.returns-then-not-is_running
returns-then-not-is_running c = let memory : List ℕ = c.args.m.now in
    let has_store : holds_store ((c.args.m.now)) ≡ true = sym c.holds_store.ensures ∙ c.if-not-holds_store.false in
    let long : c.args.len ≡ block_size * (flat_of ((c.args.m.now))).head.blocks = c.if-len-h.false ∙ ap (λ (h : Head). block_size * h.blocks) c.get_head-h.ensures in
    refusal_18 c.args.len memory has_store long (sym c.is_running.ensures ∙ c.if-not-is_running.true)

pub returns : goal.returns
returns c = let memory : List ℕ = c.args.m.now in
    let has_store : holds_store ((c.args.m.now)) ≡ true = sym c.holds_store.ensures ∙ c.if-not-holds_store.false in
    let long : c.args.len ≡ block_size * (flat_of ((c.args.m.now))).head.blocks = c.if-len-h.false ∙ ap (λ (h : Head). block_size * h.blocks) c.get_head-h.ensures in
    refusal_none c.args.len memory has_store long (sym c.is_running.ensures ∙ c.if-not-is_running.false)
