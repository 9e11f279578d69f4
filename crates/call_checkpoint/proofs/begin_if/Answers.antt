-- `call_checkpoint::begin_if` meets its contract: 4, 17, LevelsExhausted and ImageFull by the model's tests in order, else the store has begun (`begin_done`).
use Rattle.basics.proofs.Kit.{◌≡◌, sym, ap, ◌∙◌, true, false, List, ℕ, ◌+◌, leb-true, leb-false, arith}
use Rattle.memory_layout.specs.declared.Head.{Head}
use Rattle.memory_layout.specs.Store.{holds_store, store_of}
use Rattle.memory_layout.specs.Flat.{flat_of}
use Rattle.memory_layout.proofs.Laws.{holds_room, sizes}
use Rattle.model.specs.Checkpoint.{is_running, free_count, begun, begin_call}
use Rattle.model.specs.Transactions.{gives}
use Rattle.model.specs.State.{Store}
use Rattle.call_contracts.proofs.Answering.{answers_4, answers_refused, answers_count, room_refused, room_kept, no_room_count}
use Rattle.call_checkpoint.proofs.Beginning.{begin_17, begin_19, begin_20, begin_done}
use Rattle.refusals.specs.declared.Refusal.TheVariants.{NoStore, CheckpointRunning, LevelsExhausted, ImageFull}
use Rattle.model.specs.State as model
use Rattle.call_checkpoint.proofs.begin_if.Goals as goal

pub returns-then-not-holds_store : goal.returns-then-not-holds_store
returns-then-not-holds_store c = room_refused c.args.room begin_call _ NoStore _ (answers_4 begin_call _ (sym c.holds_store.ensures ∙ c.if-not-holds_store.true))

pub is_running-requires : goal.is_running-requires
is_running-requires c = let memory : List ℕ = c.args.m.now in
    let has_store : holds_store ((c.args.m.now)) ≡ true = sym c.holds_store.ensures ∙ c.if-not-holds_store.false in
    (sizes (holds_room _ has_store)).long

pub returns-then-is_running : goal.returns-then-is_running
returns-then-is_running c = let memory : List ℕ = c.args.m.now in
    let has_store : holds_store ((c.args.m.now)) ≡ true = sym c.holds_store.ensures ∙ c.if-not-holds_store.false in
    room_refused c.args.room begin_call _ CheckpointRunning _
    (answers_refused begin_call memory CheckpointRunning has_store (begin_17 (flat_of memory) (sym c.is_running.ensures ∙ c.if-is_running.true)))

pub get_head-h-requires : goal.get_head-h-requires
get_head-h-requires c = let memory : List ℕ = c.args.m.now in
    let has_store : holds_store ((c.args.m.now)) ≡ true = sym c.holds_store.ensures ∙ c.if-not-holds_store.false in
    (sizes (holds_room _ has_store)).long

pub returns-then-h : goal.returns-then-h
returns-then-h c = let memory : List ℕ = c.args.m.now in
    let has_store : holds_store ((c.args.m.now)) ≡ true = sym c.holds_store.ensures ∙ c.if-not-holds_store.false in
    let idle : is_running (store_of (flat_of ((c.args.m.now)))).checkpoint ≡ false = sym c.is_running.ensures ∙ c.if-is_running.false in
    let m = memory in
    room_refused c.args.room begin_call _ LevelsExhausted _
    (answers_refused begin_call m LevelsExhausted has_store (begin_19 (flat_of m) idle (ap (λ (h : Head). h.level) (sym c.get_head-h.ensures) ∙ c.if-h.true)))

pub blocks_needed-need-requires : goal.blocks_needed-need-requires
blocks_needed-need-requires c = let memory : List ℕ = c.args.m.now in
    let has_store : holds_store ((c.args.m.now)) ≡ true = sym c.holds_store.ensures ∙ c.if-not-holds_store.false in
    has_store

pub enough_free-requires : goal.enough_free-requires
enough_free-requires c = let memory : List ℕ = c.args.m.now in
    let has_store : holds_store ((c.args.m.now)) ≡ true = sym c.holds_store.ensures ∙ c.if-not-holds_store.false in
    holds_room _ has_store

pub returns-then-not-enough_free : goal.returns-then-not-enough_free
returns-then-not-enough_free c = let memory : List ℕ = c.args.m.now in
    let has_store : holds_store ((c.args.m.now)) ≡ true = sym c.holds_store.ensures ∙ c.if-not-holds_store.false in
    let idle : is_running (store_of (flat_of ((c.args.m.now)))).checkpoint ≡ false = sym c.is_running.ensures ∙ c.if-is_running.false in
    let level_is : c.get_head-h.result.level ≡ (flat_of ((c.args.m.now))).head.level = ap (λ (h : Head). h.level) c.get_head-h.ensures in
    let low : (flat_of ((c.args.m.now))).head.level ≡ 4294967295 → ⊥ = λ z. c.if-h.false (level_is ∙ z) in
    let n = c.blocks_needed-need in
    let m = memory in
    let few = leb-false _ (free_count (store_of (flat_of m))) (sym c.enough_free.ensures ∙ c.if-not-enough_free.true) in
    room_refused c.args.room begin_call _ ImageFull _
    (answers_refused begin_call m ImageFull has_store (begin_20 (flat_of m) idle low (omega (arith, few, n.ensures.0))))

pub returns-then-not-room : goal.returns-then-not-room
returns-then-not-room c = let memory : List ℕ = c.args.m.now in
    let has_store : holds_store ((c.args.m.now)) ≡ true = sym c.holds_store.ensures ∙ c.if-not-holds_store.false in
    let idle : is_running (store_of (flat_of ((c.args.m.now)))).checkpoint ≡ false = sym c.is_running.ensures ∙ c.if-is_running.false in
    let level_is : c.get_head-h.result.level ≡ (flat_of ((c.args.m.now))).head.level = ap (λ (h : Head). h.level) c.get_head-h.ensures in
    let low : (flat_of ((c.args.m.now))).head.level ≡ 4294967295 → ⊥ = λ z. c.if-h.false (level_is ∙ z) in
    let s : Store = store_of (flat_of c.args.m.now) in
    let enough = leb-true _ (free_count s) (sym c.enough_free.ensures ∙ c.if-not-enough_free.false) in
    let begins : begin_call s ≡ gives (model.count (c.blocks_needed-need.result + 1)) (begun s) = begin_done (flat_of c.args.m.now) idle low (omega (arith, enough, c.blocks_needed-need.ensures.0))
    ∙ ap (λ (z : ℕ). gives (model.count (z + 1)) (begun s)) (sym c.blocks_needed-need.ensures.0) in
    no_room_count c.args.room begin_call _ (c.if-not-room.true) has_store _ _ begins

pub start-requires : goal.start-requires
start-requires c = let memory : List ℕ = c.args.m.now in
    let has_store : holds_store ((c.args.m.now)) ≡ true = sym c.holds_store.ensures ∙ c.if-not-holds_store.false in
    let level_is : c.get_head-h.result.level ≡ (flat_of ((c.args.m.now))).head.level = ap (λ (h : Head). h.level) c.get_head-h.ensures in
    (has_store, omega (arith, level_is, c.if-h.false))

pub returns : goal.returns
returns c = let memory : List ℕ = c.args.m.now in
    let has_store : holds_store ((c.args.m.now)) ≡ true = sym c.holds_store.ensures ∙ c.if-not-holds_store.false in
    let idle : is_running (store_of (flat_of ((c.args.m.now)))).checkpoint ≡ false = sym c.is_running.ensures ∙ c.if-is_running.false in
    let level_is : c.get_head-h.result.level ≡ (flat_of ((c.args.m.now))).head.level = ap (λ (h : Head). h.level) c.get_head-h.ensures in
    let low : (flat_of ((c.args.m.now))).head.level ≡ 4294967295 → ⊥ = λ z. c.if-h.false (level_is ∙ z) in
    let s : Store = store_of (flat_of c.args.m.now) in
    let enough = leb-true _ (free_count s) (sym c.enough_free.ensures ∙ c.if-not-enough_free.false) in
    let begins : begin_call s ≡ gives (model.count (c.blocks_needed-need.result + 1)) (begun s) = begin_done (flat_of c.args.m.now) idle low (omega (arith, enough, c.blocks_needed-need.ensures.0))
    ∙ ap (λ (z : ℕ). gives (model.count (z + 1)) (begun s)) (sym c.blocks_needed-need.ensures.0) in
    room_kept c.args.room begin_call _ (c.if-not-room.false) _ _ (answers_count begin_call _ _ _ _ has_store begins c.start.ensures)
