-- `call_forward::repeat_since` meets its contract: at level 0 the whole log, else from the last mark of the level on, if there is one.
use Rattle.basics.proofs.Kit.{◌≡◌, sym, ap, ◌∙◌, rules, arith}
use Rattle.memory_layout.specs.Flat.{flat_of}
use Rattle.memory_layout.specs.declared.Head.{Head}
use Rattle.memory_layout.proofs.Laws.{holds_room, sizes, level_is}
use Rattle.log_records.specs.Records.{read_log}
use Rattle.log_records.specs.Entries.{last_mark}
use Rattle.call_forward.specs.Rolling.{store_now}
use Rattle.call_forward.proofs.Marked.{since_by, since_none, from_start, none_marked, may_marked, from_marked}
use Rattle.call_forward.proofs.repeat_since.Goals as goal

pub get_head-level-requires : goal.get_head-level-requires
get_head-level-requires c = (sizes (holds_room _ c.requires.has_store)).long

pub returns-then-level-eq0 : goal.returns-then-level-eq0
returns-then-level-eq0 c = let level : c.get_head-level.result.level ≡ (store_now c.args.s.now).level = ap (λ (h : Head). h.level) c.get_head-level.ensures ∙ sym (level_is (flat_of c.args.s.now)) in
    since_by c.args.s.now _ _ _ _ c.repeat_from.ensures (from_start _ _ (sym level ∙ c.if-level-eq0.true)) (search rules)

pub returns-in_default : goal.returns-in_default
returns-in_default c = let level : c.get_head-level.result.level ≡ (store_now c.args.s.now).level = ap (λ (h : Head). h.level) c.get_head-level.ensures ∙ sym (level_is (flat_of c.args.s.now)) in
    let high : (store_now c.args.s.now).level ≡ 0 → ⊥ = λ e. omega (arith, c.if-level-eq0.false, level, e) in
    let placed : c.last_mark.result ≡ last_mark (store_now c.args.s.now).level (read_log c.args.log.now) = c.last_mark.ensures ∙ ap (λ n. last_mark n (read_log c.args.log.now)) level in
    since_none c.args.s.now _ (none_marked c.args.s.now c.args.log.now _ c.requires high placed c.in_default.is)

pub repeat_marked-requires : goal.repeat_marked-requires
repeat_marked-requires c = let level : c.get_head-level.result.level ≡ (store_now c.args.s.now).level = ap (λ (h : Head). h.level) c.get_head-level.ensures ∙ sym (level_is (flat_of c.args.s.now)) in
    let high : (store_now c.args.s.now).level ≡ 0 → ⊥ = λ e. omega (arith, c.if-level-eq0.false, level, e) in
    let placed : c.last_mark.result ≡ last_mark (store_now c.args.s.now).level (read_log c.args.log.now) = c.last_mark.ensures ∙ ap (λ n. last_mark n (read_log c.args.log.now)) level in
    may_marked c.args.s.now c.args.log.now _ c.requires high placed c.in-Some.at c.in-Some.is

pub returns : goal.returns
returns c = let level : c.get_head-level.result.level ≡ (store_now c.args.s.now).level = ap (λ (h : Head). h.level) c.get_head-level.ensures ∙ sym (level_is (flat_of c.args.s.now)) in
    let high : (store_now c.args.s.now).level ≡ 0 → ⊥ = λ e. omega (arith, c.if-level-eq0.false, level, e) in
    let placed : c.last_mark.result ≡ last_mark (store_now c.args.s.now).level (read_log c.args.log.now) = c.last_mark.ensures ∙ ap (λ n. last_mark n (read_log c.args.log.now)) level in
    since_by c.args.s.now _ _ _ _ c.repeat_marked.ensures (from_marked c.args.s.now c.args.log.now _ c.requires high placed c.in-Some.at c.in-Some.is)
    (search rules)
