-- `call_logged::logged_begin` meets its contract: a begin with room for its mark, which is appended where it was accepted (`logs`).
use Rattle.basics.proofs.Kit.{◌≡◌, refl, sym, ap, ◌∙◌, subst, true, some, List, ℕ, ◌+◌, ◌≤◌, length, take, length-take-le, leb, leb-true, arith}
use Rattle.image_rows.specs.Rows.{open_limit}
use Rattle.memory_layout.specs.Store.{holds_store, store_in}
use Rattle.model.specs.State.{Store}
use Rattle.log_records.specs.Entries.{mark_size}
use Rattle.memory_layout.proofs.Laws.{holds_room, sizes}
use Rattle.model.specs.Checkpoint.{begin_call}
use Rattle.log_records.specs.Records.{log_size, mark_of}
use Rattle.log_records.proofs.Spelling.{mark_size_lem}
use Rattle.log_model.specs.Logged.{mark_for}
use Rattle.call_logged.specs.Appending.{Appended}
use Rattle.call_logged.proofs.Logging.{was_accepted, logs}
use Rattle.call_logged.proofs.Marking.{logs_4, mark_is, fits}
use Rattle.call_logged.proofs.logged_begin.Goals as goal

pub returns-then-not-holds_store : goal.returns-then-not-holds_store
returns-then-not-holds_store c = logs_4 _ _ _ (sym c.holds_store.ensures ∙ c.if-not-holds_store.true)

pub get_head-h-requires : goal.get_head-h-requires
get_head-h-requires c = let has_store : holds_store c.args.m.now ≡ true = sym c.holds_store.ensures ∙ c.if-not-holds_store.false in
    (sizes (holds_room _ has_store)).long

pub sort_unwritten-n-requires : goal.sort_unwritten-n-requires
sort_unwritten-n-requires c = let has_store : holds_store c.args.m.now ≡ true = sym c.holds_store.ensures ∙ c.if-not-holds_store.false in
    record { room = holds_room _ has_store; size = refl }

pub slice_bounds-append_begun-end : goal.slice_bounds-append_begun-end
slice_bounds-append_begun-end c = let p = c.sort_unwritten-n in
    sym (length-take-le p.result p.new.out (omega (arith, p.ensures.0.few, c.numbers-2-1.given)))

plain : (n : ℕ) → n + 0 ≡ n
plain n = omega arith

pub append_begun-requires : goal.append_begun-requires
append_begun-requires c d =
    let has_store : holds_store c.args.m.now ≡ true = sym c.holds_store.ensures ∙ c.if-not-holds_store.false in
    let p = c.sort_unwritten-n in
    let listed : List ℕ = take p.result p.new.out in
    let put : length listed ≡ p.result = length-take-le p.result p.new.out (omega (arith, p.ensures.0.few, c.numbers-2-1.given)) in
    let r = mark_of (c.get_head-h.result.level + 1) listed in
    let bytes : c.mark_size.result ≡ log_size r = c.mark_size.ensures ∙ ap mark_size (sym put) ∙ sym (mark_size_lem (c.get_head-h.result.level + 1) listed) in
    let fit : c.has_room-room.result ≡ leb (c.args.end + log_size r) (length c.args.log.now) =
    c.has_room-room.ensures ∙ ap (λ n. leb (c.args.end + n) (length c.args.log.now)) (plain c.mark_size.result ∙ bytes) in
    let w = was_accepted begin_call c.args.m.now _ _ _ c.begin_if-answer.ensures d in
    let few : length listed ≤ open_limit = omega (arith, put, p.ensures.0.few) in
    record {
      fits = fits c.args.m.now has_store c.get_head-h.result c.get_head-h.ensures listed p.ensures.0.are w.store w.is w.accepts (omega arith) few p.ensures.1;
      room = subst (λ i. c.args.end + i ≤ length c.args.log.now) (mark_size_lem (c.get_head-h.result.level + 1) listed) (leb-true _ _ (sym fit ∙ w.room_is));
    }

pub returns : goal.returns
returns c =
    let has_store : holds_store c.args.m.now ≡ true = sym c.holds_store.ensures ∙ c.if-not-holds_store.false in
    let p = c.sort_unwritten-n in
    let listed : List ℕ = take p.result p.new.out in
    let put : length listed ≡ p.result = length-take-le p.result p.new.out (omega (arith, p.ensures.0.few, c.numbers-2-1.given)) in
    let r = mark_of (c.get_head-h.result.level + 1) listed in
    let bytes : c.mark_size.result ≡ log_size r = c.mark_size.ensures ∙ ap mark_size (sym put) ∙ sym (mark_size_lem (c.get_head-h.result.level + 1) listed) in
    let fit : c.has_room-room.result ≡ leb (c.args.end + log_size r) (length c.args.log.now) =
    c.has_room-room.ensures ∙ ap (λ n. leb (c.args.end + n) (length c.args.log.now)) (plain c.mark_size.result ∙ bytes) in
    let is_mark : (s : Store) → store_in c.args.m.now ≡ some s → r ≡ mark_for s =
    λ s e. mark_is _ has_store _ c.get_head-h.ensures _ p.ensures.0.are s e in
    logs begin_call mark_for c.args.m.now _ _ _ _ _ _ _ c.begin_if-answer.ensures
    (λ s e. subst (λ x. (c.has_room-room.result ≡ leb (c.args.end + log_size x) (length c.args.log.now))
    × Appended c.begin_if-answer.result x c.args.log.now c.args.end c.append_begun.result c.append_begun.new.log)
    (is_mark s e) (fit, c.append_begun.ensures))
    (λ e. (r, c.append_begun.ensures))
