-- `call_transactions::list` meets its contract: the numbers, sorted, as reply (`list_reply`).
use Rattle.basics.proofs.Kit.{◌≡◌, sym, ap, ◌∙◌, true, List, ◌++◌, ℕ, ◌*◌, length, drop, arith}
use Rattle.basics.specs.Basics.{sorted}
use Rattle.basics.proofs.Sorted.{length_sorted}
use Rattle.model.specs.Transactions.{open_numbers, replied, listing, list_call}
use Rattle.memory_layout.specs.Flat.{Flat, flat_of}
use Rattle.memory_layout.specs.Store.{holds_store, store_of}
use Rattle.memory_layout.proofs.Laws.{known, holds_room}
use Rattle.engine_opens.proofs.Listing.{length_listing}
use Rattle.engine_opens.proofs.Opened.{length_numbers}
use Rattle.call_contracts.proofs.Answering.{replies_4, replies_21, replies_with}
use Rattle.call_transactions.proofs.list.Goals as goal

list_reply : (room : ℕ) (f : Flat) {n : ℕ} → n ≡ length f.opens → list_call room (store_of f) ≡ replied room n (listing (sorted (open_numbers f.opens))) (store_of f)
unfolding list_call store_of
list_reply room f e = ap (λ (k : ℕ). replied room k (listing (sorted (open_numbers f.opens))) (store_of f)) (sym e)

pub returns-then-not-holds_store : goal.returns-then-not-holds_store
returns-then-not-holds_store c = replies_4 _ _ _ (sym c.holds_store.ensures ∙ c.if-not-holds_store.true)

pub open_count-n-requires : goal.open_count-n-requires
open_count-n-requires c = let has_store : holds_store c.args.m.now ≡ true = sym c.holds_store.ensures ∙ c.if-not-holds_store.false in
    holds_room _ has_store

pub overflow_mul-n : goal.overflow_mul-n
overflow_mul-n c = let has_store : holds_store c.args.m.now ≡ true = sym c.holds_store.ensures ∙ c.if-not-holds_store.false in
    omega (arith, c.open_count-n.ensures, known _ (holds_room _ has_store))

pub returns-then-reply-n : goal.returns-then-reply-n
returns-then-reply-n c = let has_store : holds_store c.args.m.now ≡ true = sym c.holds_store.ensures ∙ c.if-not-holds_store.false in
    let bytes : List ℕ = listing (sorted (open_numbers (flat_of c.args.m.now).opens)) in
    let long : (n : ℕ) → n ≡ length (flat_of c.args.m.now).opens → length bytes ≡ 2 * n = λ n e. let os = (flat_of c.args.m.now).opens in omega (arith, length_listing (sorted (open_numbers os)), length_sorted (open_numbers os), length_numbers os, e) in
    let n = c.open_count-n.ensures in let a = c.args in
    replies_21 _ a.m.now a.reply.now _ bytes has_store (list_reply _ (flat_of a.m.now) n) (omega (arith, long _ n, c.if-reply-n.true))

pub fill_list-requires : goal.fill_list-requires
fill_list-requires c = let has_store : holds_store c.args.m.now ≡ true = sym c.holds_store.ensures ∙ c.if-not-holds_store.false in
    let bytes : List ℕ = listing (sorted (open_numbers (flat_of c.args.m.now).opens)) in
    let long : (n : ℕ) → n ≡ length (flat_of c.args.m.now).opens → length bytes ≡ 2 * n = λ n e. let os = (flat_of c.args.m.now).opens in omega (arith, length_listing (sorted (open_numbers os)), length_sorted (open_numbers os), length_numbers os, e) in
    record { room = holds_room _ has_store; count = c.open_count-n.ensures; long = omega (arith, c.if-reply-n.false) }

pub returns : goal.returns
returns c = let has_store : holds_store c.args.m.now ≡ true = sym c.holds_store.ensures ∙ c.if-not-holds_store.false in
    let bytes : List ℕ = listing (sorted (open_numbers (flat_of c.args.m.now).opens)) in
    let long : (n : ℕ) → n ≡ length (flat_of c.args.m.now).opens → length bytes ≡ 2 * n = λ n e. let os = (flat_of c.args.m.now).opens in omega (arith, length_listing (sorted (open_numbers os)), length_sorted (open_numbers os), length_numbers os, e) in
    let n = c.open_count-n.ensures in let a = c.args in
    let q = c.fill_list.ensures ∙ ap (λ (z : ℕ). bytes ++ drop z a.reply.now) (sym (long _ n)) in
    replies_with _ a.m.now a.reply.now _ bytes has_store (list_reply _ (flat_of a.m.now) n) (omega (arith, long _ n, c.if-reply-n.false)) _ q
