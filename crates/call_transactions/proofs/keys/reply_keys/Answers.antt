-- `call_transactions::keys::reply_keys` meets its contract: the keys as reply (`keys_reply_lem`).
use Rattle.basics.proofs.Kit.{arith}
use Rattle.memory_layout.specs.Flat.{flat_of}
use Rattle.call_contracts.proofs.Answering.{replies_21, replies_with}
use Rattle.call_transactions.proofs.Intervals.{keys_reply_lem, keys_long, keys_copied}
use Rattle.call_transactions.proofs.keys.reply_keys.Goals as goal

pub returns-then-reply-n : goal.returns-then-reply-n
returns-then-reply-n c = let a = c.args in let k = c.find_crossing-n.ensures in
    replies_21 _ a.m.now a.reply.now _ _ c.requires.0.has_store (keys_reply_lem (flat_of a.m.now) _ _ _ _ _ k.count) (omega (arith, keys_long k, c.if-reply-n.true))

pub returns : goal.returns
returns c = let a = c.args in let k = c.find_crossing-n.ensures in
    replies_with _ a.m.now a.reply.now _ _ c.requires.0.has_store (keys_reply_lem (flat_of a.m.now) _ _ _ _ _ k.count) (omega (arith, keys_long k, c.if-reply-n.false)) _
    (keys_copied k _ _ c.copy_out.ensures)
