-- `log_records::put_mark_behind` meets its contract: the head's bytes, then the transactions' (`mark_put`).
use Rattle.basics.proofs.Kit.{ap, sym, ◌∙◌, ◌∷◌, List, ℕ, ◌+◌, ◌*◌, ◌%◌, ◌/◌, length, length-set, length-take, length-drop, arith}
use Rattle.log_records.specs.Entries.{mark_size}
use Rattle.log_records.proofs.Bytewise.{mark_bytes_lem}
use Rattle.log_records.proofs.Stores.{mark_put}
use Rattle.log_records.proofs.put_mark_behind.Goals as goal

pub bounds-part-0 : goal.bounds-part-0
unfolding mark_size
bounds-part-0 c = omega (arith, c.requires.size)

pub put4-requires : goal.put4-requires
unfolding mark_size
put4-requires c = simp length-set (omega (arith, c.requires.size))

pub slice_bounds-put_transactions-count : goal.slice_bounds-put_transactions-count
unfolding mark_size
slice_bounds-put_transactions-count c = omega (arith, simp length-set at c.put4.auto.block, c.requires.size)

pub slice_bounds-put_transactions-start : goal.slice_bounds-put_transactions-start
unfolding mark_size
slice_bounds-put_transactions-start c = omega (arith, simp length-set at c.put4.auto.block, c.requires.size)

pub put_transactions-requires : goal.put_transactions-requires
unfolding mark_size
put_transactions-requires c = record {
  count = c.requires.fits.count;
  size = simp (length-take, length-drop) (omega (arith, simp length-set at c.put4.auto.block, c.requires.size));
}

pub returns : goal.returns
unfolding mark_size
returns c = let txs = c.args.transactions.now in
    let n = length txs in
    let behind = mark_put c.args.part.now (n % 8 * 32) c.args.level (omega (arith, c.requires.size)) c.put4.ensures c.put_transactions.ensures in
    ap (λ (z : List ℕ). (7 * 16 + n / 8) ∷ z) behind ∙ sym (mark_bytes_lem c.args.level txs (omega (arith, c.requires.fits.count)))
