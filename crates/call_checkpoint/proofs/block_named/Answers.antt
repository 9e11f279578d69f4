-- `call_checkpoint::block_named` meets its contract: an index below the number of pages is a page's, the others are of the directory (`page_block`, `directory_block`).
use Rattle.basics.proofs.Kit.{ap, ◌∙◌, ℕ, ◌-◌, length, get_or, arith}
use Rattle.memory_layout.specs.Flat.{flat_of}
use Rattle.memory_layout.proofs.Laws.{named_read}
use Rattle.call_checkpoint.proofs.Leaving.{named_low, directory_low, named_count_lem, page_block, directory_block}
use Rattle.call_checkpoint.proofs.block_named.Goals as goal

pub get_named-requires : goal.get_named-requires
get_named-requires c = (c.requires.0, omega (arith, c.if-i-n.true, named_read _ c.get_counts-c.ensures))

pub returns-then-i-n : goal.returns-then-i-n
returns-then-i-n c = let m = c.args.m.now in
    let e = named_read m c.get_counts-c.ensures in
    let i = c.args.i in (
      c.get_named.ensures ∙ page_block (flat_of m) i (omega (arith, c.if-i-n.true, e)),
      omega (arith, c.get_named.ensures, named_low m i (omega (arith, c.if-i-n.true, e))),
    )

pub get_directory-requires : goal.get_directory-requires
get_directory-requires c = let m = c.args.m.now in
    (c.requires.0, omega (arith, c.if-i-n.false, named_read m c.get_counts-c.ensures, c.requires.1, named_count_lem (flat_of m)))

pub returns : goal.returns
returns c = let m = c.args.m.now in
    let f = flat_of m in
    let e = named_read m c.get_counts-c.ensures in
    let i = c.args.i in
    let q = c.get_directory.ensures ∙ ap (λ (z : ℕ). get_or f.directories (i - z) 0) e in (
      q ∙ directory_block f i (omega (arith, c.if-i-n.false, e)),
      omega (arith, q, directory_low m (i - length f.named) (omega (arith, c.if-i-n.false, e, c.requires.1, named_count_lem f))),
    )
