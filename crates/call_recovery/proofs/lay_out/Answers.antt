-- `call_recovery::lay_out` meets its contract: one part after the other is laid out and leaves the parts before it; together they are the recovered store (`laid_out`).
use Rattle.block_forms.specs.Limits.{block_limit}
use Rattle.call_recovery.proofs.Laying.{pages_room, order_none, marked, owners_room, opens_room, head_fits, laid_out}
use Rattle.call_recovery.proofs.Tested.{laid_sure}
use Rattle.call_recovery.proofs.Naming.{named_more}
use Rattle.call_recovery.specs.Loading.{pages_at}
use Rattle.image_header.proofs.Heads.{used}
use Rattle.image.specs.Stages.{numbers_of, directory_blocks, block_ok}
use Rattle.image.specs.View.{view}
use Rattle.basics.specs.Basics.{all}
use Rattle.basics.proofs.Kit.{◌≡◌, refl, sym, ap, ◌∙◌, List, ℕ, take, length-take, arith}
use Rattle.call_recovery.proofs.lay_out.Goals as goal

pub fresh-requires : goal.fresh-requires
fresh-requires c = let k = (laid_sure c.requires).whole in
    let n = k.passed.counts in
    record { least = n.low; most = n.high; long = c.requires.memory; few = omega (arith, n.blocks, k.few); many = omega (arith, n.blocks, k.many) }

pub load_pages-requires : goal.load_pages-requires
load_pages-requires c = let k = laid_sure c.requires in
    let a = c.args in
    let ps = pages_at (view a.image.now) a.entries.now in
    let f = c.fresh.ensures.0 in (
      record { named = k.named; few = k.whole.many; pages = c.requires.blocks },
      record { room = f.room; order = order_none a.h ps k.pages f; fit = pages_room a.h ps k.pages f k.rows k.follow },
    )

pub mark_blocks-requires : goal.mark_blocks-requires
mark_blocks-requires c = let k = laid_sure c.requires in (named_more _ block_limit _ k.whole.many k.named, c.load_pages.ensures.becomes.room)

pub slice_bounds-directories-end : goal.slice_bounds-directories-end
slice_bounds-directories-end c = omega (arith, (laid_sure c.requires).whole.passed.counts.four)

pub slice_bounds-mark_blocks-end : goal.slice_bounds-mark_blocks-end
slice_bounds-mark_blocks-end c = simp length-take (omega (arith, (laid_sure c.requires).whole.passed.counts.four))

pub mark_blocks-requires-2 : goal.mark_blocks-requires-2
mark_blocks-requires-2 c = let h = c.args.h in
    let k = (laid_sure c.requires).whole in
    let e : take h.directories (numbers_of h) ≡ directory_blocks h = used h refl (λ (l : List ℕ). l) in
    (ap (all (block_ok block_limit)) e ∙ named_more _ block_limit _ k.many k.passed.directories, c.mark_blocks.ensures.room)

pub reopen-requires : goal.reopen-requires
reopen-requires c = let k = laid_sure c.requires in
    let a = c.args in
    let ps = pages_at (view a.image.now) a.entries.now in
    let ds : List ℕ = take a.h.directories (numbers_of a.h) in
    let laid = marked a.h ps k.pages c.fresh.ensures.0 a.entries.now ds c.load_pages.ensures c.mark_blocks.ensures c.mark_blocks-2.ensures in
    record {
      room = c.mark_blocks-2.ensures.room;
      owners = owners_room a.h ps k.pages a.entries.now ds laid;
      opens = opens_room a.h ps k.pages a.entries.now ds laid k.opens;
    }

pub put_head-requires : goal.put_head-requires
put_head-requires c = let k = laid_sure c.requires in
    let a = c.args in
    let ps = pages_at (view a.image.now) a.entries.now in
    let ds : List ℕ = take a.h.directories (numbers_of a.h) in
    let laid = marked a.h ps k.pages c.fresh.ensures.0 a.entries.now ds c.load_pages.ensures c.mark_blocks.ensures c.mark_blocks-2.ensures in
    let n = k.whole.passed.counts in (
      c.reopen.ensures.room,
      head_fits a.h ps k.pages a.entries.now ds laid c.reopen.ensures (omega (arith, n.blocks, k.whole.few)) (omega (arith, n.blocks, k.whole.many)),
    )

pub returns : goal.returns
returns c = let k = laid_sure c.requires in
    let a = c.args in
    let ps = pages_at (view a.image.now) a.entries.now in
    let ds : List ℕ = take a.h.directories (numbers_of a.h) in
    let e : ds ≡ directory_blocks a.h = used a.h refl (λ (l : List ℕ). l) in
    let laid = marked a.h ps k.pages c.fresh.ensures.0 a.entries.now ds c.load_pages.ensures c.mark_blocks.ensures c.mark_blocks-2.ensures in
    laid_out a.h ps k.pages a.entries.now ds laid c.reopen.ensures (sym c.requires.blocks) e c.put_head.ensures
