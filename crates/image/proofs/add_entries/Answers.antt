-- `image::add_entries` meets its contract, by cases: no directory, one of another level or of another count, one whose entries are put.
use Rattle.std.specs.Prelude.{Some, None}
use Rattle.basics.proofs.Kit.{◌≡◌, sym, ap, ◌∙◌, min, arith}
use Rattle.basics.proofs.Facts.{clash}
use Rattle.block_forms.specs.Limits.{entries_per_block}
use Rattle.block_reader.specs.declared.Block.TheVariants as read
use Rattle.block_reader.proofs.Answering.{no_directory}
use Rattle.image.specs.Stages.{entries_due}
use Rattle.image.proofs.Named.{directory_read, other_level, other_count, entries_put, not_put}
use Rattle.image.proofs.add_entries.Goals.{then-k-level-via-then-k-level, then-k-level-via-else-k-level+then-count-min}
use Rattle.image.proofs.add_entries.Goals as goal

pub returns-in_err-count : goal.returns-in_err-count
unfolding entries_due
returns-in_err-count c = let a = c.args in
    let none = no_directory _ (λ n l e. let k : None ≡ Some (read.Directory n l) = sym c.in_err-count.was ∙ c.read_block.ensures ∙ e in clash cc) in
    rw c.from_residual.ensures (not_put _ _ _ _ (ap (entries_due a.level a.left) none))

pub returns-in_default : goal.returns-in_default
unfolding entries_due
returns-in_default c = let a = c.args in
    let none = no_directory _ (λ n l e. let k = sym c.in_ok-count.was ∙ c.read_block.ensures ∙ e in c.in_default.not-Directory n l cc) in
    not_put _ _ _ _ (ap (entries_due a.level a.left) none)

pub returns-then-k-level : goal.returns-then-k-level
returns-then-k-level c = let a = c.args in
    let found = directory_read _ (ap Some (sym c.in-Directory.is) ∙ sym c.in_ok-count.was ∙ c.read_block.ensures) in
    not_put _ a.at a.out.now _ (elim c.then-k-level.branch [
      | then-k-level-via-then-k-level w ↦ other_level a.level a.left found w.if-k-level.true
      | then-k-level-via-else-k-level+then-count-min w ↦ other_count a.level a.left found (λ e. w.if-count-min.true (omega (arith, e, w.min.ensures)))
    ])

pub returns : goal.returns
returns c = let a = c.args in
    let found = directory_read _ (ap Some (sym c.in-Directory.is) ∙ sym c.in_ok-count.was ∙ c.read_block.ensures) in
    let n : c.in-Directory.count ≡ min entries_per_block a.left = omega (arith, c.min.ensures, c.if-count-min.false) in
    entries_put a.level a.left found a.at a.out.now _ c.if-k-level.false n c.read_entries-entries.ensures c.put_entries.ensures
