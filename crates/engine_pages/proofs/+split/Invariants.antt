use Rattle.engine_pages.specs.Pages.{entry_of}
use Rattle.engine_pages.proofs.+split.Given as goal

-- the number of rows: there are fewer in each part
abbrev pub decreases-split : goal.decreases-split
decreases-split l = (entry_of l.m.now l.p).count
