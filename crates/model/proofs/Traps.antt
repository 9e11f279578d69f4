-- The worked runs of where builds go astray, by computation.
use Rattle.basics.proofs.Kit.{refl}
use Rattle.model.specs.Cases.{Traps, cases}

pub traps_avoided : Traps
unfolding cases
traps_avoided = record {
  at_the_end = refl;
  as_at_begin = refl;
  listed_blocks = refl;
  written_tentative = refl;
  thawed_committed = refl;
  not_reused = refl;
  no_room = refl;
  wraps = refl;
  frozen_both = refl;
  not_joined = refl;
  joined_later = refl;
  commit_alone = refl;
  reading_answers = refl;
}
