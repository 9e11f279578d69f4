-- One run with two checkpoints, cut at every store, by computation on the image's bytes.
use Rattle.basics.proofs.Kit.{refl}
use Rattle.model.specs.Cases.{Cuts, cases}

pub cuts_hold : Cuts
unfolding cases
cuts_hold = record { stores = refl; everywhere = refl }
