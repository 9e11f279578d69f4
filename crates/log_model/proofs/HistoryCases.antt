-- The worked cases of the redo log and of roll-forward, by computation.
use Rattle.basics.proofs.Kit.{◌≡◌, refl, ap, ap₂, ◌∙◌, Bool, true, false, ◌&&◌, Option, none, some, List, [], ◌∷◌, ◌++◌, ℕ, ◌/◌, min, length, take, drop}
use Rattle.basics.specs.Basics.{all}
use Rattle.basics.specs.Lists.{over}
use Rattle.basics.proofs.Lists.{all_join}
use Rattle.image.specs.Stages.{Stage, refuses, holds}
use Rattle.model.specs.State.{Store, stored_bytes}
use Rattle.model.specs.Calls.{Call}
use Rattle.model.specs.Recover.{memory_for, put_block, recover}
use Rattle.log_records.specs.Records.{LogRecord, read_log}
use Rattle.log_model.specs.Repeats.{all_accepted}
use Rattle.log_model.specs.RollForward.{Forward, forward_from, forward_below, roll_forward}
use Rattle.log_model.specs.Disk.{DiskStore, block_store, log_store}
use Rattle.log_model.specs.History.{completed}
use Rattle.log_model.specs.HistoryCases.{Life, stores_in, Disk, disk_of, on_disk, halves, torn, cuts, rolled, brings_back, restores_to, restores, restores_all}
use Rattle.log_model.specs.HistoryCases.{store0, forward_in, life_restores, forward_restores, life1, calls1, left1, left2, life2, calls2, left3, life3, calls3}
use Rattle.log_model.specs.HistoryCases.{FirstLife, SecondLife, ThirdLife, ForwardCases, LoggedCases, history_cases}

-- ---- each image is recovered once, and each log read once

-- what recovery gives of an image, with the memory that is lent
recovered : Store → List ℕ → Stage Store
recovered s img = recover (min (memory_for s.capacity) (memory_for s.capacity)) img

-- roll-forward from what recovery gives and what the log reads as
onward : List ℕ → Option (List LogRecord) → Stage Store → Stage Forward
onward log o (refuses n) = refuses n
onward log o (holds s) = forward_from log o s

onward_is : (log : List ℕ) (r : Stage Store) → forward_below log r ≡ onward log (read_log log) r
unfolding forward_below onward
onward_is log (refuses n) = refl
onward_is log (holds s) = refl

-- whether this brings back what the whole records committed
back : Store → Stage Store → List ℕ → Option (List LogRecord) → Bool
back s r log none = false
back s r log (some rs) = all_accepted rs s && brings_back (onward log (some rs) r) (completed rs s)

back_from : Store → Stage Store → List ℕ → Bool
back_from s r log = back s r log (read_log log)

back_to : (s : Store) (img log : List ℕ) (o : Option (List LogRecord)) → read_log log ≡ o → restores_to s (img, log) o ≡ back s (recovered s img) log o
unfolding restores_to rolled roll_forward recovered back
back_to s img log none h = refl
back_to s img log (some rs) h =
    ap (λ f. all_accepted rs s && brings_back f (completed rs s)) (onward_is log (recovered s img) ∙ ap (λ o. onward log o (recovered s img)) h)

back_is : (s : Store) (img log : List ℕ) → restores s (img, log) ≡ back_from s (recovered s img) log
unfolding restores back_from
back_is s img log = back_to s img log (read_log log) refl

-- every cut of these stores: r is what recovery gives of the image
walk : Store → List DiskStore → List ℕ → List ℕ → Stage Store → Bool
walk s [] img log r = back_from s r log && true
walk s (block_store w ∷ ws) img log r =
    let i = put_block img w.at (stored_bytes w) in
    back_from s r log && (all (restores s) (torn (block_store w) (img, log)) && walk s ws i log (recovered s i))
walk s (log_store e bs ∷ ws) img log r =
    let h = length bs / 2 in
    let old = take (length bs) (drop e log) in
    back_from s r log
    && (back_from s r (over log e (take h bs ++ drop h old)) && (back_from s r (over log e (take h old ++ drop h bs)) && walk s ws img (over log e bs) r))

walk_is : (s : Store) (ws : List DiskStore) (img log : List ℕ) → restores_all s ws (img, log) ≡ walk s ws img log (recovered s img)
unfolding restores_all all cuts torn halves on_disk walk
walk_is s [] img log = ap (λ b. b && true) (back_is s img log)
walk_is s (block_store w ∷ ws) img log =
    ap₂ ◌&&◌ (back_is s img log) (all_join (restores s) (torn (block_store w) (img, log)) (cuts ws (on_disk (block_store w) (img, log)))
    ∙ ap (λ b. all (restores s) (torn (block_store w) (img, log)) && b) (walk_is s ws (put_block img w.at (stored_bytes w)) log))
walk_is s (log_store e bs ∷ ws) img log =
    ap₂ ◌&&◌ (back_is s img log) (ap₂ ◌&&◌ (back_is s img _) (ap₂ ◌&&◌ (back_is s img _) (walk_is s ws img (over log e bs))))

-- so all cuts restore, if the walk says so
walked : (s : Store) (ws : List DiskStore) (d : Disk) → walk s ws d.0 d.1 (recovered s d.0) ≡ true → restores_all s ws d ≡ true
walked s ws d h = walk_is s ws d.0 d.1 ∙ h

-- the same of a life, and of a roll-forward
walked_life : List Call → Life → Bool
walked_life cs l = walk store0 (stores_in cs l) l.image l.log (recovered store0 l.image)

life_walked : (cs : List Call) (l : Life) → walked_life cs l ≡ true → life_restores cs l ≡ true
unfolding walked_life life_restores disk_of
life_walked cs l h = walked store0 (stores_in cs l) (disk_of l) h

walked_forward : Disk → Bool
walked_forward d = walk store0 (forward_in d) d.0 d.1 (recovered store0 d.0)

forward_walked : (d : Disk) → walked_forward d ≡ true → forward_restores d ≡ true
unfolding walked_forward forward_restores
forward_walked d h = walked store0 (forward_in d) d h

-- ---- the cases

pub first_life : FirstLife
unfolding history_cases recovered onward back back_from walk walked_life walked_forward
first_life = record {
  said_1 = refl;
  stores_1 = refl;
  disk_1 = refl;
  cuts_1 = life_walked calls1 life1 refl;
  aborts_1 = refl;
  cuts_forward_1 = forward_walked left1 refl;
  aborts_2 = refl;
  cuts_forward_2 = forward_walked left2 refl;
  disk_forward_2 = refl;
}

pub second_life : SecondLife
unfolding history_cases recovered onward back back_from walk walked_life walked_forward
second_life = record {
  said_2 = refl;
  stores_2 = refl;
  disk_2 = refl;
  cuts_2 = life_walked calls2 life2 refl;
  records_3 = refl;
  aborts_3 = refl;
  cuts_forward_3 = forward_walked left3 refl;
  disk_forward_3 = refl;
}

pub third_life : ThirdLife
unfolding history_cases recovered onward back back_from walk walked_life walked_forward
third_life = record {
  said_3 = refl;
  cuts_3 = life_walked calls3 life3 refl;
  gone = refl;
}

pub forward_cases : ForwardCases
unfolding history_cases
forward_cases = record {
  recovery_first = refl;
  malformed = refl;
  no_mark = refl;
  other_mark = refl;
  none_needed = refl;
  repeated = refl;
  opened_twice = refl;
  no_room = refl;
  no_log = refl;
  last_mark = refl;
  first_alone = refl;
  second_taken = refl;
  all_repeated = refl;
  marks_passed = refl;
  zeroed = refl;
}

pub logged_cases : LoggedCases
unfolding history_cases
logged_cases = record {
  no_fit = refl;
  no_bytes = refl;
  fits = refl;
  refused_first = refl;
  refused_fitting = refl;
  no_begin = refl;
  mark = refl;
  no_record = refl;
  no_step = refl;
}
