-- A store made or recovered is well formed, and every call keeps it so.
use Rattle.block_forms.specs.Limits.{block_limit, block_size}
use Rattle.basics.proofs.Kit.{◌≡◌, refl, sym, subst, true, List, [], ◌∷◌, ℕ, ◌≤◌, ◌/◌, leb, length, arith}
use Rattle.basics.specs.Basics.{basics}
use Rattle.basics.proofs.Facts.{lie, AllOf}
use Rattle.block_forms.specs.Tuple.{Fits}
use Rattle.image_rows.specs.Rows.{row_rules}
use Rattle.image.specs.Stages.{capacity_limit, rows_of_pages}
use Rattle.image.specs.View.{View, view}
use Rattle.model.specs.State.{Store}
use Rattle.model.specs.Sight.{held, rows}
use Rattle.model.specs.Transactions.{open_numbers}
use Rattle.model.specs.Calls.{call, Call, AllTyped, after_calls}
use Rattle.model.specs.Recover.{fresh_store, recovered_store}
use Rattle.model.specs.CrashRecovery.{Start}
use Rattle.model.specs.WellFormed.{KeptWell, WellFormed, held_ok, open_ok, MadeWell, RecoveredWell, AlwaysWell}
use Rattle.basics.proofs.Elements.{le_true}
use Rattle.model.proofs.Recovery.{found, Found}
use Rattle.model.proofs.Start.{loaded_held, start_use}
use Rattle.model.proofs.Whole.{Fitting, starts}
use Rattle.model.proofs.Listed.{Listed, reopened_once}
use Rattle.model.proofs.Well.{well, keeps_sound, sound, Sound}
use Rattle.model.proofs.Bytes.{make_accepted, blocks_whole, Accepted, view_sane, accepted_recovery}

pub kept_well : KeptWell
kept_well c s t w = well (call c s).store (keeps_sound c s t (sound s w))

-- ---- made

fresh_well : (b n : ℕ) → 2 ≤ b → b ≤ block_limit → 1 ≤ n → n ≤ capacity_limit → WellFormed (fresh_store b n)
unfolding fresh_store held_ok open_ok held rows basics row_rules open_numbers
fresh_well b n lo hi some few =
    let z : leb 0 n ≡ true = le_true 0 n (omega arith) in
    record {
      blocks = (lo, hi);
      capacity = (some, few);
      level = omega arith;
      next = omega arith;
      tuples = rw z;
      fields = tt;
      live = rw z;
      owners = refl;
      opened = refl;
      counts = λ tx h. lie h;
      pages = refl;
      clean = refl;
      apart = λ b l. omega arith;
      used = λ c h. lie h;
      taken = omega arith;
      checkpoint = refl;
    }

pub made_well : MadeWell
made_well len m n s e =
    let k = make_accepted len m n s e in
    let c = blocks_whole len k.0 in
    subst WellFormed (sym k.4) (fresh_well (len / block_size) n c.1 c.2 k.1 k.2)

-- ---- recovered

listed_found : (n : ℕ) (v : View) (s : Store) → Found n v s → Fitting s → Listed s
listed_found n v s f fit = subst Listed f.store (go (subst Fitting (sym f.store) fit))
  where
    go : Fitting (recovered_store f.head f.pages) → Listed (recovered_store f.head f.pages)
    go fit = unfold recovered_store in reopened_once (rows_of_pages f.pages) (subst (AllOf (λ r. Fits r.1)) (loaded_held f.pages) fit)

recovered_sound : (img : List ℕ) (s : Store) → Accepted img s → Sound s
recovered_sound img s a =
    let v = view img in
    let f = found s.blocks v s a.seen in
    let k = starts s.blocks v s (view_sane img) f in
    record {
      valid = k.0;
      counted = k.1;
      fitting = k.2;
      block_use = start_use s.blocks v s a.least a.most (view_sane img) f;
      listed = listed_found s.blocks v s f k.2;
    }

pub recovered_well : RecoveredWell
recovered_well m img s e = well s (recovered_sound img s (accepted_recovery m img s e))

-- ---- every store of a run

calls_well : (calls : List Call) (s : Store) → AllTyped calls → WellFormed s → WellFormed (after_calls calls s)
unfolding after_calls
calls_well [] s t w = w
calls_well (c ∷ calls) s t w = calls_well calls (call c s).store t.1 (kept_well c s t.0 w)

pub always_well : AlwaysWell
always_well img s start calls t = calls_well calls s t (go start)
  where
    go : {img : List ℕ} → Start img s → WellFormed s
    go (Start.fresh old m n e) = made_well (length old) m n s e
    go (Start.recovered {img} m e) = recovered_well m img s e
