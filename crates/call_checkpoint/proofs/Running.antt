-- Whether a checkpoint runs, by the flat lists of the memory, and how many stores are left.
use Rattle.basics.proofs.Kit.{◌≡◌, refl, sym, ap, ◌∙◌, ⊎_elim, true, false, List, ◌+◌, ◌≤◌, ◌<◌, le-leb, lt-leb, arith}
use Rattle.basics.specs.Basics.{if'◌then◌else◌}
use Rattle.basics.proofs.Facts.{by, lie}
use Rattle.basics.proofs.Tabs.{lt_or_ge}
use Rattle.model.specs.State.{Page, Checkpoint, idle, running}
use Rattle.model.specs.Checkpoint.{is_running, blocks_left, left_of, left}
use Rattle.memory_layout.specs.Flat.{Flat}
use Rattle.memory_layout.specs.Store.{pages_in, checkpoint_of, store_of}
use Rattle.memory_layout.proofs.Laws.{store_pages}

idle_none : (c : Checkpoint) (ps : List Page) → is_running c ≡ false → left_of c ps ≡ 0
unfolding left_of is_running
idle_none idle ps e = refl
idle_none (running n es ds) ps e = lie (sym e)

module _ (f : Flat) where
  pub not_on : f.head.running ≡ false → false ≡ is_running (store_of f).checkpoint
  unfolding store_of checkpoint_of is_running if'◌then◌else◌
  not_on e = sym (rw e refl)

  module _ (on : f.head.running ≡ true) where
    pub last_level : 4294967295 ≤ f.head.level → false ≡ is_running (store_of f).checkpoint
    unfolding store_of checkpoint_of is_running if'◌then◌else◌
    last_level h = sym (rw (on, le-leb 4294967295 f.head.level h) refl)

    pub runs_is : f.head.level < 4294967295 → (store_of f).checkpoint ≡ running f.head.begun f.named f.directories
    unfolding store_of checkpoint_of if'◌then◌else◌
    runs_is h = rw (on, lt-leb 4294967295 f.head.level h) refl

    pub runs_on : f.head.level < 4294967295 → true ≡ is_running (store_of f).checkpoint
    unfolding is_running
    runs_on h = sym (ap is_running (runs_is h))

  pub running_is : is_running (store_of f).checkpoint ≡ true
      → ((store_of f).checkpoint ≡ running f.head.begun f.named f.directories) × (f.head.level < 4294967295)
  running_is h =
      by f.head.running
      (λ e. ⊎_elim (λ l. (runs_is e l, l)) (λ l. lie (last_level e l ∙ h)) (lt_or_ge f.head.level 4294967295))
      (λ e. lie (not_on e ∙ h))

  -- while stores are left, the checkpoint runs
  pub left_runs : 0 < left (store_of f) → is_running (store_of f).checkpoint ≡ true
  unfolding left
  left_runs h = by (is_running (store_of f).checkpoint) (λ e. e) (λ e. absurd (omega (arith, idle_none (store_of f).checkpoint (store_of f).pages e)))

  -- the header is left beside the blocks
  pub left_is : is_running (store_of f).checkpoint ≡ true → blocks_left f.named f.directories (pages_in f) + 1 ≡ left (store_of f)
  unfolding left left_of
  left_is h =
      ap (left_of (running f.head.begun f.named f.directories)) (sym (store_pages f))
      ∙ ap (λ (c : Checkpoint). left_of c (store_of f).pages) (sym (running_is h).0)
