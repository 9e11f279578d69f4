-- The states of 16 rows, tested together.
use Rattle.memory_layout.specs.Places.{states_at}
use Rattle.block_forms.specs.Limits.{committed_value}
use Rattle.basics.proofs.Kit.{◌≡◌, ap, ◌∙◌, Bool, List, ℕ, ◌+◌, ◌≤◌, ◌-◌, ltb, length, take, drop, get_or, arith}
use Rattle.basics.specs.Basics.{if'◌then◌else◌, any}
use Rattle.basics.proofs.Facts.{by}
use Rattle.block_forms.specs.Tuple.{is_tentative}
use Rattle.basics.specs.Lists.{tab}
use Rattle.basics.proofs.Tabs.{take_tab, drop_tab}
use Rattle.basics.proofs.Searches.{any_same}
use Rattle.block_forms.specs.Decode.{read_owner}
use Rattle.memory_layout.specs.Views.{row_count, row_at, held_of, state_of}
use Rattle.memory_layout.specs.Flat.{flat_of, rows_of, capacity_of}
use Rattle.memory_rows.specs.Rows.{is_owned}
use Rattle.memory_layout.proofs.Laws.{rows_length}

-- the committed bit is not set
abbrev pub unset : ℕ → Bool
unset s = ltb s committed_value

owned_is : (m : List ℕ) (c i : ℕ) → is_owned (row_at m c i) ≡ unset (state_of m c i)
unfolding is_owned row_at held_of read_owner is_tentative if'◌then◌else◌
owned_is m c i = by (ltb (state_of m c i) committed_value) (λ h. rw h) (λ h. rw h)

pub group_is : (m : List ℕ) (i a : ℕ) → i + 16 ≤ length (flat_of m).rows → a ≡ states_at (capacity_of m) + i
    → any is_owned (take 16 (drop i (flat_of m).rows)) ≡ any unset (tab (λ k. get_or m (a + k) 0) 0 16)
unfolding rows_of
group_is m i a h e =
    let n = row_count m in
    let c = capacity_of m in
    let l = rows_length m in
    let z : 0 + i ≡ i = omega arith in
    ap (λ z. any is_owned (take 16 z)) (drop_tab (row_at m c) 0 i n (omega arith)) ∙ ap (any is_owned) (take_tab (row_at m c) (0 + i) 16 (n - i) (omega arith))
    ∙ ap (λ j. any is_owned (tab (row_at m c) j 16)) z
    ∙ any_same is_owned (row_at m c) unset (λ k. get_or m (a + k) 0) i 0 16
    (λ k b. let x : states_at c + (i + k) ≡ a + (0 + k) = omega arith in owned_is m c (i + k) ∙ ap (λ p. unset (get_or m p 0)) x)
