-- What a run of rows shows, row by row.
use Rattle.basics.proofs.Kit.{◌≡◌, refl, ap, ◌∙◌, true, false, List, [], ◌∷◌, ◌++◌, append-nil, ℕ, suc, ◌+◌, ◌≤◌, ◌<◌, ◌-◌, add-one, length, take, drop, get_or}
use Rattle.basics.proofs.Kit.{drop-cons, drop-drop, take-add, arith}
use Rattle.basics.specs.Basics.{if'◌then◌else◌, sum}
use Rattle.basics.proofs.Facts.{by}
use Rattle.block_forms.specs.Tuple.{Tuple, sizes}
use Rattle.model.specs.State.{Held}
use Rattle.model.specs.Rules.{is_adding, shown}
use Rattle.memory_layout.specs.Flat.{no_row}

module _ (hs : List Held) where
  -- the rows from row s up to, not including, row e
  abbrev pub run : ℕ → ℕ → List Held
  run s e = take (e - s) (drop s hs)

  run_none : (s : ℕ) → run s s ≡ []
  run_none s = let z : s - s ≡ 0 = omega arith in ap (λ (n : ℕ). take n (drop s hs)) z

  pub run_next : (i e : ℕ) → i < e → e ≤ length hs → run i e ≡ get_or hs i no_row ∷ run (i + 1) e
  run_next i e h l =
      let k : e - i ≡ suc (e - (i + 1)) = omega arith in
      let n : i < length hs = omega arith in
      rw (k, drop-cons hs i no_row n, add-one i)

  -- a run in two
  run_two : (s i e : ℕ) → s ≤ i → i ≤ e → run s e ≡ run s i ++ run i e
  run_two s i e l k =
      let n : e - s ≡ i - s + (e - i) = omega arith in
      let d : s + (i - s) ≡ i = omega arith in
      ap (λ (z : ℕ). take z (drop s hs)) n ∙ take-add (i - s) (e - i) (drop s hs)
      ∙ ap (λ (z : List Held). run s i ++ take (e - i) z) (drop-drop (i - s) s hs ∙ ap (λ (z : ℕ). drop z hs) d)

  run_one : (i : ℕ) → i < length hs → run i (i + 1) ≡ get_or hs i no_row ∷ []
  run_one i h = let z : i + 1 - i ≡ 1 = omega arith in ap (λ (n : ℕ). take n (drop i hs)) z ∙ ap (take 1) (drop-cons hs i no_row h)

-- ---- what is shown, row by row

pub shown_none : (hs : List Held) (s : ℕ) → shown (run hs s s) ≡ []
unfolding shown
shown_none hs s = ap shown (run_none hs s)

shown_append : (xs ys : List Held) → shown (xs ++ ys) ≡ shown xs ++ shown ys
unfolding shown if'◌then◌else◌
shown_append [] ys = refl
shown_append (x ∷ xs) ys = by (is_adding x.pending) (λ a. rw (a, shown_append xs ys)) (λ a. rw (a, shown_append xs ys))

sizes_append : (xs ys : List Tuple) → sizes (xs ++ ys) ≡ sizes xs + sizes ys
unfolding sum
sizes_append [] ys = omega arith
sizes_append (x ∷ xs) ys = omega (arith, sizes_append xs ys)

module _ (hs : List Held) (s i : ℕ) (l : s ≤ i) where
  -- a run shows no more bytes than a longer one
  pub shown_within : (e : ℕ) → i ≤ e → sizes (shown (run hs s i)) ≤ sizes (shown (run hs s e))
  shown_within e k = omega (arith, ap (λ z. sizes (shown z)) (run_two hs s i e l k), ap sizes (shown_append (run hs s i) (run hs i e)), sizes_append (shown (run hs s i)) (shown (run hs i e)))

  module _ (h : i < length hs) where
    next : shown (run hs s (i + 1)) ≡ shown (run hs s i) ++ shown (get_or hs i no_row ∷ [])
    next = ap shown (run_two hs s i (i + 1) l (omega arith) ∙ ap (λ z. run hs s i ++ z) (run_one hs i h)) ∙ shown_append (run hs s i) (get_or hs i no_row ∷ [])

    pub shown_more : is_adding (get_or hs i no_row).pending ≡ false → shown (run hs s (i + 1)) ≡ shown (run hs s i) ++ ((get_or hs i no_row).tuple ∷ [])
    unfolding shown if'◌then◌else◌
    shown_more a = next ∙ rw a

    pub shown_same : is_adding (get_or hs i no_row).pending ≡ true → shown (run hs s (i + 1)) ≡ shown (run hs s i)
    unfolding shown if'◌then◌else◌
    shown_same a = next ∙ rw a (append-nil (shown (run hs s i)))
