-- A turn of a loop over fields: what is left of their widths and values.
use Rattle.basics.proofs.Kit.{◌≡◌, refl, ap, List, [], ◌∷◌, ℕ, ◌+◌, ◌≤◌, length, arith, ⊎_elim, ◌⊎◌}
use Rattle.block_bits.specs.Bits.{bits_of, Inside}
use Rattle.basics.specs.Lists.{over}
use Rattle.block_bits.specs.Fields.{put_all, fields_of, sum, Words, AllInside}

module _ {s ws : List ℕ} {at w : ℕ} (rest : List ℕ) (e : ws ≡ w ∷ rest) (h : AllInside s at ws) where
  words : (w ≤ 56) × Words rest
  words = rw e at h.words

  pub first_inside : Inside s at w
  first_inside = record { word = words.0; within = omega (arith, h.within, ap sum e); small = omega (arith, h.small, ap sum e) }

  pub rest_inside : (t : List ℕ) → length t ≡ length s → AllInside t (at + w) rest
  rest_inside t l = record { words = words.1; within = omega (arith, h.within, ap sum e); small = omega (arith, h.small, ap sum e) }

pub put_next : (s : List ℕ) (at : ℕ) (ws' vs' : List ℕ) {ws vs t : List ℕ} {w v : ℕ} → ws ≡ w ∷ ws' → vs ≡ v ∷ vs' → t ≡ over s at (bits_of w v)
    → put_all t (at + w) (fields_of ws' vs') ≡ put_all s at (fields_of ws vs)
put_next s at ws' vs' e f g = rw (e, f, g)

pub put_none : (s ws vs : List ℕ) (at : ℕ) → (length ws ≡ 0) ⊎ (length vs ≡ 0) → put_all s at (fields_of ws vs) ≡ s
put_none s [] vs at h = refl
put_none s (w ∷ ws) [] at h = refl
put_none s (w ∷ ws) (v ∷ vs) at h = ⊎_elim (λ e. absurd (omega arith)) (λ e. absurd (omega arith)) h
