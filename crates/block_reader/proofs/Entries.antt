-- The entries of a directory, read one by one.
use Rattle.basics.proofs.Kit.{◌≡◌, sym, ap, ◌∙◌, List, [], ◌∷◌, ◌++◌, ℕ, suc, ◌+◌, ◌*◌, ◌<◌, zero, add-one, length, take, set, take-suc-set, arith}
use Rattle.block_bits.specs.Bits.{bits_in, field}
use Rattle.block_forms.specs.Decode.{read_entries}

entries_snoc : (xs : List ℕ) (at n : ℕ) → read_entries xs at (suc n) ≡ read_entries xs at n ++ (field (bits_in xs) (at + 12 * n) 12 ∷ [])
unfolding read_entries
entries_snoc xs at zero = let z : at + 12 * 0 ≡ at = omega arith in rw z
entries_snoc xs at (suc n) =
    let e : at + 12 + 12 * n ≡ at + 12 * suc n = omega arith in
    ap (λ (l : List ℕ). field (bits_in xs) at 12 ∷ l) (entries_snoc xs (at + 12) n ∙ ap (λ (k : ℕ). read_entries xs (at + 12) n ++ (field (bits_in xs) k 12 ∷ [])) e)

pub entries_iteration : (xs out : List ℕ) (i v : ℕ) → i < length out → take i out ≡ read_entries xs 64 i → v ≡ field (bits_in xs) (64 + 12 * i) 12
    → take (i + 1) (set out i v) ≡ read_entries xs 64 (i + 1)
entries_iteration xs out i v h e q = rw (add-one i, take-suc-set out i v h, e, q) (sym (entries_snoc xs 64 i))
