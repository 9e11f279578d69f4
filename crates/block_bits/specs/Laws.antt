-- The laws of bit fields, proved in proofs/RoundTrip.antt.
use Rattle.std.specs.Prelude.{ℕ, ◌+◌, ◌^◌, ◌≤◌, ◌<◌, ◌≡◌, List, length, get_or}
use Rattle.block_bits.specs.Bits.{bits_of, bits_in, field}
use Rattle.basics.specs.Lists.{over}
use Rattle.block_bits.specs.Fields.{put_all, get_all, widths, values, total, Fit, Apart}

-- for every width and offset: a value that was put is got back, and every field apart from it is what it was
abbrev pub PutLaw : Type 0
PutLaw =
    (s : List ℕ) (at w v : ℕ) → at + w ≤ length s → v < 2 ^ w
    → (field (over s at (bits_of w v)) at w ≡ v)
    × ((at' w' : ℕ) → Apart at w at' w' → field (over s at (bits_of w v)) at' w' ≡ field s at' w')

-- for every width and offset: putting what was got leaves the bits, each 0 or 1, as they were
abbrev pub GetLaw : Type 0
GetLaw = (s : List ℕ) (at w : ℕ) → ((i : ℕ) → get_or s i 0 < 2) → at + w ≤ length s → over s at (bits_of w (field s at w)) ≡ s

-- fields of any widths that were put one after another are got back
abbrev pub FieldsLaw : Type 0
FieldsLaw = (fs : List (ℕ × ℕ)) (s : List ℕ) (at : ℕ) → at + total fs ≤ length s → Fit fs → get_all (put_all s at fs) at (widths fs) ≡ values fs

-- bytes with equal bits are equal
abbrev pub SameBits : Type 0
SameBits = (s t : List ℕ) → ((i : ℕ) → get_or s i 0 < 256) → ((i : ℕ) → get_or t i 0 < 256) → bits_in s ≡ bits_in t → s ≡ t
