-- The names of the kit that proofs use, so that a proof file brings them in by one line.
pub use mathlib.Core.Path.{◌≡◌, refl, sym, ap, ◌∙◌, subst, fun_ext, ap₂}
pub use mathlib.Core.Logic.{⊎_elim, ◌⊎◌, inl, inr, ◌≢◌}
pub use mathlib.Core.Bool.{Bool, true, false, ◌&&◌, not, ◌||◌, cond, or_assoc}
pub use mathlib.Core.Option.{some, none, Option, map as Option·map}
pub use mathlib.Core.List.{List, [], ◌∷◌, ◌++◌, append_assoc, append-nil, map, tail}
pub use Prim.Native.Nat.{ℕ, suc, ◌+◌, ◌*◌, ◌%◌, ◌^◌, ◌≤◌, ◌<◌, zero, ◌/◌, ◌-◌, min, zero-le, suc-le-suc, max}
pub use native.Mathlib.Numerals.{one-add, add-one}
pub use native.Mathlib.Nat.{lt_of_lt_of_le, mod-eq_of_lt, add-zero, add_assoc, zero-add, suc-add, add_comm, mod-one, mod-lt, pow-suc, mul-add-div_right, mul-add-mod_self_right, div-one}
pub use native.Mathlib.Nat.{one-mul, min-le_right, le_of_suc-le-suc, not-suc-le-zero, zero-lt-suc, div-eq_of_lt, div_self, zero-div, mul-mod_left, min-eq_left, min-eq_right, le_trans}
pub use lib.Arith.{digits_lt}
pub use lib.Pow.{pow_mono, pow_pos, pow-add, shr-shr, split, high, mod-pow-add, low, shr_lt, pow-lt, shl-shr}
pub use lib.IntN.{ℤ, pos, neg_ℤ, ◌-ℤ◌, +ℤ_idl}
pub use lib.Bits.{bit_or, or_step, or_shr}
pub use lib.Dec.{lit<, leb, eqb, ltb, T, eqb_refl, le→leb}
pub use lib.ListN.{length, take, drop, get_or, set, length-append, length-take, length-drop, take-append-drop, length-set, length-replicate, replicate-append-replicate, drop_of_length-le}
pub use lib.ListN.{length-map, get_or-append as List·getD-append, replicate, get_or-replicate, get_or-map as List·getD-map, get_or-eq_default as List·getD-eq-default}
pub use lib.Seq.{split_at, set_split, take_at, drop-append_seam, drop-drop, take-add, take-append-add, take-append-le, take-append_seam, drop-append-add, drop-append-le, drop_at, drop-cons}
pub use lib.Seq.{drop-length, take-suc-set, take_all, append_snoc, take-suc, get_or-drop, length-take-le, get_or-append-add, get_or-set_same, get_or-set_other, set_at, take-nil, take-length}
pub use lib.Seq.{get_or-take, ext_get_or, set-get_or, set-set, take-set-le, drop-set-lt, take-take, drop-nil, set-append_left, get_or-append_seam}
pub use mir.Facts.{to_z-of_z, to_z_pos}
pub use borrow.Author.Tests.{le-leb, leb-true, lt-ltb, le-ltb, lt-leb, eqb-true, eq-eqb, ne_eqb, eqb-false, not-true, not-false, leb-false, ltb-true, ltb-false}
pub use borrow.Author.Count.{below_none, below_more}
pub use borrow.Author.Rules.{rules}
pub use native.Mathlib.Omega.{arith}
