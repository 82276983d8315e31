-- Signed numbers of eight bytes, in two's complement.
use Rattle.std.specs.Prelude.{◌≡◌, ℕ, ◌-◌, ◌^◌, ◌<◌, min, max, Bool, true, nat_lt, nat_le, ℤ, pos, negsuc, refl}
use Rattle.std.specs.Int.{w64, cast_signed, cast_unsigned}
use Rattle.std.proofs.Common.{arith}
use Rattle.std.proofs.lemmas.Bool.{ltb-true, lt-ltb, le-leb}
use Rattle.std.proofs.lemmas.Int.{ints, to_z-of_z, of_z-to_z}
use Rattle.std.specs.Int.RustNames.{FitsSigned}
use Rattle.tg_codec.specs.Codec.{Codec, u64, narrow}
use Rattle.tg_codec.specs.Streams.{any}
use Rattle.tg_codec.proofs.Laws.{IsCodec, narrow_law, and-right, both}
use Rattle.tg_codec.proofs.Widths.{u64_law}

-- the numbers that the type has
abbrev pub in_i64 : ℤ → Bool
in_i64 (pos n) = nat_lt n (2 ^ 63)
in_i64 (negsuc n) = nat_lt n (2 ^ 63)

abbrev pub i64 : Codec ℤ
i64 = narrow in_i64 (cast_signed w64) (cast_unsigned w64) (u64 any)

pub fits_i64 : (z : ℤ) → in_i64 z ≡ true → FitsSigned w64 z
fits_i64 (pos n) e = record { sfits = ltb-true _ _ e }
fits_i64 (negsuc n) e = record { sfits = ltb-true _ _ e }

pub in_of_fits : (z : ℤ) → FitsSigned w64 z → in_i64 z ≡ true
in_of_fits (pos n) f = lt-ltb _ _ f.sfits
in_of_fits (negsuc n) f = lt-ltb _ _ f.sfits

cast_fits : (n : ℕ) → in_i64 (cast_signed w64 n) ≡ true
cast_fits n = grind (arith, ints)

bits_fit : (n : ℕ) → n < 2 ^ 64 → (u64 any).fits n ≡ true
bits_fit n lt =
    let whole : nat_le (max 0 n) (min (2 ^ 64 - 1) n) ≡ true = le-leb _ _ (omega (arith, lt)) in
    let short : nat_lt n (2 ^ 64) ≡ true = lt-ltb _ _ lt in
    rw (whole, short) refl

bits_below : (z : ℤ) → in_i64 z ≡ true → cast_unsigned w64 z < 2 ^ 64
bits_below (pos n) e = let lt : n < 2 ^ 63 = ltb-true _ _ e in omega (arith, lt)
bits_below (negsuc n) e = omega arith

-- each number of the type has a spelling
pub spells_i64 : (z : ℤ) → in_i64 z ≡ true → i64.fits z ≡ true
spells_i64 z e = both _ _ e (bits_fit _ (bits_below z e))

pub i64_law : IsCodec i64
i64_law = narrow_law _ _ _ (u64_law any) (λ n e. of_z-to_z w64 n (ltb-true _ _ (and-right _ _ e))) (λ z e. to_z-of_z w64 z (fits_i64 z e)) cast_fits
