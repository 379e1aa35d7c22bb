-- A number that is too great for the wide type is too great for `long` wherever one starts.
use Rattle.std.proofs.Common.{◌≡◌, ℤ, ◌+ℤ◌, FitsSigned, arith}
use Rattle.std.specs.Int.{w64, w128, cast_signed, cast_unsigned}
use Rattle.std.proofs.lemmas.Int.{ints, to_z-of_z}

pub wide_way : (start way : ℤ) → FitsSigned w64 start → FitsSigned w64 (start +ℤ way) → FitsSigned w128 way
wide_way start way from to = omega (arith, ints, from, to)

pub wide : (n m : ℤ) → n ≡ cast_signed w128 (cast_unsigned w128 m) → FitsSigned w64 m → cast_signed w128 (cast_unsigned w128 n) ≡ m
wide n m is fits = let e : cast_signed w128 (cast_unsigned w128 m) ≡ m = to_z-of_z w128 m (omega (arith, ints, fits)) in rw (is, e) e
