-- A number that was read of bytes.
use Rattle.std.specs.Prelude.{◌≡◌, ◌≤◌, ◌^◌, ℕ, nat_lt, if◌then◌else◌, ℤ, pos, ◌+ℤ◌, ◌-ℤ◌, ◌*ℤ◌, unsigned_abs, List, Option, Some, None}
use Rattle.parquet_pages.specs.Types.{signed_number}

-- of a byte in two's complement
abbrev pub first_number : ℕ → ℤ
first_number byte = if nat_lt byte 128 then pos byte else pos byte -ℤ pos 256

-- the number, or None where it has more than 38 digits
abbrev pub IsSignedNumber : List ℕ → Option ℤ → Type 0
IsSignedNumber bytes (Some n) = signed_number bytes ≡ n
IsSignedNumber bytes None = 10 ^ 38 ≤ unsigned_abs (signed_number bytes)

-- a number with one more byte behind it
abbrev pub appended : ℤ → ℕ → ℤ
appended number byte = number *ℤ pos 256 +ℤ pos byte
