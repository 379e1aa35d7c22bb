-- The form of one value, for the physical types whose values stand one after the other (Encodings.md, "Plain: (PLAIN =
-- 0)").
use Rattle.std.specs.Prelude.{◌≡◌, ℕ, ℤ, ◌^◌, ◌<◌, ◌++◌, List, length, option_map, FitsSigned}
use Rattle.std.specs.Int.{cast_signed, cast_unsigned, w32, w64}
use Rattle.byteorder.specs.Endian.{little_number, little_bytes}
use Rattle.dm_types.specs.Then.{◌>>=◌}
use Rattle.plain_values.specs.Meaning.{Front, bytes_at}

-- ---- the bytes of a value

-- INT32: four bytes, little endian, two's complement
abbrev pub int32_bytes : ℤ → List ℕ
int32_bytes value = little_bytes 4 (cast_unsigned w32 value)

-- INT64: eight bytes, little endian, two's complement
abbrev pub int64_bytes : ℤ → List ℕ
int64_bytes value = little_bytes 8 (cast_unsigned w64 value)

-- BYTE_ARRAY: the length in four bytes, little endian, and the bytes
abbrev pub array_bytes : List ℕ → List ℕ
array_bytes value = little_bytes 4 (length value) ++ value

-- INT96, FLOAT, DOUBLE and FIXED_LEN_BYTE_ARRAY: the bytes
abbrev pub own_bytes : List ℕ → List ℕ
own_bytes value = value

-- ---- a value of its type

abbrev pub IsInt32 : ℤ → Type 0
IsInt32 value = FitsSigned w32 value

abbrev pub IsInt64 : ℤ → Type 0
IsInt64 value = FitsSigned w64 value

abbrev pub IsArray : List ℕ → Type 0
IsArray value = length value < 2 ^ 32

abbrev pub HasSize : ℕ → List ℕ → Type 0
HasSize size value = length value ≡ size

-- ---- a value at the front of bytes

abbrev pub as_int32 : List ℕ × List ℕ → ℤ × List ℕ
as_int32 found = (cast_signed w32 (little_number 4 found.0), found.1)

abbrev pub int32_at : List ℕ → Front ℤ
int32_at bytes = option_map as_int32 (bytes_at 4 bytes)

abbrev pub as_int64 : List ℕ × List ℕ → ℤ × List ℕ
as_int64 found = (cast_signed w64 (little_number 8 found.0), found.1)

abbrev pub int64_at : List ℕ → Front ℤ
int64_at bytes = option_map as_int64 (bytes_at 8 bytes)

abbrev pub array_at : List ℕ → Front (List ℕ)
array_at bytes = bytes_at 4 bytes >>= λ size. bytes_at (little_number 4 size.0) size.1
