-- BOOLEAN: one bit a value, the least first (Encodings.md, "Plain: (PLAIN = 0)": "bit-packed, LSB first").
use Rattle.std.specs.Prelude.{◌≡◌, ℕ, ◌+◌, ◌*◌, ◌/◌, ◌%◌, ◌^◌, List, [], ◌∷◌, length, take, drop, map, slice_index, Bool, ◌==◌, nat_lt, Some, None, if◌then◌else◌}
use Rattle.std.specs.List.{range_with_len}
use Rattle.plain_values.specs.Meaning.{Front}

-- in how many bytes so many bits are
abbrev pub flag_bytes : ℕ → ℕ
flag_bytes count = (count + 7) / 8

-- the truth value at a place: a bit of a byte
unfoldable pub flag_at : List ℕ → ℕ → Bool
flag_at bytes place = slice_index bytes (place / 8) / 2 ^ (place % 8) % 2 == 1

abbrev pub flags_in : List ℕ → ℕ → List Bool
flags_in bytes count = map (flag_at bytes) (range_with_len 0 count)

-- the bytes have these truth values, and as few bytes as hold them; bits behind the last one may be any
pub record AreFlags (flags : List Bool) (bytes : List ℕ) : Type 0 where
  pub size : length bytes ≡ flag_bytes (length flags)
  pub each : flags ≡ flags_in bytes (length flags)

-- so many truth values at the front
abbrev pub flags_at : ℕ → List ℕ → Front (List Bool)
flags_at count bytes =
    if nat_lt (length bytes) (flag_bytes count) then None
    else Some (flags_in bytes count, drop (flag_bytes count) bytes)

-- ---- the bytes that are written: bits behind the last one are 0

-- the number with these bits, the least first
abbrev pub flag_number : List Bool → ℕ
flag_number [] = 0
flag_number (flag ∷ flags) = (if flag then 1 else 0) + 2 * flag_number flags

-- the byte with the eight truth values from place 8 * k on
abbrev pub flag_byte : List Bool → ℕ → ℕ
flag_byte flags k = flag_number (take 8 (drop (8 * k) flags))

unfoldable pub flags_spelling : List Bool → List ℕ
flags_spelling flags = map (flag_byte flags) (range_with_len 0 (flag_bytes (length flags)))
