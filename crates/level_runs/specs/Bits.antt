-- Numbers packed into bits (Encodings.md, "Run Length Encoding / Bit-Packing Hybrid": "the values are packed from the
-- least significant bit of each byte to the most significant bit").
use Rattle.std.specs.Prelude.{ℕ, zero, suc, ◌+◌, ◌*◌, ◌/◌, ◌%◌, List, [], ◌∷◌, take, drop, map}
use Rattle.std.specs.List.{flat_map, range_with_len}

-- the lowest `width` bits of a number, the least first
unfoldable pub bits : ℕ → ℕ → List ℕ
bits zero n = []
bits (suc width) n = n % 2 ∷ bits width (n / 2)

-- the number whose bits these are: the bit at place k counts 2 ^ k
unfoldable pub bits_number : List ℕ → ℕ
bits_number [] = 0
bits_number (b ∷ bs) = b + 2 * bits_number bs

-- the bits of bytes, one byte after the other
unfoldable pub byte_bits : List ℕ → List ℕ
byte_bits bytes = flat_map (bits 8) bytes

-- the number at place k among packed numbers: it has the `width` bits from bit k * width on
unfoldable pub packed_number : ℕ → List ℕ → ℕ → ℕ
packed_number width bytes k = bits_number (take width (drop (k * width) (byte_bits bytes)))

-- the first numbers among packed numbers
abbrev pub packed_numbers : ℕ → List ℕ → ℕ → List ℕ
packed_numbers width bytes count = map (packed_number width bytes) (range_with_len 0 count)
