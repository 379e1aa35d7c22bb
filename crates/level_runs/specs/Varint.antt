-- A number as a varint, which begins each run (Encodings.md, "Run Length Encoding / Bit-Packing Hybrid"): ULEB128, in
-- at most 10 bytes, below 2 ^ 64.
use Rattle.std.specs.Prelude.{◌≡◌, ℕ, ◌+◌, ◌*◌, ◌%◌, ◌^◌, ◌<◌, ◌≤◌, List, [], ◌∷◌, length}

-- the number of seven bits from each byte, the lowest first
abbrev pub groups_number : List ℕ → ℕ
groups_number [] = 0
groups_number (b ∷ bs) = b % 128 + 128 * groups_number bs

-- a byte of 128 or more has another behind it, and the last one is below 128
abbrev pub IsChain : List ℕ → Type 0
IsChain [] = ⊥
IsChain (b ∷ []) = b < 128
IsChain (b ∷ c ∷ bs) = (128 ≤ b) × IsChain (c ∷ bs)

-- the bytes are this number's varint; high groups may be zeros
pub record IsVarint (bytes : List ℕ) (number : ℕ) : Type 0 where
  pub chain : IsChain bytes
  pub size : length bytes ≤ 10
  pub value : number ≡ groups_number bytes
  pub small : number < 2 ^ 64
