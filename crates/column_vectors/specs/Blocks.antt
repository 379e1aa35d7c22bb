-- Flags as bits, in blocks of 64.
use Rattle.std.specs.Prelude.{◌≡◌, ℕ, ◌+◌, ◌*◌, ◌/◌, ◌%◌, ◌<◌, ◌≤◌, ◌==◌, List, [], ◌∷◌, ◌++◌, length, slice_index_or, Bool, true, false}
use Rattle.std.specs.Int.{bit_at}
use Rattle.column_vectors.specs.Flags.{count_of, flags_of}
use Rattle.column_vectors.specs.declared.block.Block.{Block}

abbrev pub empty_block : Block
empty_block = record { bits = 0; before = 0 }

abbrev pub block_at : List Block → ℕ → Block
block_at blocks at = slice_index_or blocks at empty_block

-- the flag of a row is a bit of its block
abbrev pub flag_at : List Block → ℕ → Bool
flag_at blocks row = bit_at (block_at blocks (row / 64)).bits (row % 64) == 1

-- what every selection keeps: no block too many, and right counts
pub record IsSelection (blocks : List Block) (rows count : ℕ) : Type 0 where
  pub enough : rows ≤ 64 * length blocks
  pub few : 64 * length blocks < rows + 64
  pub counted : count ≡ count_of (flags_of rows (flag_at blocks))
  pub before : (at : ℕ) → at < length blocks
      → (block_at blocks at).before ≡ count_of (flags_of (64 * at) (flag_at blocks))

abbrev pub flag_number : Bool → ℕ
flag_number true = 1
flag_number false = 0

-- one flag more
pub record AddsFlag (old new : List Block) (rows count : ℕ) (flag : Bool) : Type 0 where
  pub flags : flags_of (rows + 1) (flag_at new) ≡ flags_of rows (flag_at old) ++ flag ∷ []
  pub kept : IsSelection new (rows + 1) (count + flag_number flag)
