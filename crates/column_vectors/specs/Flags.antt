-- Flags, and how many of them are set.
use Rattle.std.specs.Prelude.{ℕ, zero, suc, ◌+◌, List, [], ◌∷◌, ◌++◌, Bool, true, false}

-- how many flags are set
abbrev pub count_of : List Bool → ℕ
count_of [] = 0
count_of (true ∷ flags) = count_of flags + 1
count_of (false ∷ flags) = count_of flags

-- the flags of so many rows, by a test of a row's place
unfoldable pub flags_of : ℕ → (ℕ → Bool) → List Bool
flags_of zero flag_at = []
flags_of (suc rows) flag_at = flags_of rows flag_at ++ flag_at rows ∷ []
