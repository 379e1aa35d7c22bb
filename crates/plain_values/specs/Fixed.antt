-- Fixed arrays that stand one after the other (Encodings.md, "Plain: (PLAIN = 0)").
use Rattle.std.specs.Prelude.{ℕ, zero, suc, List, [], ◌∷◌, take, drop}

-- the first arrays of a size in bytes
unfoldable pub arrays_in : (size count : ℕ) → List ℕ → List (List ℕ)
arrays_in size zero bytes = []
arrays_in size (suc count) bytes = take size bytes ∷ arrays_in size count (drop size bytes)
