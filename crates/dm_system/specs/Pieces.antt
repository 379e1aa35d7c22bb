-- What a writer holds after a whole piece was to be written, where it tells its bytes.
use Rattle.std.specs.Prelude.{ℕ, ◌≤◌, List, length, take, Option, Result, Ok, Err}
use Rattle.std.specs.Io.KnownBytes.{Appends}

-- after Ok the whole piece was written, after a fault a front of it
abbrev pub WritesWhole : {E : Type 0} → List ℕ → Option (List ℕ) → Option (List ℕ) → Result (Unit {0}) E → Type 0
WritesWhole piece old new (Ok _) = Appends old new piece
WritesWhole piece old new (Err e) = (n : ℕ) × (n ≤ length piece) × Appends old new (take n piece)
