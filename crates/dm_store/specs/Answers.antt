-- The answers of the clock and of the sources of names in memory, by the number of the call.
use Rattle.std.specs.Prelude.{ℕ, zero, suc, ◌-◌, ◌^◌, ℤ, pos, List, [], ◌∷◌, ◌++◌, length, slice_index_or, Option, Some, None, if◌then◌else◌, nat_lt}
use Rattle.std.specs.Int.{to_be_bytes, w128}
use Rattle.dm_store.specs.Plan.{is_in}

-- the answer of a clock after this many calls: the list in order, then its last number again; 0 where it is empty
abbrev pub time_at : List ℤ → ℕ → ℤ
time_at answers calls = slice_index_or answers calls (slice_index_or answers (length answers - 1) (pos 0))

-- the answers of a clock to its first calls
abbrev pub times_until : List ℤ → ℕ → List ℤ
times_until answers zero = []
times_until answers (suc calls) = times_until answers calls ++ time_at answers calls ∷ []

-- a number as sixteen bytes, the highest first
abbrev pub spelled : ℕ → List ℕ
spelled number = to_be_bytes w128 number

-- the name at the draw of this number, from 1: the list in order, then the number of the draw
abbrev pub name_at : List (List ℕ) → ℕ → List ℕ
name_at names number = slice_index_or names (number - 1) (spelled number)

-- the names of the first draws without those that were to fail
abbrev pub names_until : List (List ℕ) → List ℕ → ℕ → List (List ℕ)
names_until names failing zero = []
names_until names failing (suc draws) = if is_in (suc draws) failing then names_until names failing draws
    else names_until names failing draws ++ name_at names (suc draws) ∷ []

-- the answers of an object that counts its calls: it tells them until the count stands at its last value
abbrev pub told_below : {A : Type 0} → ℕ → List A → Option (List A)
told_below calls answers = if nat_lt calls (2 ^ 64 - 1) then Some answers else None
