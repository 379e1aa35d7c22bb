-- Values one after the other, as PLAIN writes them (Encodings.md, "Plain: (PLAIN = 0)"), and what is read of bytes.
use Rattle.std.specs.Prelude.{◌≡◌, ◌≢◌, ℕ, zero, suc, ◌<◌, List, [], ◌∷◌, ◌++◌, length, take, drop, slice_index, Option, Some, None, option_map, Result, Ok, Err, nat_lt, if◌then◌else◌}
use Rattle.std.specs.List.{All, flat_map}
use Rattle.dm_types.specs.Then.{◌>>=◌}

-- numbers that are bytes
abbrev pub AreBytes : List ℕ → Type 0
AreBytes bytes = (place : ℕ) → slice_index bytes place < 256

-- each value is one of its type, and the bytes are the values' own, one after the other
pub record StandInTurn {V : Type 0} (is : V → Type 0) (spelled : V → List ℕ) (values : List V) (bytes : List ℕ)
    : Type 0 where
  pub each : All is values
  pub joined : bytes ≡ flat_map spelled values

-- ---- what is read

-- what is wrong with bytes that aren't so many values: they end before the last value, or bytes are left
pub data Wrong : Type 0 where
  short : Wrong
  extra : Wrong

-- a value at the front, and the bytes behind it
abbrev pub Front : Type 0 → Type 0
Front A = Option (A × List ℕ)

-- so many bytes at the front
abbrev pub bytes_at : ℕ → List ℕ → Front (List ℕ)
bytes_at size bytes = if nat_lt (length bytes) size then None else Some (take size bytes, drop size bytes)

-- a value before those behind it
abbrev pub with_value : {V : Type 0} → V → Front (List V) → Front (List V)
with_value value more = option_map (λ found. (value ∷ found.0, found.1)) more

-- so many values at the front, where `one` reads one
unfoldable pub values_at : {V : Type 0} → (List ℕ → Front V) → ℕ → List ℕ → Front (List V)
values_at one zero bytes = Some ([], bytes)
values_at one (suc count) bytes = one bytes >>= λ first. with_value first.0 (values_at one count first.1)

-- what is at the front, with nothing behind it
abbrev pub whole_at : {A : Type 0} → A → List ℕ → Result A Wrong
whole_at found [] = Ok found
whole_at found (b ∷ bs) = Err extra

abbrev pub whole : {A : Type 0} → Front A → Result A Wrong
whole None = Err short
whole (Some found) = whole_at found.0 found.1

-- ---- what an answer says

-- a front of bytes is so many values, and bytes are left behind it
pub record HasMore {A : Type 0} (count_of : A → ℕ) (means : A → List ℕ → Type 0) (count : ℕ) (bytes : List ℕ)
    : Type 0 where
  pub values : A
  pub front : List ℕ
  pub rest : List ℕ
  pub counted : count_of values ≡ count
  pub is : means values front
  pub whole : bytes ≡ front ++ rest
  pub left : rest ≢ []

-- of bytes that were to be `count` values: they are these; or more than these; or no front of them is so many values
abbrev pub Judges : {A : Type 0} → (A → ℕ) → (A → List ℕ → Type 0) → ℕ → List ℕ → Result A Wrong → Type 0
Judges count_of means count bytes (Ok values) = (count_of values ≡ count) × means values bytes
Judges count_of means count bytes (Err extra) = HasMore count_of means count bytes
Judges {A} count_of means count bytes (Err short) =
    (values : A) (front rest : List ℕ) → count_of values ≡ count → means values front → bytes ≡ front ++ rest → ⊥
