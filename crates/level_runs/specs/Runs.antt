-- What runs mean (Encodings.md, "Run Length Encoding / Bit-Packing Hybrid").
use Rattle.std.specs.Prelude.{◌≡◌, ℕ, ◌+◌, ◌*◌, ◌/◌, ◌^◌, ◌<◌, ◌≤◌, List, ◌++◌, length, take, replicate, ◌⊎◌}
use Rattle.std.specs.List.{AllByRecursion, flat_map}
use Rattle.byteorder.specs.Endian.{little_number}
use Rattle.level_runs.specs.Bits.{packed_numbers}
use Rattle.level_runs.specs.Varint.{IsVarint}

-- in how many whole bytes a number of `width` bits is repeated
abbrev pub value_size : ℕ → ℕ
value_size width = (width + 7) / 8

-- groups of eight packed numbers: an odd varint that counts the groups, and `width` bytes for each group
pub record IsPackedRun (width : ℕ) (bytes numbers : List ℕ) : Type 0 where
  pub header : List ℕ
  pub packed : List ℕ
  pub groups : ℕ
  pub begins : IsVarint header (2 * groups + 1)
  pub size : length packed ≡ groups * width
  pub whole : bytes ≡ header ++ packed
  pub means : numbers ≡ packed_numbers width packed (8 * groups)

-- a repeated number: an even varint that says how often, and the number in little endian, which fits the width
pub record IsRepeatedRun (width : ℕ) (bytes numbers : List ℕ) : Type 0 where
  pub header : List ℕ
  pub value : List ℕ
  pub times : ℕ
  pub begins : IsVarint header (2 * times)
  pub size : length value ≡ value_size width
  pub fits : little_number (value_size width) value < 2 ^ width
  pub whole : bytes ≡ header ++ value
  pub means : numbers ≡ replicate times (little_number (value_size width) value)

abbrev pub IsRun : ℕ → List ℕ → List ℕ → Type 0
IsRun width bytes numbers = IsPackedRun width bytes numbers ⊎ IsRepeatedRun width bytes numbers

-- runs as pairs of their bytes and their numbers
abbrev pub RunPairs : Type 0
RunPairs = List (List ℕ × List ℕ)

abbrev pub bytes_of : RunPairs → List ℕ
bytes_of runs = flat_map (λ run. run.0) runs

abbrev pub numbers_of : RunPairs → List ℕ
numbers_of runs = flat_map (λ run. run.1) runs

-- the bytes are runs one after the other, their numbers are at least `count`, no run begins once `count` numbers are
-- there, and the list is the first `count` of them
pub record MeansRuns (width count : ℕ) (bytes numbers : List ℕ) : Type 0 where
  pub runs : RunPairs
  pub each : AllByRecursion (λ run. IsRun width run.0 run.1) runs
  pub joined : bytes ≡ bytes_of runs
  pub enough : count ≤ length (numbers_of runs)
  pub needed : (k : ℕ) → k < length runs → length (numbers_of (take k runs)) < count
  pub first : numbers ≡ take count (numbers_of runs)
