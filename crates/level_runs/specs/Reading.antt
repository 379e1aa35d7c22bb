-- The runs at the front of bytes, as a function; None where no front is runs. `src/laws.rt` ties it to what runs mean.
use Rattle.std.specs.Prelude.{ℕ, zero, suc, ◌+◌, ◌-◌, ◌*◌, ◌/◌, ◌%◌, ◌^◌, List, [], ◌∷◌, ◌++◌, length, take, drop, replicate, Option, Some, None, option_map, nat_lt, ◌==◌, if◌then◌else◌}
use Rattle.byteorder.specs.Endian.{little_number}
use Rattle.dm_types.specs.Then.{◌>>=◌}
use Rattle.level_runs.specs.Bits.{packed_numbers}
use Rattle.level_runs.specs.Runs.{value_size}

-- a value, and the bytes behind it
abbrev pub Front : Type 0 → Type 0
Front A = Option (A × List ℕ)

-- one byte of a varint before those behind it
abbrev pub with_group : ℕ → Front ℕ → Front ℕ
with_group b more = option_map (λ high. (b % 128 + 128 * high.0, high.1)) more

-- a chain of at most so many bytes
abbrev pub chain_at : ℕ → List ℕ → Front ℕ
chain_at zero bytes = None
chain_at (suc places) [] = None
chain_at (suc places) (b ∷ bs) = if nat_lt b 128 then Some (b, bs) else with_group b (chain_at places bs)

-- a number below 2 ^ 64
abbrev pub unless_large : ℕ × List ℕ → Front ℕ
unless_large found = if nat_lt found.0 (2 ^ 64) then Some found else None

unfoldable pub varint_at : List ℕ → Front ℕ
varint_at bytes = chain_at 10 bytes >>= unless_large

unfoldable pub packed_at : ℕ → ℕ → List ℕ → Front (List ℕ)
packed_at width groups bytes =
    if nat_lt (length bytes) (groups * width) then None
    else Some (packed_numbers width (take (groups * width) bytes) (8 * groups), drop (groups * width) bytes)

-- a number that fits the width, so many times
abbrev pub repeated : ℕ → ℕ → ℕ → Option (List ℕ)
repeated width times number = if nat_lt number (2 ^ width) then Some (replicate times number) else None

unfoldable pub repeated_at : ℕ → ℕ → List ℕ → Front (List ℕ)
repeated_at width times bytes =
    if nat_lt (length bytes) (value_size width) then None
    else option_map (λ numbers. (numbers, drop (value_size width) bytes))
    (repeated width times (little_number (value_size width) (take (value_size width) bytes)))

-- a run behind its header: odd for packed groups, even for a repeated number
abbrev pub body_at : ℕ → ℕ → List ℕ → Front (List ℕ)
body_at width header bytes =
    if header % 2 == 1 then packed_at width (header / 2) bytes else repeated_at width (header / 2) bytes

unfoldable pub run_at : ℕ → List ℕ → Front (List ℕ)
run_at width bytes = varint_at bytes >>= λ header. body_at width header.0 header.1

-- numbers before those behind them
abbrev pub with_numbers : List ℕ → Front (List ℕ) → Front (List ℕ)
with_numbers numbers more = option_map (λ read. (numbers ++ read.0, read.1)) more

-- the first `count` numbers of at most so many runs
unfoldable pub runs_at : ℕ → ℕ → ℕ → List ℕ → Front (List ℕ)
runs_at zero width count bytes = if count == 0 then Some ([], bytes) else None
runs_at (suc most) width count bytes =
    if count == 0 then Some ([], bytes)
    else (run_at width bytes >>= λ run.
    with_numbers (take count run.0) (runs_at most width (count - length run.0) run.1))

-- numbers, and how many bytes are before those behind them
abbrev pub with_used : List ℕ → Front (List ℕ) → Option (List ℕ × ℕ)
with_used bytes read = option_map (λ found. (found.0, length bytes - length found.1)) read

-- the first `count` numbers of the runs at the front, and in how many bytes they are; each run has a byte, so there are
-- at most as many as bytes
unfoldable pub runs_of : ℕ → ℕ → List ℕ → Option (List ℕ × ℕ)
runs_of width count bytes =
    if nat_lt 32 width then None
    else with_used bytes (runs_at (length bytes) width count bytes)
