-- What one step of reading or writing runs did, which functions inside the crate say.
use Rattle.std.specs.Prelude.{◌≡◌, ⊤, ℕ, suc, ◌+◌, ◌-◌, ◌*◌, ◌^◌, ◌<◌, ◌≤◌, List, ◌++◌, length, take, map, slice_index, Some, None, option_map, Result, Ok, Err}
use Rattle.std.specs.List.{range_with_len}
use Rattle.level_runs.specs.Bits.{byte_bits, packed_numbers}
use Rattle.level_runs.specs.Reading.{Front}
use Rattle.level_runs.specs.Runs.{IsRun}
use Rattle.level_runs.specs.Varint.{groups_number, IsChain}
use Rattle.level_runs.specs.declared.fault.RunFault.{RunFault}
use Rattle.level_runs.specs.declared.fault.RunFault.TheVariants.{BadRuns, Memory}

-- a list with the numbers of a run at its end, as far as there is room, and the bytes behind the run
abbrev pub joined : List ℕ → ℕ → List ℕ × List ℕ → List ℕ × List ℕ
joined old room run = (old ++ take room run.0, run.1)

-- the numbers of a run went to the end of a list; `now` gives the bytes behind the run
abbrev pub TakesRun : {Rest : Type 0} → (Rest → List ℕ) → Front (List ℕ) → ℕ → List ℕ → List ℕ → Result Rest RunFault
    → Type 0
TakesRun now known room old new (Ok rest) = option_map (joined old room) known ≡ Some (new, now rest)
TakesRun now known room old new (Err BadRuns) = known ≡ None
TakesRun now known room old new (Err Memory) = ⊤

-- a number went to the end as a chain of seven bits a byte, which is no longer than the number needs
pub record AppendsChain (old new : List ℕ) (number : ℕ) : Type 0 where
  pub chain : List ℕ
  pub is : IsChain chain
  pub value : number ≡ groups_number chain
  pub size : (more : ℕ) → number < 128 ^ suc more → length chain ≤ suc more
  pub joined : new ≡ old ++ chain

-- bytes went to the end which have the bits of `before`, but for those of `after`
pub record PacksBits (old new before after : List ℕ) : Type 0 where
  pub written : List ℕ
  pub joined : new ≡ old ++ written
  pub same : before ≡ byte_bits written ++ after

-- numbers went to the end, packed
pub record AppendsPacked (width : ℕ) (numbers old new : List ℕ) : Type 0 where
  pub written : List ℕ
  pub joined : new ≡ old ++ written
  pub size : 8 * length written ≡ length numbers * width
  pub means : packed_numbers width written (length numbers) ≡ numbers

-- a run of numbers went to the end, in at most so many bytes
pub record AppendsRun (width most : ℕ) (numbers old new : List ℕ) : Type 0 where
  pub written : List ℕ
  pub is : IsRun width written numbers
  pub size : length written ≤ most
  pub joined : new ≡ old ++ written

-- numbers, and zeros behind them, as many as make groups of eight
abbrev pub filled_up : List ℕ → ℕ → List ℕ
filled_up numbers groups = map (slice_index numbers) (range_with_len 0 (8 * groups))

-- a run of the first numbers went to the end; `rest` are those that are left
pub record WritesRun (width : ℕ) (numbers rest old new : List ℕ) : Type 0 where
  pub run : List ℕ
  pub written : List ℕ
  pub is : IsRun width written run
  pub joined : new ≡ old ++ written
  pub first : numbers ≡ take (length numbers) run ++ rest
  pub left : length rest ≡ length numbers - length run
  pub shorter : length rest < length numbers
  pub size : length written + (width + 10) * length rest ≤ (width + 10) * length numbers
