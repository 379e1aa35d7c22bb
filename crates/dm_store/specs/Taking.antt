-- What taking all that a source has left gives.
use Rattle.std.specs.Prelude.{◌≡◌, ℕ, ◌<◌, ◌≤◌, List, [], length, Option, Some, None, Result, Ok, Err, ⊤}
use Rattle.std.specs.Io.KnownBytes.{IsAtEnd}
use Rattle.dm_store.specs.Causes.{Rose}
use Rattle.dm_store.specs.declared.taking.TakeFault.{TakeFault}
use Rattle.dm_store.specs.declared.taking.TakeFault.TheVariants as fault

-- only a failed call of the source raises its count
abbrev pub TakeCause : TakeFault → ℕ → ℕ → Type 0
TakeCause fault.Failed before now = Rose before now
TakeCause fault.TooLong before now = now ≡ before
TakeCause fault.Memory before now = now ≡ before

-- all that was left, or that it is longer than the limit
abbrev pub TakesAll : ℕ → Option (List ℕ) → Result (List ℕ) TakeFault → Type 0
TakesAll limit None r = ⊤
TakesAll limit (Some bytes) (Ok taken) = (taken ≡ bytes) × (length bytes ≤ limit)
TakesAll limit (Some bytes) (Err fault.TooLong) = limit < length bytes
TakesAll limit (Some bytes) (Err fault.Failed) = ⊤
TakesAll limit (Some bytes) (Err fault.Memory) = ⊤

-- after Ok a source that told its bytes tells that none is left
abbrev pub Empties : Option (List ℕ) → Option (List ℕ) → Result (List ℕ) TakeFault → Type 0
Empties None new (Ok taken) = IsAtEnd new
Empties (Some bytes) new (Ok taken) = new ≡ Some []
Empties old new (Err e) = ⊤
