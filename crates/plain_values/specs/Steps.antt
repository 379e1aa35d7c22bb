-- What one step of reading answers, which functions inside the crate say.
use Rattle.std.specs.Prelude.{◌≡◌, ⊤, ℕ, List, ◌++◌, Option, Some, None, Result, Ok, Err}
use Rattle.plain_values.specs.Meaning.{AreBytes, Front}
use Rattle.plain_values.specs.declared.fault.PlainFault.{PlainFault}
use Rattle.plain_values.specs.declared.fault.PlainFault.TheVariants as fault

-- the value at the front, seen by `view`, or Short where there is none
abbrev pub GivesFront : {X A : Type 0} → (X → A) → Option A → Result X PlainFault → Type 0
GivesFront view known (Ok found) = known ≡ Some (view found)
GivesFront view known (Err fault.Short) = known ≡ None
GivesFront view known (Err fault.Extra) = ⊥
GivesFront view known (Err fault.Memory) = ⊤

-- `one` reads a value where its own bytes stand at the front, and nothing else
pub record IsReaderOf {V : Type 0} (one : List ℕ → Front V) (is : V → Type 0) (spelled : V → List ℕ) : Type 0 where
  pub found : (bytes : List ℕ) (value : V) (rest : List ℕ) → AreBytes bytes → one bytes ≡ Some (value, rest)
      → is value × (bytes ≡ spelled value ++ rest)
  pub again : (value : V) (rest : List ℕ) → is value → one (spelled value ++ rest) ≡ Some (value, rest)
