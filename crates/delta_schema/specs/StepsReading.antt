-- What the steps of reading a schema answer.
use Rattle.std.specs.Prelude.{◌≡◌, ⊤, ℕ, List, [], ◌∷◌, Bool, if◌then◌else◌, Option, Some, None, Result, Ok, Err}
use Rattle.std.specs.Cmp.Lexicographic.{slice_cmp}
use Rattle.std.specs.List.{list_any}
use Rattle.std.specs.Ordering.{is_eq, nat_cmp}
use Rattle.serde_json.specs.Data.{Data}
use Rattle.serde_json.specs.Written.{compact_text}
use Rattle.delta_schema.specs.Metadata.{is_kept}
use Rattle.delta_schema.specs.declared.fault.Fault.{Fault}
use Rattle.delta_schema.specs.declared.fault.SchemaFault.{SchemaFault}
use Rattle.delta_schema.specs.declared.fault.SchemaFault.TheVariants as fault
use Rattle.delta_schema.specs.declared.schema.ColumnDef.{ColumnDef}
use Rattle.delta_schema.specs.declared.fault.Fault.TheVariants.{Bad, Memory}

-- the value that there is, or Bad where there is none
abbrev pub Gives : {A : Type 0} → Option A → Result A Fault → Type 0
Gives known (Ok a) = known ≡ Some a
Gives known (Err Bad) = known ≡ None
Gives known (Err Memory) = ⊤

-- the columns, or the name of the first without a type
abbrev pub GivesTyped : Result (List ColumnDef) (List ℕ) → Result (List ColumnDef) SchemaFault → Type 0
GivesTyped known (Ok columns) = known ≡ Ok columns
GivesTyped known (Err fault.BadSchema) = ⊥
GivesTyped known (Err (fault.UnsupportedType column)) = known ≡ Err column
GivesTyped known (Err fault.TooMany) = ⊥
GivesTyped known (Err fault.Memory) = ⊤

-- a name is in an ordered set of these keys
abbrev pub is_held : List (List ℕ) → List ℕ → Bool
is_held keys name = list_any (λ key. is_eq (slice_cmp nat_cmp name key)) keys

-- what a member of metadata adds to the others
abbrev pub other_of : Bool → List ℕ → Data → List (List ℕ × List ℕ)
other_of identity name value = if is_kept identity name then [] else (name, compact_text value) ∷ []
