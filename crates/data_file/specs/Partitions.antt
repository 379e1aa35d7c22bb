-- The values of a file's partition columns (PROTOCOL.md, "Partition Value Serialization").
use Rattle.std.specs.Prelude.{ℕ, ◌*◌, List, [], ◌∷◌, ◌++◌, length, find, Option, Some, None, unwrap_or, Ok, if◌then◌else◌}
use Rattle.std.specs.Str.{bytes_eq}
use Rattle.column_mapping.specs.declared.mode.Mode.{Mode}
use Rattle.column_mapping.specs.declared.mode.Mode.TheVariants as mode
use Rattle.delta_schema.specs.declared.schema.ColumnDef.{ColumnDef}
use Rattle.dm_text.specs.Printing.{printed}
use Rattle.dm_text.specs.Reading.{text_value}
use Rattle.dm_types.specs.Then.{go}
use Rattle.dm_types.specs.declared.value.Value.{Value}
use Rattle.dm_types.specs.declared.value.Value.TheVariants as value
use Rattle.data_file.specs.Room.{Answer, less, or_else}
use Rattle.dm_types.specs.declared.refusal.Counted.TheVariants as counted
use Rattle.data_file.specs.declared.fault.PartFault.TheVariants as fault

-- the partition values that an action gives: texts or nulls under names
abbrev pub Given : Type 0
Given = List (List ℕ × Option (List ℕ))

-- the name under which a column's value stands (PROTOCOL.md, "Column Mapping"): its physical name in modes name and
-- id, where it has one
abbrev pub key_of : Mode → ColumnDef → List ℕ
key_of mode.Plain column = column.name
key_of mode.ByName column = unwrap_or column.physical column.name
key_of mode.ById column = unwrap_or column.physical column.name

-- the text that is given; without one, the empty text
abbrev pub given_text : Option (List ℕ × Option (List ℕ)) → List ℕ
given_text None = []
given_text (Some given) = unwrap_or given.1 []

-- the text under a name; where the name is absent or has null, the empty text
abbrev pub text_under : Given → List ℕ → List ℕ
text_under values key = given_text (find (λ given. bytes_eq given.0 key) values)

-- the value that a text is of: null where it is empty, if the column takes null
abbrev pub value_of : ColumnDef → List ℕ → Option Value
value_of column [] = if column.nullable then Some value.Null else None
value_of column text = text_value column.kind text

-- the value of the column at a place of the schema, if it is a partition column
abbrev pub constant_of : Mode → Given → ℕ → ColumnDef → Answer (Option Value)
constant_of mode values at column =
    if column.partition
    then go (or_else (fault.Partition at) (value_of column (text_under values (key_of mode column)))) (λ v. Ok (Some v))
    else Ok None

-- the values of columns, behind those of the columns before them
unfoldable pub constants_from : Mode → Given → List ColumnDef → List (Option Value) → Answer (List (Option Value))
constants_from mode values [] found = Ok found
constants_from mode values (column ∷ more) found =
    go (constant_of mode values (length found) column) (λ one. constants_from mode values more (found ++ one ∷ []))

-- how many bytes the printed text of a partition value has; null has no text
abbrev pub printed_size : Option Value → ℕ
printed_size None = 0
printed_size (Some value.Null) = 0
printed_size (Some v) = length (printed v)

-- the room for text behind partition values, each of which is printed once for each row
unfoldable pub text_behind : ℕ → List (Option Value) → ℕ → Answer ℕ
text_behind rows [] left = Ok left
text_behind rows (constant ∷ more) left =
    go (less counted.TextBytes (printed_size constant * rows) left) (text_behind rows more)
