-- What a reader of a file returned, beside what the file says.
use Rattle.std.specs.Prelude.{◌≡◌, ⊤, ℕ, true, false, List, length, map, replicate, slice_get, All, Some, Result, Ok, Err}
use Rattle.column_vectors.specs.Cells.{Cells}
use Rattle.delta_schema.specs.declared.schema.ColumnDef.{ColumnDef}
use Rattle.dm_types.specs.declared.value.DataType.TheVariants.{Long}
use Rattle.dm_types.specs.Ranges.{IsNullOrInRange}
use Rattle.dm_types.specs.declared.value.Value.{Value}
use Rattle.parquet_pages.specs.Stored.{is_full}
use Rattle.data_file.specs.Room.{Answer}
use Rattle.data_file.specs.declared.fault.PartFault.{PartFault}
use Rattle.data_file.specs.declared.fault.PartFault.TheVariants as fault

-- what there is, seen by `view`, or the first fault; want of memory is free
abbrev pub Gives : {X A : Type 0} → (X → A) → Answer A → Result X PartFault → Type 0
Gives view known (Ok found) = known ≡ Ok (view found)
Gives view known (Err fault.Memory) = ⊤
Gives view known (Err other) = known ≡ Err other

-- the column has a value for each of so many rows
abbrev pub HasRows : ℕ → Cells → Type 0
HasRows rows column = length column.values ≡ rows

-- a column of long numbers with one for each of so many rows, or null
abbrev pub HasLongs : ℕ → Cells → Type 0
HasLongs rows column = (column.kind ≡ Long) × HasRows rows column

-- the columns are of the types of these columns of a schema
abbrev pub HasTypes : List ColumnDef → List Cells → Type 0
HasTypes schema columns = map (λ column. column.kind) columns ≡ map (λ column. column.kind) schema

-- each partition column of a schema has one value in all of so many rows
abbrev pub HasConstants : List ColumnDef → ℕ → List Cells → Type 0
HasConstants schema rows columns =
    (at : ℕ) (column : ColumnDef) → slice_get schema at ≡ Some column → column.partition ≡ true
    → (v : Value) × (slice_get columns at ≡ Some (record { kind = column.kind; values = replicate rows v }))

-- each value is null or in the range of the type of a schema's column, and none is null where that takes no null
pub record IsRanged (column : ColumnDef) (cells : Cells) : Type 0 where
  pub ranges : All (IsNullOrInRange column.kind) cells.values
  pub full : column.nullable ≡ false → All (λ v. is_full v ≡ true) cells.values

-- the columns are so for these columns of a schema, each for the one at its place
abbrev pub AreRanged : List ColumnDef → List Cells → Type 0
AreRanged schema columns =
    (at : ℕ) (column : ColumnDef) (cells : Cells) → slice_get schema at ≡ Some column → slice_get columns at ≡ Some cells
    → IsRanged column cells
