-- A column that a file holds (PROTOCOL.md, "Column Mapping", "Row Tracking"; the Parquet format, "File format").
use Rattle.std.specs.Prelude.{ℕ, ◌-◌, Bool, true, List, replicate, slice_get, unsigned_abs, Option, Some, None, Result, Ok, Err}
use Rattle.column_mapping.specs.Places.{carriers, choice_of, is_named}
use Rattle.column_mapping.specs.declared.places.PlaceChoice.{PlaceChoice}
use Rattle.column_mapping.specs.declared.places.PlaceChoice.TheVariants as choice
use Rattle.column_vectors.specs.Cells.{Cells}
use Rattle.dm_types.specs.Then.{go}
use Rattle.dm_types.specs.declared.value.DataType.{DataType}
use Rattle.dm_types.specs.declared.value.DataType.TheVariants as kind
use Rattle.dm_types.specs.declared.value.Value.{Value}
use Rattle.dm_types.specs.declared.value.Value.TheVariants as value
use Rattle.parquet_file.specs.File.{Opened, column_of}
use Rattle.parquet_meta.specs.declared.metadata.LeafSchema.{LeafSchema}
use Rattle.parquet_pages.specs.Kept.{text_size}
use Rattle.parquet_pages.specs.declared.fault.FileFault.{FileFault}
use Rattle.parquet_pages.specs.declared.fault.FileFault.TheVariants as file
use Rattle.data_file.specs.Room.{Answer}
use Rattle.data_file.specs.declared.fault.PartColumn.{PartColumn}
use Rattle.dm_types.specs.declared.refusal.Counted.TheVariants as counted
use Rattle.data_file.specs.declared.fault.PartFault.{PartFault}
use Rattle.data_file.specs.declared.fault.PartFault.TheVariants as fault
use Rattle.data_file.specs.declared.stored.Sought.{Sought}

-- how many rows a file has
abbrev pub rows_in : Opened → ℕ
rows_in it = unsigned_abs it.footer.rows

-- what a fault in a column comes to
abbrev pub fault_in : PartColumn → FileFault → PartFault
fault_in column file.BadParquet = fault.BadParquet
fault_in column file.Compressed = fault.Compressed
fault_in column file.Encoding = fault.Encoding
fault_in column file.Mismatch = fault.Mismatch column
fault_in column file.Range = fault.Range column
fault_in column file.TextLimit = fault.TooLarge counted.TextBytes
fault_in column file.Memory = fault.Memory

abbrev pub told_in : {A : Type 0} → PartColumn → Result A FileFault → Answer A
told_in column (Ok found) = Ok found
told_in column (Err e) = Err (fault_in column e)

-- the values of a leaf that is there
abbrev pub in_leaf : Opened → ℕ → Sought → ℕ → Option LeafSchema → Answer (List Value)
in_leaf it left sought at None = Err (fault.Mismatch sought.column)
in_leaf it left sought at (Some leaf) =
    told_in sought.column
    (column_of it at (record { kind = sought.kind; nullable = sought.nullable; leaf = leaf }) left)

-- the values of the leaf at a place, with room for so much text
abbrev pub leaf_values : Opened → ℕ → Sought → ℕ → Answer (List Value)
leaf_values it left sought at = in_leaf it left sought at (slice_get it.footer.leaves at)

-- a column's values: those of its leaf, or null in each row where no element carries it
abbrev pub values_at : Opened → ℕ → Sought → PlaceChoice → Answer (List Value)
values_at it left sought choice.Missing = Ok (replicate (rows_in it) value.Null)
values_at it left sought (choice.At at) = leaf_values it left sought at
values_at it left sought choice.Partition = Err (fault.Mismatch sought.column)
values_at it left sought choice.Wrong = Err (fault.Mismatch sought.column)

-- a column of a type
abbrev pub cells : DataType → Answer (List Value) → Answer Cells
cells kind answer = go answer (λ values. Ok (record { kind = kind; values = values }))

-- a column that is sought, and the room for text behind it
unfoldable pub stored : Opened → Sought → ℕ → Answer (Cells × ℕ)
stored it sought left =
    go (cells sought.kind (values_at it left sought sought.place)) (λ found. Ok (found, left - text_size found.values))

-- a column that every mode finds by its name
abbrev pub named : PartColumn → DataType → Bool → List LeafSchema → List ℕ → Sought
named column kind nullable leaves name = record {
  column = column;
  kind = kind;
  nullable = nullable;
  place = choice_of nullable (carriers (is_named (Some name)) leaves);
}

-- a column, where it is asked for, and the room for text behind it
abbrev pub asked : Answer (Cells × ℕ) → Answer (Option Cells × ℕ)
asked answer = go answer (λ found. Ok (Some found.0, found.1))

-- the materialized column of a name, if there is a name (PROTOCOL.md, "Row Tracking"): of type long, and nullable
unfoldable pub materialized : Opened → PartColumn → Option (List ℕ) → ℕ → Answer (Option Cells × ℕ)
materialized it column None left = Ok (None, left)
materialized it column (Some name) left = asked (stored it (named column kind.Long true it.footer.leaves name) left)
