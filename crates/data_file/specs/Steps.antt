-- What is known of partition values while a file is read, and where a column is that takes no nulls.
use Rattle.std.specs.Prelude.{◌≡◌, ℕ, List, length, slice_get, Option, Some}
use Rattle.column_mapping.specs.declared.places.PlaceChoice.{PlaceChoice}
use Rattle.column_mapping.specs.declared.places.PlaceChoice.TheVariants as choice
use Rattle.delta_schema.specs.declared.schema.ColumnDef.{ColumnDef}
use Rattle.dm_types.specs.Ranges.{IsNullOrInRange}
use Rattle.dm_types.specs.declared.value.Value.{Value}

-- for each column, and those that are partition columns have values in their range
pub record AreConstants (columns : List ColumnDef) (constants : List (Option Value)) : Type 0 where
  pub even : length constants ≡ length columns
  pub each : (at : ℕ) (column : ColumnDef) (v : Value) → slice_get columns at ≡ Some column
      → slice_get constants at ≡ Some (Some v) → IsNullOrInRange column.kind v

-- where a column is that takes no nulls, from where it would be if it took them
abbrev pub full_place : PlaceChoice → PlaceChoice
full_place choice.Missing = choice.Wrong
full_place choice.Partition = choice.Partition
full_place (choice.At at) = choice.At at
full_place choice.Wrong = choice.Wrong
