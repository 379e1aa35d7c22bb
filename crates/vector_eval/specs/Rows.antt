-- Rows of values, by themselves and in columns.
use Rattle.std.specs.Prelude.{◌≡◌, ℕ, List, map, slice_get, slice_index_or, Some}
use Rattle.column_vectors.specs.Cells.{Cells}
use Rattle.dm_types.specs.Ranges.{IsNullOrInRange}
use Rattle.dm_types.specs.declared.value.DataType.{DataType}
use Rattle.dm_types.specs.declared.value.Value.{Value}
use Rattle.dm_types.specs.declared.value.Value.TheVariants.{Null}
use Rattle.vector_eval.specs.Values.{column}

-- each value is null or in the range of its column's type
abbrev pub IsRow : List DataType → List Value → Type 0
IsRow kinds row = (place : ℕ) (k : DataType) → slice_get kinds place ≡ Some k → IsNullOrInRange k (column place row)

-- the row at a place in columns
abbrev pub row_at : List Cells → ℕ → List Value
row_at columns at = map (λ c. slice_index_or c.values at Null) columns
