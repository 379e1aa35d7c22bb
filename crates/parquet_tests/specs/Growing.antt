-- Columns that grow value by value.
use Rattle.std.specs.Prelude.{◌≡◌, ℕ, ◌*◌, ◌+◌, ◌≤◌, List, [], ◌∷◌, ◌++◌, length, All}
use Rattle.column_vectors.specs.Cells.{Cells}
use Rattle.dm_types.specs.Ranges.{IsNullOrInRange}
use Rattle.dm_types.specs.declared.value.DataType.{DataType}
use Rattle.dm_types.specs.declared.value.Value.{Value}
use Rattle.parquet_pages.specs.Kept.{text_bytes, text_size}

-- one value more, which is of the type and in its range, and has at most so much text
pub record Adds (k : DataType) (most : ℕ) (old new : Cells) : Type 0 where
  pub value : Value
  pub kind : new.kind ≡ old.kind
  pub values : new.values ≡ old.values ++ value ∷ []
  pub range : IsNullOrInRange k value
  pub text : text_bytes value ≤ most

-- so many rows, each with at most so much text
pub record Growing (k : DataType) (most rows : ℕ) (column : Cells) : Type 0 where
  pub kind : column.kind ≡ k
  pub values : All (IsNullOrInRange k) column.values
  pub counted : length column.values ≡ rows
  pub text : text_size column.values ≤ most * rows
