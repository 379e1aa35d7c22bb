-- Rows as lines of fields.
use Rattle.std.specs.Prelude.{ℕ, ℤ, List, [], ◌∷◌, ◌++◌, map, Option, Some, None}
use Rattle.std.specs.List.{flat_map, join_with_byte}
use Rattle.dm_text.specs.Printing.{value_field}
use Rattle.dm_types.specs.declared.value.Value.{Value}
use Rattle.dm_types.specs.declared.value.Value.TheVariants.{Int, Null}
use Rattle.row_tracking.specs.declared.row_id.RowId.{RowId}

-- an id or a commit version as a value, null where there is none
abbrev pub number : Option ℤ → Value
number None = Null
number (Some n) = Int n

-- the id, the commit version and the values of a row as fields, a tab between each two
abbrev pub row_line : RowId → List Value → List ℕ
row_line row values = join_with_byte 9 (map value_field (number row.id ∷ number row.version ∷ values))

-- each line with a line feed behind it
abbrev pub lines_text : List (List ℕ) → List ℕ
lines_text lines = flat_map (λ line. line ++ 10 ∷ []) lines
