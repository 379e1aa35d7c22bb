-- What modes name and id ask of the columns of a table (PROTOCOL.md, "Column Mapping").
use Rattle.std.specs.Prelude.{ℕ, Bool, false, ◌||◌, List, length, take, Option, Some, None, is_none, slice_get, find}
use Rattle.std.specs.List.{list_any, range_with_len}
use Rattle.std.specs.Option.{option_map_or}
use Rattle.std.specs.Ordering.{int_eq}
use Rattle.std.specs.Str.{bytes_eq}
use Rattle.delta_schema.specs.declared.schema.ColumnDef.{ColumnDef}
use Rattle.column_mapping.specs.declared.mode.Mode.{Mode}
use Rattle.column_mapping.specs.declared.mode.Mode.TheVariants as mode

-- both are there, and are the same
abbrev pub shares : {A : Type 0} → (A → A → Bool) → Option A → Option A → Bool
shares same None other = false
shares same (Some a) None = false
shares same (Some a) (Some b) = same a b

-- the column has no id, or no physical name
abbrev pub lacks_mark : ColumnDef → Bool
lacks_mark column = is_none column.id || is_none column.physical

-- the two columns have the same id, or the same physical name byte for byte
abbrev pub clashes : ColumnDef → ColumnDef → Bool
clashes column other = shares int_eq column.id other.id || shares bytes_eq column.physical other.physical

-- the column can't be told by its id and by its physical name, behind these earlier columns
abbrev pub is_unmarked : List ColumnDef → ColumnDef → Bool
is_unmarked earlier column = lacks_mark column || list_any (clashes column) earlier

-- the column breaks the mapping, behind these earlier columns: in mode none there is no mapping
abbrev pub breaks : Mode → List ColumnDef → ColumnDef → Bool
breaks mode.Plain earlier column = false
breaks mode.ByName earlier column = is_unmarked earlier column
breaks mode.ById earlier column = is_unmarked earlier column

-- the column at this place does
abbrev pub breaks_at : Mode → List ColumnDef → ℕ → Bool
breaks_at mode columns at = option_map_or (breaks mode (take at columns)) (slice_get columns at) false

-- the first place whose column does
unfoldable pub first_broken : Mode → List ColumnDef → Option ℕ
first_broken mode columns = find (breaks_at mode columns) (range_with_len 0 (length columns))
