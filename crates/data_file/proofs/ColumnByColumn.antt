-- The columns of a table, one after the other.
use Rattle.std.proofs.Common.{◌≡◌, ℕ, ◌+◌, ◌<◌, ◌≤◌, List, [], ◌∷◌, ◌++◌, Option, Some, None, Ok, length, get_or, drop, slice_get, sym, ap, ◌∙◌}
use Rattle.std.specs.Prelude.{unwrap_or}
use Rattle.std.proofs.Common.{map}
use Rattle.std.proofs.Math.ListN.{get_or-map}
use Rattle.std.proofs.lemmas.Option.{get_or_from_slice_get}
use Rattle.column_mapping.specs.declared.places.PlaceChoice.{PlaceChoice}
use Rattle.data_file.specs.declared.fault.PartColumn.TheVariants as part
use Rattle.column_mapping.specs.declared.mode.Mode.{Mode}
use Rattle.column_vectors.specs.Cells.{Cells}
use Rattle.delta_schema.specs.declared.schema.ColumnDef.{ColumnDef}
use Rattle.dm_types.specs.Then.{go}
use Rattle.dm_types.specs.declared.value.Value.{Value}
use Rattle.parquet_file.specs.File.{Opened}
use Rattle.data_file.specs.Table.{columns_from, constant_at, sought_of, table_column}
use Rattle.data_file.specs.declared.stored.Sought.{Sought}
use Rattle.data_file.proofs.Begun.{next_of, none_left}

-- the next column
pub columns-next : (it : Opened) (mode : Mode) (constants : List (Option Value)) (columns : List ColumnDef) (at : ℕ) (column : ColumnDef) (constant : Option Value) (sought : Sought) (read : List Cells) (left : ℕ)
    → at < length columns → column ≡ get_or columns at column → length read ≡ at → slice_get constants at ≡ Some constant → sought ≡ sought_of mode it.footer.leaves at column
    → columns_from it mode constants (drop at columns) (read, left) ≡ go (table_column it sought constant left) (λ found. columns_from it mode constants (drop (at + 1) columns) (read ++ found.0 ∷ [], found.1))
unfolding columns_from
columns-next it mode constants columns at column constant sought read left inside is counted value one =
    ap (λ (rest : List ColumnDef). columns_from it mode constants rest (read, left)) (next_of at columns column inside is)
    ∙ ap (λ (n : ℕ). go (table_column it (sought_of mode it.footer.leaves n column) (constant_at constants n) left) (λ found. columns_from it mode constants (drop (at + 1) columns) (read ++ found.0 ∷ [], found.1))) counted
    ∙ ap (λ (v : Option (Option Value)). go (table_column it (sought_of mode it.footer.leaves at column) (unwrap_or v None) left) (λ found. columns_from it mode constants (drop (at + 1) columns) (read ++ found.0 ∷ [], found.1))) value
    ∙ ap (λ (s : Sought). go (table_column it s constant left) (λ found. columns_from it mode constants (drop (at + 1) columns) (read ++ found.0 ∷ [], found.1))) (sym one)

pub columns-last : (it : Opened) (mode : Mode) (constants : List (Option Value)) (columns : List ColumnDef) (at : ℕ) (read : List Cells × ℕ) → length columns ≤ at → columns_from it mode constants (drop at columns) read ≡ Ok read
unfolding columns_from
columns-last it mode constants columns at read past = ap (λ (rest : List ColumnDef). columns_from it mode constants rest read) (none_left at columns past)

-- the place of a column
pub place_at : (places : List PlaceChoice) (f : ColumnDef → PlaceChoice) (columns : List ColumnDef) (at : ℕ) (column : ColumnDef) (place : PlaceChoice) → places ≡ map f columns → at < length columns → column ≡ get_or columns at column → slice_get places at ≡ Some place → place ≡ f column
place_at places f columns at column place are inside is here =
    sym (get_or_from_slice_get places at place (f column) here) ∙ ap (λ (xs : List PlaceChoice). get_or xs at (f column)) are ∙ get_or-map f columns at column ∙ ap f (sym is)

-- the column as it is sought
abbrev pub sought_at : ℕ → ColumnDef → PlaceChoice → Sought
sought_at at column place = record { column = part.Table at; kind = column.kind; nullable = column.nullable; place = place }
