-- What the laws of a new table ask of its statement. A definition without faults gives all of it, but for the ranges of
-- numbers, which their types give.
use Rattle.std.specs.Prelude.{◌≡◌, ◌≤◌, ℕ, List, [], ◌∷◌, map, codes, length, Bool, false, true, ⊤, IfSome, is_some, Some, ◌<◌, Option, None}
use Rattle.std.specs.List.{All, list_all, list_any, IsDistinct}
use Rattle.std.specs.Map as entries
use Rattle.std.specs.Str.{bytes_eq}
use Rattle.delta_schema.specs.Metadata.{is_zero}
use Rattle.delta_schema.specs.Names.{has_twins, is_empty}
use Rattle.delta_schema.specs.Columns.{is_misplaced}
use Rattle.delta_schema.specs.Writable.{IsColumnType, IsOfBits}
use Rattle.delta_schema.specs.declared.columns.TheConstants.{MAX_COLUMNS}
use Rattle.column_mapping.specs.declared.mode.Mode.{Mode}
use Rattle.column_mapping.specs.declared.mode.Mode.TheVariants as mode
use Rattle.sql_statements.specs.declared.ColumnElement.{ColumnElement}
use Rattle.sql_statements.specs.declared.CreateStmt.{CreateStmt}
use Rattle.table_features.specs.Properties.{text_under}
use Rattle.table_make.specs.Faults.{is_one_of, mode_key}
use Rattle.table_make.specs.NewColumns.{column_elements, identity_of, is_named}
use Rattle.table_make.specs.NewProperties.{given}
use Rattle.table_make.specs.Seen.{is_bad_decimal, type_of}

abbrev pub names_of : CreateStmt → List (List ℕ)
names_of stmt = map (λ column. column.name.text) (column_elements stmt.elements)

-- the start and the step of an identity are numbers of 64 bits
abbrev pub IsInRange : ColumnElement → Type 0
IsInRange column = IfSome (identity_of column.made) (λ rule. IsOfBits 64 rule.start × IsOfBits 64 rule.step)

-- a type that a column may have; an identity is BIGINT, and its step isn't 0; and in this table no partition column is
-- BINARY
pub record IsGoodColumn (stmt : CreateStmt) (column : ColumnElement) : Type 0 where
  pub type : IsColumnType (type_of column.kind.kind)
  pub moves : IfSome (identity_of column.made) (λ rule. is_zero rule.step ≡ false)
  pub placed : is_misplaced (Some (type_of column.kind.kind)) (is_named stmt.partitions column.name.text)
      (is_some (identity_of column.made)) ≡ false

-- a property that a statement may give
abbrev pub is_property : List ℕ → Bool
is_property name = list_any (bytes_eq name)
    (codes "delta.enableChangeDataFeed" ∷ codes "delta.appendOnly" ∷ codes "delta.columnMapping.mode" ∷ [])

-- a mode that maps columns goes with columns that are mapped
abbrev pub GoesWith : Bool → Mode → Type 0
GoesWith mapped mode.Plain = ⊤
GoesWith mapped mode.ByName = mapped ≡ true
GoesWith mapped mode.ById = mapped ≡ true

-- there are at most so many columns; no name is empty, no two are equal up to the case of ASCII letters; and some column
-- isn't a partition column
pub record HasGoodColumns (stmt : CreateStmt) : Type 0 where
  pub few : length (column_elements stmt.elements) ≤ MAX_COLUMNS
  pub named : list_any is_empty (names_of stmt) ≡ false
  pub distinct : has_twins (names_of stmt) ≡ false
  pub kept : list_all (is_named stmt.partitions) (names_of stmt) ≡ false
  pub each : All (IsGoodColumn stmt) (column_elements stmt.elements)
  pub ranges : All IsInRange (column_elements stmt.elements)

-- ---- what a definition without faults gives

-- what each statement of the grammar has: one element at least, names that aren't empty, types that there are, and
-- numbers of 64 bits
pub record IsWritten (stmt : CreateStmt) : Type 0 where
  pub some : 0 < length stmt.elements
  pub named : list_any is_empty (names_of stmt) ≡ false
  pub types : All (λ column. is_bad_decimal column.kind.kind ≡ false → IsColumnType (type_of column.kind.kind))
      (column_elements stmt.elements)
  pub ranges : All IsInRange (column_elements stmt.elements)

-- a text that names a mode
abbrev pub is_mode_text : Option (List ℕ) → Bool
is_mode_text None = true
is_mode_text (Some text) = is_one_of (codes "none" ∷ codes "name" ∷ codes "id" ∷ []) text

-- no key is given twice, and the mode is one
pub record HasGoodProperties (stmt : CreateStmt) : Type 0 where
  pub distinct : IsDistinct bytes_eq (entries.keys_of (given stmt.properties))
  pub mode : is_mode_text (text_under (given stmt.properties) mode_key) ≡ true
