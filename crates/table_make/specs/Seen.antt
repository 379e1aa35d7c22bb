-- The columns that the rules of a new table see.
use Rattle.std.specs.Prelude.{ℕ, List, [], map, Bool, true, false, ◌||◌, is_some, if◌then◌else◌}
use Rattle.dm_types.specs.declared.value.DataType.{DataType}
use Rattle.dm_types.specs.declared.value.DataType.TheVariants as kind
use Rattle.sql_statements.specs.declared.ColumnElement.{ColumnElement}
use Rattle.sql_tree.specs.declared.tree.WrittenKind.{WrittenKind}
use Rattle.sql_tree.specs.declared.tree.WrittenKind.TheVariants as written
use Rattle.typed_expr.specs.declared.scope.ScopeColumn.{ScopeColumn}

-- a DECIMAL whose precision or scale none can have
abbrev pub is_bad_decimal : WrittenKind → Bool
is_bad_decimal (written.Type k) = false
is_bad_decimal (written.BadDecimal precision scale) = true

-- the type of a column's values; a bad DECIMAL is none, and Void stands for it: no definition without faults has one
abbrev pub type_of : WrittenKind → DataType
type_of (written.Type k) = k
type_of (written.BadDecimal precision scale) = kind.Void

-- the name under which an expression sees a column: of doubled columns it sees the first, and it sees none without a
-- type
abbrev pub name_seen : ColumnElement × Bool → List ℕ
name_seen (column, doubled) = if doubled || is_bad_decimal column.kind.kind then [] else column.name.text

abbrev pub seen : ColumnElement × Bool → ScopeColumn
seen (column, doubled) = record {
  qualifier = [];
  name = name_seen (column, doubled);
  kind = type_of column.kind.kind;
  nullable = column.nullable;
}

-- a column whose values are made isn't seen: it has its place, but no name
abbrev pub unless_made : ColumnElement × Bool → ScopeColumn
unless_made (column, doubled) =
    if is_some column.made then record (seen (column, doubled)) { name = [] } else seen (column, doubled)

-- a CHECK sees every column (PROTOCOL.md, "CHECK Constraints")
abbrev pub seen_by_checks : List (ColumnElement × Bool) → List ScopeColumn
seen_by_checks columns = map seen columns

-- a generation expression sees those that are given (PROTOCOL.md, "Generated Columns")
abbrev pub seen_by_generations : List (ColumnElement × Bool) → List ScopeColumn
seen_by_generations columns = map unless_made columns
