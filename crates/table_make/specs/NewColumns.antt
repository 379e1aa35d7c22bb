-- The columns of a new table.
use Rattle.std.specs.Prelude.{ℕ, ℤ, pos, min, List, [], ◌++◌, map, find, Bool, false, Option, Some, None, option_map, codes}
use Rattle.std.specs.Fmt.{decimal}
use Rattle.std.specs.List.{enumerate_from, filter_map, list_any}
use Rattle.std.specs.Str.{str_eq_ignore_ascii_case}
use Rattle.delta_schema.specs.declared.schema.ColumnDef.{ColumnDef}
use Rattle.delta_schema.specs.declared.schema.IdentityRule.{IdentityRule}
use Rattle.sql_tree.specs.declared.tree.Name.{Name}
use Rattle.sql_statements.specs.declared.ColumnElement.{ColumnElement}
use Rattle.sql_statements.specs.declared.Element.{Element}
use Rattle.sql_statements.specs.declared.Made.{Made}
use Rattle.sql_statements.specs.declared.Made.TheVariants as made
use Rattle.table_make.specs.Elements.{column_in}
use Rattle.table_make.specs.Seen.{type_of}

-- ---- the columns among the elements

abbrev pub column_elements : List Element → List ColumnElement
column_elements elements = filter_map column_in elements

-- ---- a column

-- PROTOCOL.md, "Generated Columns": what stands between the parentheses
abbrev pub generation_of : Option Made → Option (List ℕ)
generation_of None = None
generation_of (Some (made.Generated rule)) = Some rule.text
generation_of (Some (made.Identity identity)) = None

-- PROTOCOL.md, "Identity Columns": no value is made yet, so there is no mark
abbrev pub identity_of : Option Made → Option IdentityRule
identity_of None = None
identity_of (Some (made.Generated rule)) = None
identity_of (Some (made.Identity identity)) =
    Some (record { start = identity.start; step = identity.step; mark = None; explicit = identity.explicit })

-- the name is one of these, up to the case of ASCII letters
abbrev pub is_named : List Name → List ℕ → Bool
is_named names text = list_any (λ name. str_eq_ignore_ascii_case name.text text) names

-- PROTOCOL.md, "Column Mapping": the name of a column in data files, by its number and the table's id
abbrev pub physical_of : ℕ → List ℕ → List ℕ
physical_of number id = codes "col-" ++ decimal number ++ codes "-" ++ id

-- PROTOCOL.md, "Column Mapping": the id of a column, its number; ids are numbers of 32 bits
abbrev pub id_of : ℕ → ℤ
id_of number = pos (min number 2147483647)

-- the column that an element says, by its number; the table's id is given where its columns are mapped
abbrev pub column_of : List Name → Option (List ℕ) → ℕ × ColumnElement → ColumnDef
column_of partitions mapping (number, element) = record {
  name = element.name.text;
  kind = type_of element.kind.kind;
  nullable = element.nullable;
  partition = is_named partitions element.name.text;
  id = option_map (λ _. id_of number) mapping;
  physical = option_map (physical_of number) mapping;
  generation = generation_of element.made;
  identity = identity_of element.made;
  invariant = false;
  other = [];
}

-- ---- the columns, numbered from 1

unfoldable pub columns_of : List Name → Option (List ℕ) → List Element → List ColumnDef
columns_of partitions mapping elements =
    map (column_of partitions mapping) (enumerate_from 1 (column_elements elements))

-- ---- the partition columns

-- the column's name is this one, up to the case of ASCII letters
abbrev pub has_name : List ℕ → ColumnDef → Bool
has_name text column = str_eq_ignore_ascii_case column.name text

-- the name of the column that is named so, as its element spells it
abbrev pub spelled : List ColumnDef → Name → Option (List ℕ)
spelled columns name = option_map (λ column. column.name) (find (has_name name.text) columns)

-- in the order of PARTITIONED BY
unfoldable pub partitions_of : List ColumnDef → List Name → List (List ℕ)
partitions_of columns names = filter_map (spelled columns) names
