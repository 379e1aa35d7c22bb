-- Columns that are numbered on from those before them.
use Rattle.std.proofs.Common.{ℕ, List, Option, map}
use Rattle.std.specs.List.{enumerate_from}
use Rattle.delta_schema.specs.declared.schema.ColumnDef.{ColumnDef}
use Rattle.sql_tree.specs.declared.tree.Name.{Name}
use Rattle.sql_statements.specs.declared.Element.{Element}
use Rattle.table_make.specs.NewColumns.{column_of, column_elements}

-- the columns of these elements, numbered from this number on
abbrev pub columns_from : ℕ → List Name → Option (List ℕ) → List Element → List ColumnDef
columns_from number partitions mapping elements =
    map (column_of partitions mapping) (enumerate_from number (column_elements elements))
