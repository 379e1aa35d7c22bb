-- What is read of each file of a table.
use Rattle.std.specs.Prelude.{ℕ, Bool, List, Option}
use Rattle.std.specs.Option.{option_copied}
use Rattle.column_mapping.specs.declared.mode.Mode.{Mode}
use Rattle.data_file.specs.declared.columns.Columns.{Columns}
use Rattle.delta_schema.specs.declared.schema.ColumnDef.{ColumnDef}

pub record WantedColumns : Type 0 where
  -- the columns of the table
  pub schema : List ColumnDef
  -- by what they are known in data files (PROTOCOL.md, "Column Mapping")
  pub mode : Mode
  -- the names of the materialized row ids and commit versions, where they are read (PROTOCOL.md, "Row Tracking")
  pub ids : Option (List ℕ)
  pub versions : Option (List ℕ)
  -- whether the kinds of changes are read (PROTOCOL.md, "Change Data Files")
  pub change : Bool

-- what a reader is told
abbrev pub wanted : Columns → WantedColumns
wanted columns = record {
  schema = columns.schema.now;
  mode = columns.mode;
  ids = option_copied columns.ids;
  versions = option_copied columns.versions;
  change = columns.change;
}
