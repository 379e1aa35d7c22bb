-- The columns of a file's rows are of the types of the schema.
use Rattle.std.proofs.Common.{◌≡◌, ℕ, List, [], ◌∷◌, ◌++◌, Option, Some, None, Result, Ok, Err, length, map, refl, sym, ap, ◌∙◌, subst, append_assoc, replicate, slice_get, zero-add, ◌*◌}
use Rattle.std.specs.Prelude.{◌-◌, IfOk}
use Rattle.std.proofs.lemmas.List.{append-nil, map-append}
use Rattle.column_mapping.specs.declared.mode.Mode.{Mode}
use Rattle.column_vectors.specs.Cells.{Cells}
use Rattle.delta_schema.specs.declared.schema.ColumnDef.{ColumnDef}
use Rattle.dm_types.specs.declared.value.DataType.{DataType}
use Rattle.dm_types.specs.declared.value.Value.{Value}
use Rattle.parquet_file.specs.File.{Opened, opened}
use Rattle.parquet_pages.specs.Kept.{text_size}
use Rattle.data_file.specs.Answers.{Gives, HasConstants, HasTypes}
use Rattle.data_file.specs.Kinds.{kinds as kinds_of}
use Rattle.data_file.specs.Partitions.{Given, constants_from, text_behind}
use Rattle.data_file.specs.Room.{Answer, less, or_else}
use Rattle.data_file.specs.Rows.{Part, part_of, rows_of, seen}
use Rattle.data_file.specs.Stored.{cells, materialized, rows_in, stored, values_at}
use Rattle.data_file.specs.Table.{columns_from, constant_at, sought_of, table_column, table_of}
use Rattle.data_file.specs.Wanted.{WantedColumns}
use Rattle.data_file.specs.declared.fault.PartColumn.TheVariants as beside
use Rattle.dm_types.specs.declared.refusal.Counted.TheVariants as counted
use Rattle.data_file.specs.declared.fault.PartFault.TheVariants as fault
use Rattle.data_file.specs.declared.room.Room.{Room}
use Rattle.data_file.specs.declared.rows.PartRows.{PartRows}
use Rattle.data_file.proofs.Begun.{went}
use Rattle.data_file.proofs.Constants.{columns_value, constants_value}
use Rattle.data_file.proofs.Steps.{part_is, rows_is, table_is, with_cells, with_constants, with_file, with_ids, with_kinds, with_left, with_versions}
use Rattle.data_file.specs.declared.fault.PartFault.{PartFault}
use Rattle.data_file.specs.declared.stored.Sought.{Sought}

-- ---- one column

pub stored_type : (it : Opened) (sought : Sought) (left : ℕ) (found : Cells × ℕ) → stored it sought left ≡ Ok found → found.0.kind ≡ sought.kind
unfolding stored
stored_type it sought left found e =
    let column = went (cells sought.kind (values_at it left sought sought.place)) (λ column. Ok (column, left - text_size column.values)) found e in
    let values = went (values_at it left sought sought.place) (λ values. Ok (record { kind = sought.kind; values = values })) column.from column.is in
    let same : ◌≡◌ {A = Cells} (record { kind = sought.kind; values = values.from }) column.from = let e = values.gives in cc in
    let pair : ◌≡◌ {A = Cells × ℕ} (column.from, left - text_size column.from.values) found = let e = column.gives in cc in
    sym (ap (λ (p : Cells × ℕ). p.0.kind) pair) ∙ sym (ap (λ (c : Cells). c.kind) same)

column_type : (it : Opened) (sought : Sought) (constant : Option Value) (left : ℕ) (found : Cells × ℕ) → table_column it sought constant left ≡ Ok found → found.0.kind ≡ sought.kind
column_type it sought None left found e = stored_type it sought left found e
column_type it sought (Some v) left found e =
    let pair : ◌≡◌ {A = Cells × ℕ} (record { kind = sought.kind; values = replicate (rows_in it) v }, left) found = cc in
    sym (ap (λ (p : Cells × ℕ). p.0.kind) pair)

-- ---- all columns

abbrev types : List Cells → List DataType
types columns = map (λ column. column.kind) columns

abbrev kinds : List ColumnDef → List DataType
kinds columns = map (λ column. column.kind) columns

pub columns_types : (it : Opened) (mode : Mode) (constants : List (Option Value)) (columns : List ColumnDef) (read all : List Cells × ℕ) → columns_from it mode constants columns read ≡ Ok all → types all.0 ≡ types read.0 ++ kinds columns
unfolding columns_from
columns_types it mode constants [] read all e =
    let same : read ≡ all = cc in
    sym (ap (λ (p : List Cells × ℕ). types p.0) same) ∙ sym (append-nil (types read.0))
columns_types it mode constants (column ∷ more) read all e =
    let sought = sought_of mode it.footer.leaves (length read.0) column in
    let found = went (table_column it sought (constant_at constants (length read.0)) read.1) (λ found. columns_from it mode constants more (read.0 ++ found.0 ∷ [], found.1)) all e in
    let here : found.from.0.kind ≡ column.kind = column_type it sought (constant_at constants (length read.0)) read.1 found.from found.is in
    let later = columns_types it mode constants more (read.0 ++ found.from.0 ∷ [], found.from.1) all found.gives in
    later ∙ ap (λ (xs : List DataType). xs ++ kinds more) (map-append (λ column. column.kind) read.0 (found.from.0 ∷ []) ∙ ap (λ (k : DataType). types read.0 ++ k ∷ []) here)
    ∙ append_assoc (types read.0) (column.kind ∷ []) (kinds more)

-- ---- a whole file

table_types : (it : Opened) (columns : WantedColumns) (values : Given) (text : ℕ) (table : List Cells × ℕ) → table_of it columns values text ≡ Ok table → HasTypes columns.schema table.0
table_types it columns values text table e =
    let constants = went (constants_from columns.mode values columns.schema []) (with_constants it columns text) table (sym (table_is it columns values text) ∙ e) in
    let left = went (text_behind (rows_in it) constants.from text) (with_left it columns constants.from) table constants.gives in
    columns_types it columns.mode constants.from columns.schema ([], left.from) table left.gives

table_constants : (it : Opened) (columns : WantedColumns) (values : Given) (text : ℕ) (table : List Cells × ℕ) → table_of it columns values text ≡ Ok table → HasConstants columns.schema (rows_in it) table.0
table_constants it columns values text table e = λ at column is parted.
    let constants = went (constants_from columns.mode values columns.schema []) (with_constants it columns text) table (sym (table_is it columns values text) ∙ e) in
    let left = went (text_behind (rows_in it) constants.from text) (with_left it columns constants.from) table constants.gives in
    let value = constants_value columns.mode values columns.schema [] constants.from constants.is at column is parted in
    let found = columns_value it columns.mode constants.from columns.schema ([], left.from) table left.gives at column value.value is value.is in
    (value.value, ap (slice_get table.0) (sym (zero-add at)) ∙ found)

pub record Kept (it : Opened) (table : List Cells × ℕ) (part : Part) : Type 0 where
  pub columns : table.0 ≡ part.columns
  pub rows : rows_in it ≡ part.rows

kept_by : (it : Opened) (table : List Cells × ℕ) (made part : Part) → table.0 ≡ made.columns → rows_in it ≡ made.rows → ◌≡◌ {A = Answer Part} (Ok made) (Ok part) → Kept it table part
kept_by it table made part columns rows e =
    let same : made ≡ part = cc in
    record { columns = columns ∙ ap (λ (p : Part). p.columns) same; rows = rows ∙ ap (λ (p : Part). p.rows) same }

pub part_kept : (it : Opened) (columns : WantedColumns) (cells : ℕ) (table : List Cells × ℕ) (part : Part) → part_of it columns cells table ≡ Ok part → Kept it table part
part_kept it columns cells table part e =
    let ids = went (materialized it beside.Ids columns.ids table.1) (with_ids it columns cells table) part (sym (part_is it columns cells table) ∙ e) in
    let versions = went (materialized it beside.Versions columns.versions ids.from.1) (with_versions it columns cells table ids.from) part ids.gives in
    let last = went (kinds_of it columns.change versions.from.1) (with_kinds it cells table ids.from versions.from) part versions.gives in
    kept_by it table (record { rows = rows_in it; columns = table.0; ids = ids.from.0; versions = versions.from.0; kinds = last.from.0; left = record { cells = cells; text = last.from.1 } }) part refl refl last.gives

record RowsKept (schema : List ColumnDef) (part : Part) : Type 0 where
  types : HasTypes schema part.columns
  constants : HasConstants schema part.rows part.columns

rows_kept : (columns : WantedColumns) (values : Given) (bytes : List ℕ) (room : Room) (part : Part) → rows_of columns values bytes room ≡ Ok part → RowsKept columns.schema part
rows_kept columns values bytes room part e =
    let file = went (or_else fault.BadParquet (opened bytes)) (with_file columns values room) part (sym (rows_is columns values bytes room) ∙ e) in
    let cells = went (less counted.Cells (length columns.schema * rows_in file.from) room.cells) (with_cells columns values room file.from) part file.gives in
    let table = went (table_of file.from columns values room.text) (part_of file.from columns cells.from) part cells.gives in
    let kept = part_kept file.from columns cells.from table.from part table.gives in
    let P : List Cells → Type 0 = λ cs. HasTypes columns.schema cs in
    let Q : List Cells → Type 0 = λ cs. HasConstants columns.schema (rows_in file.from) cs in
    let R : ℕ → Type 0 = λ n. HasConstants columns.schema n part.columns in
    record {
      types = subst P kept.columns (table_types file.from columns values room.text table.from table.is);
      constants = subst R kept.rows (subst Q kept.columns (table_constants file.from columns values room.text table.from table.is));
    }

pub part_types : (columns : WantedColumns) (values : Given) (bytes : List ℕ) (room : Room) (result : Result PartRows PartFault) → Gives {X = PartRows} seen (rows_of columns values bytes room) result → IfOk result (λ part. HasTypes columns.schema part.batch.columns)
part_types columns values bytes room (Ok part) gives = (rows_kept columns values bytes room (seen part) gives).types
part_types columns values bytes room (Err f) gives = tt

pub part_constants : (columns : WantedColumns) (values : Given) (bytes : List ℕ) (room : Room) (result : Result PartRows PartFault) → Gives {X = PartRows} seen (rows_of columns values bytes room) result → IfOk result (λ part. HasConstants columns.schema part.batch.rows part.batch.columns)
part_constants columns values bytes room (Ok part) gives = (rows_kept columns values bytes room (seen part) gives).constants
part_constants columns values bytes room (Err f) gives = tt
