-- The columns of a file's rows are in the ranges of the schema's columns.
use Rattle.std.proofs.Common.{◌≡◌, ℕ, zero, suc, ◌+◌, ◌*◌, Bool, true, false, cond, List, [], ◌∷◌, ◌++◌, Option, Some, None, Result, Ok, Err, length, replicate, slice_get, refl, sym, ap, ◌∙◌, subst, length-append, zero-add, arith}
use Rattle.std.specs.Prelude.{◌-◌, All, IfOk, unwrap_or}
use Rattle.std.proofs.lemmas.List.Elements.{All-head, All-replicate, All-tail}
use Rattle.column_mapping.specs.Places.{carriers, carries, choice_of, place_of}
use Rattle.column_mapping.specs.declared.mode.Mode.{Mode}
use Rattle.column_mapping.specs.declared.places.PlaceChoice.{PlaceChoice}
use Rattle.column_mapping.specs.declared.places.PlaceChoice.TheVariants as choice
use Rattle.column_vectors.specs.Cells.{Cells}
use Rattle.delta_schema.specs.declared.schema.ColumnDef.{ColumnDef}
use Rattle.dm_text.specs.Reading.{text_value}
use Rattle.dm_types.specs.Ranges.{IsInRange, IsNullOrInRange, IsWellFormed}
use Rattle.dm_types.specs.Then.{go}
use Rattle.dm_types.specs.declared.refusal.Counted.TheVariants as counted
use Rattle.dm_types.specs.declared.value.DataType.{DataType}
use Rattle.dm_types.specs.declared.value.DataType.TheVariants as kind
use Rattle.dm_types.specs.declared.value.Value.{Value}
use Rattle.dm_types.specs.declared.value.Value.TheVariants as value
use Rattle.parquet_file.specs.File.{Opened, column_of, opened}
use Rattle.parquet_meta.specs.declared.metadata.LeafSchema.{LeafSchema}
use Rattle.parquet_pages.specs.Kept.{text_size}
use Rattle.parquet_pages.specs.Pages.{Wanted}
use Rattle.parquet_pages.specs.Stored.{is_full}
use Rattle.data_file.specs.Answers.{AreRanged, Gives, IsRanged}
use Rattle.data_file.specs.Partitions.{Given, constant_of, constants_from, key_of, text_behind, text_under, value_of}
use Rattle.data_file.specs.Room.{less, or_else}
use Rattle.data_file.specs.Rows.{Part, part_of, rows_of, seen}
use Rattle.data_file.specs.Stored.{cells, in_leaf, rows_in, stored, values_at}
use Rattle.data_file.specs.Table.{columns_from, constant_at, sought_of, table_column, table_of}
use Rattle.data_file.specs.Wanted.{WantedColumns}
use Rattle.data_file.specs.declared.fault.PartFault.{PartFault}
use Rattle.data_file.specs.declared.fault.PartFault.TheVariants as fault
use Rattle.data_file.specs.declared.room.Room.{Room}
use Rattle.data_file.specs.declared.rows.PartRows.{PartRows}
use Rattle.data_file.specs.declared.stored.Sought.{Sought}
use Rattle.data_file.proofs.Begun.{went}
use Rattle.data_file.proofs.Constants.{columns_front, constants_front, first_is, later_is, none_there, pushed_at}
use Rattle.data_file.proofs.LeavesRead.{told_ok}
use Rattle.data_file.proofs.Steps.{rows_is, table_is, with_cells, with_constants, with_file, with_left}
use Rattle.data_file.proofs.Types.{part_kept}

-- ---- what lower crates say

-- the values of a column of a file
pub record LeavesRanged : Type 0 where
  pub ranges : (file : Opened) (at : ℕ) (wanted : Wanted) (left : ℕ) (values : List Value) → IsWellFormed wanted.kind → column_of file at wanted left ≡ Ok values → All (IsNullOrInRange wanted.kind) values
  pub full : (file : Opened) (at : ℕ) (wanted : Wanted) (left : ℕ) (values : List Value) → IsWellFormed wanted.kind → wanted.nullable ≡ false → column_of file at wanted left ≡ Ok values → All (λ v. is_full v ≡ true) values

-- the value of a text
abbrev pub TextsRanged : Type 0
TextsRanged = (k : DataType) (text : List ℕ) (v : Value) → IsWellFormed k → text_value k text ≡ Some v → IsInRange k v

-- ---- a value

-- it may stand in the column
record Stands (column : ColumnDef) (v : Value) : Type 0 where
  ranged : IsNullOrInRange column.kind v
  full : column.nullable ≡ false → is_full v ≡ true

null_or : (k : DataType) (v : Value) → IsInRange k v → IsNullOrInRange k v
null_or k value.Null is = tt
null_or k v is = is

not_null : (k : DataType) (v : Value) → IsInRange k v → is_full v ≡ true
not_null kind.Void value.Null is = absurd is.1
not_null kind.Boolean value.Null is = absurd is.1
not_null kind.Byte value.Null is = absurd is.1
not_null kind.Short value.Null is = absurd is.1
not_null kind.Integer value.Null is = absurd is.1
not_null kind.Long value.Null is = absurd is.1
not_null (kind.Decimal precision scale) value.Null is = absurd is.1
not_null kind.Str value.Null is = absurd is.1
not_null kind.Binary value.Null is = absurd is.1
not_null kind.Date value.Null is = absurd is.1
not_null kind.Timestamp value.Null is = absurd is.1
not_null k v is = refl

null_stands : (column : ColumnDef) (nullable : Bool) → column.nullable ≡ nullable → (v : Value) → cond nullable (Some value.Null) None ≡ Some v → Stands column v
null_stands column true may v is = let e : value.Null ≡ v = cc in subst (Stands column) e (record { ranged = tt; full = λ none. absurd cc })
null_stands column false may v is = absurd cc

text_stands : TextsRanged → (column : ColumnDef) (text : List ℕ) (v : Value) → IsWellFormed column.kind → value_of column text ≡ Some v → Stands column v
text_stands texts column [] v formed is = null_stands column column.nullable refl v is
text_stands texts column (b ∷ bytes) v formed is =
    let range = texts column.kind (b ∷ bytes) v formed is in
    record { ranged = null_or column.kind v range; full = λ none. not_null column.kind v range }

told_value : (at : ℕ) (known : Option Value) (v : Value) → go (or_else (fault.Partition at) known) (λ v. Ok (Some v)) ≡ Ok (Some v) → known ≡ Some v
told_value at None v is = absurd cc
told_value at (Some w) v is = cc

parted : (partition : Bool) (at : ℕ) (known : Option Value) (v : Value) → cond partition (go (or_else (fault.Partition at) known) (λ v. Ok (Some v))) (Ok None) ≡ Ok (Some v) → known ≡ Some v
parted true at known v is = told_value at known v is
parted false at known v is = absurd cc

constant_stands : TextsRanged → (mode : Mode) (values : Given) (at : ℕ) (column : ColumnDef) (v : Value) → IsWellFormed column.kind → constant_of mode values at column ≡ Ok (Some v) → Stands column v
constant_stands texts mode values at column v formed is =
    text_stands texts column (text_under values (key_of mode column)) v formed (parted column.partition at (value_of column (text_under values (key_of mode column))) v is)

-- columns of well-formed types
abbrev AreFormed : List ColumnDef → Type 0
AreFormed columns = All (λ column. IsWellFormed column.kind) columns

first_formed : (column : ColumnDef) (more : List ColumnDef) → AreFormed (column ∷ more) → IsWellFormed column.kind
first_formed column more formed = All-head (λ (column : ColumnDef). IsWellFormed column.kind) column more formed

later_formed : (column : ColumnDef) (more : List ColumnDef) → AreFormed (column ∷ more) → AreFormed more
later_formed column more formed = All-tail (λ (column : ColumnDef). IsWellFormed column.kind) column more formed

same_at : {X : Type 0} (xs : List X) (k : ℕ) (x y : X) → slice_get xs k ≡ Some x → slice_get xs k ≡ Some y → x ≡ y
same_at xs k x y first second = cc

constants_stand : TextsRanged → (mode : Mode) (values : Given) (columns : List ColumnDef) (found all : List (Option Value)) → AreFormed columns → constants_from mode values columns found ≡ Ok all
    → (k : ℕ) (column : ColumnDef) (v : Value) → slice_get columns k ≡ Some column → slice_get all (length found + k) ≡ Some (Some v) → Stands column v
unfolding constants_from
constants_stand texts mode values [] found all formed e k column v is told = absurd (none_there k column is)
constants_stand texts mode values (first ∷ more) found all formed e zero column v is told =
    let one = went (constant_of mode values (length found) first) (λ one. constants_from mode values more (found ++ one ∷ [])) all e in
    let here : first ≡ column = first_is first column more is in
    let at : length found + 0 ≡ length found = omega arith in
    let stood : slice_get all (length found) ≡ Some one.from = constants_front mode values more (found ++ one.from ∷ []) all one.gives (length found) one.from (pushed_at found one.from) in
    let same : one.from ≡ Some v = same_at all (length found) one.from (Some v) stood (ap (slice_get all) (sym at) ∙ told) in
    let P : ColumnDef → Type 0 = λ c. Stands c v in
    subst P here (constant_stands texts mode values (length found) first v (first_formed first more formed) (one.is ∙ ap Ok same))
constants_stand texts mode values (first ∷ more) found all formed e (suc k) column v is told =
    let one = went (constant_of mode values (length found) first) (λ one. constants_from mode values more (found ++ one ∷ [])) all e in
    let long = length-append found (one.from ∷ []) in
    let at : length (found ++ one.from ∷ []) + k ≡ length found + suc k = omega (arith, long) in
    constants_stand texts mode values more (found ++ one.from ∷ []) all (later_formed first more formed) one.gives k column v (later_is first column more k is) (ap (slice_get all) at ∙ told)

-- ---- a column

-- a column that takes no null is nowhere missing
chosen : (nullable : Bool) (found : List (ℕ × LeafSchema)) → choice_of nullable found ≡ choice.Missing → nullable ≡ true
chosen true found is = refl
chosen false [] is = absurd cc
chosen false (carrier ∷ []) is = by carrier.1.top is
  where
    by : (top : Bool) → cond top (choice.At carrier.0) choice.Wrong ≡ choice.Missing → false ≡ true
    by true e = absurd cc
    by false e = absurd cc
chosen false (first ∷ second ∷ more) is = absurd cc

placed : (partition nullable : Bool) (found : List (ℕ × LeafSchema)) → cond partition choice.Partition (choice_of nullable found) ≡ choice.Missing → nullable ≡ true
placed true nullable found is = absurd cc
placed false nullable found is = chosen nullable found is

missing : (mode : Mode) (leaves : List LeafSchema) (column : ColumnDef) → place_of mode leaves column ≡ choice.Missing → column.nullable ≡ true
missing mode leaves column is = placed column.partition column.nullable (carriers (carries mode column) leaves) is

repeated : (it : Opened) (column : ColumnDef) (v : Value) → Stands column v → IsRanged column (record { kind = column.kind; values = replicate (rows_in it) v })
repeated it column v stands = record {
  ranges = All-replicate (IsNullOrInRange column.kind) (rows_in it) v stands.ranged;
  full = λ none. All-replicate (λ (v : Value). is_full v ≡ true) (rows_in it) v (stands.full none);
}

-- values that may stand in the column
abbrev AllStand : ColumnDef → List Value → Type 0
AllStand column values = IsRanged column (record { kind = column.kind; values = values })

leaf_stands : LeavesRanged → (it : Opened) (left : ℕ) (sought : Sought) (column : ColumnDef) (at : ℕ) (leaf : Option LeafSchema) (values : List Value) → IsWellFormed column.kind → sought.kind ≡ column.kind → sought.nullable ≡ column.nullable
    → in_leaf it left sought at leaf ≡ Ok values → AllStand column values
leaf_stands leaves it left sought column at None values formed kinds nulls is = absurd cc
leaf_stands leaves it left sought column at (Some leaf) values formed kinds nulls is =
    let wanted : Wanted = record { kind = sought.kind; nullable = sought.nullable; leaf = leaf } in
    let read = told_ok sought.column (column_of it at wanted left) values is in
    let P : DataType → Type 0 = λ k. All (IsNullOrInRange k) values in
    let well : IsWellFormed sought.kind = subst IsWellFormed (sym kinds) formed in
    record {
      ranges = subst P kinds (leaves.ranges it at wanted left values well read);
      full = λ none. leaves.full it at wanted left values well (nulls ∙ none) read;
    }

values_stand : LeavesRanged → (it : Opened) (left : ℕ) (sought : Sought) (column : ColumnDef) (place : PlaceChoice) (values : List Value) → IsWellFormed column.kind → sought.kind ≡ column.kind → sought.nullable ≡ column.nullable
    → (place ≡ choice.Missing → column.nullable ≡ true) → values_at it left sought place ≡ Ok values → AllStand column values
values_stand leaves it left sought column choice.Missing values formed kinds nulls may is =
    let same : replicate (rows_in it) value.Null ≡ values = cc in
    subst (AllStand column) same (repeated it column value.Null (record { ranged = tt; full = λ none. absurd (let e = may refl in cc) }))
values_stand leaves it left sought column (choice.At at) values formed kinds nulls may is =
    leaf_stands leaves it left sought column at (slice_get it.footer.leaves at) values formed kinds nulls is
values_stand leaves it left sought column choice.Partition values formed kinds nulls may is = absurd cc
values_stand leaves it left sought column choice.Wrong values formed kinds nulls may is = absurd cc

stored_stands : LeavesRanged → (it : Opened) (mode : Mode) (at : ℕ) (column : ColumnDef) (left : ℕ) (found : Cells × ℕ) → IsWellFormed column.kind → stored it (sought_of mode it.footer.leaves at column) left ≡ Ok found → IsRanged column found.0
unfolding stored
stored_stands leaves it mode at column left found formed is =
    let sought = sought_of mode it.footer.leaves at column in
    let read = went (cells sought.kind (values_at it left sought sought.place)) (λ column. Ok (column, left - text_size column.values)) found is in
    let values = went (values_at it left sought sought.place) (λ values. Ok (record { kind = sought.kind; values = values })) read.from read.is in
    let same : ◌≡◌ {A = Cells} (record { kind = sought.kind; values = values.from }) read.from = let e = values.gives in cc in
    let pair : ◌≡◌ {A = Cells × ℕ} (read.from, left - text_size read.from.values) found = let e = read.gives in cc in
    let P : Cells → Type 0 = λ c. IsRanged column c in
    subst P (same ∙ ap (λ (p : Cells × ℕ). p.0) pair) (values_stand leaves it left sought column sought.place values.from formed refl refl (missing mode it.footer.leaves column) values.is)

column_stands : LeavesRanged → (it : Opened) (mode : Mode) (at : ℕ) (column : ColumnDef) (constant : Option Value) (left : ℕ) (found : Cells × ℕ) → IsWellFormed column.kind → ((v : Value) → constant ≡ Some v → Stands column v)
    → table_column it (sought_of mode it.footer.leaves at column) constant left ≡ Ok found → IsRanged column found.0
column_stands leaves it mode at column None left found formed value is = stored_stands leaves it mode at column left found formed is
column_stands leaves it mode at column (Some v) left found formed value is =
    let pair : ◌≡◌ {A = Cells × ℕ} (record { kind = column.kind; values = replicate (rows_in it) v }, left) found = cc in
    let P : Cells → Type 0 = λ c. IsRanged column c in
    subst P (ap (λ (p : Cells × ℕ). p.0) pair) (repeated it column v (value v refl))

-- ---- all columns

constant_is : (constants : List (Option Value)) (at : ℕ) (known : Option (Option Value)) (v : Value) → slice_get constants at ≡ known → unwrap_or known None ≡ Some v → slice_get constants at ≡ Some (Some v)
constant_is constants at None v is told = absurd cc
constant_is constants at (Some one) v is told = is ∙ ap Some told

-- each value of a partition column may stand in it
abbrev ConstantsStand : List ColumnDef → ℕ → List (Option Value) → Type 0
ConstantsStand columns before constants = (k : ℕ) (column : ColumnDef) (v : Value) → slice_get columns k ≡ Some column → slice_get constants (before + k) ≡ Some (Some v) → Stands column v

columns_stand : LeavesRanged → (it : Opened) (mode : Mode) (constants : List (Option Value)) (columns : List ColumnDef) (read all : List Cells × ℕ) → AreFormed columns → ConstantsStand columns (length read.0) constants → columns_from it mode constants columns read ≡ Ok all
    → (k : ℕ) (column : ColumnDef) (cells : Cells) → slice_get columns k ≡ Some column → slice_get all.0 (length read.0 + k) ≡ Some cells → IsRanged column cells
unfolding columns_from
columns_stand leaves it mode constants [] read all formed stand e k column cells is there = absurd (none_there k column is)
columns_stand leaves it mode constants (first ∷ more) read all formed stand e zero column cells is there =
    let found = went (table_column it (sought_of mode it.footer.leaves (length read.0) first) (constant_at constants (length read.0)) read.1) (λ found. columns_from it mode constants more (read.0 ++ found.0 ∷ [], found.1)) all e in
    let at : length read.0 + 0 ≡ length read.0 = omega arith in
    let here : first ≡ column = first_is first column more is in
    let stood : slice_get all.0 (length read.0) ≡ Some found.from.0 = columns_front it mode constants more (read.0 ++ found.from.0 ∷ [], found.from.1) all found.gives (length read.0) found.from.0 (pushed_at read.0 found.from.0) in
    let same : found.from.0 ≡ cells = same_at all.0 (length read.0) found.from.0 cells stood (ap (slice_get all.0) (sym at) ∙ there) in
    let P : ColumnDef → Type 0 = λ c. IsRanged c cells in
    let Q : Cells → Type 0 = λ cs. IsRanged first cs in
    subst P here (subst Q same (column_stands leaves it mode (length read.0) first (constant_at constants (length read.0)) read.1 found.from (first_formed first more formed)
    (λ v told. stand 0 first v refl (ap (slice_get constants) at ∙ constant_is constants (length read.0) (slice_get constants (length read.0)) v refl told)) found.is))
columns_stand leaves it mode constants (first ∷ more) read all formed stand e (suc k) column cells is there =
    let found = went (table_column it (sought_of mode it.footer.leaves (length read.0) first) (constant_at constants (length read.0)) read.1) (λ found. columns_from it mode constants more (read.0 ++ found.0 ∷ [], found.1)) all e in
    let long = length-append read.0 (found.from.0 ∷ []) in
    let at : (j : ℕ) → length (read.0 ++ found.from.0 ∷ []) + j ≡ length read.0 + suc j = λ j. omega (arith, long) in
    columns_stand leaves it mode constants more (read.0 ++ found.from.0 ∷ [], found.from.1) all (later_formed first more formed)
    (λ j c v among told. stand (suc j) c v among (ap (slice_get constants) (sym (at j)) ∙ told)) found.gives k column cells (later_is first column more k is) (ap (slice_get all.0) (at k) ∙ there)

-- ---- a whole file

table_stands : LeavesRanged → TextsRanged → (it : Opened) (columns : WantedColumns) (values : Given) (text : ℕ) (table : List Cells × ℕ) → AreFormed columns.schema → table_of it columns values text ≡ Ok table → AreRanged columns.schema table.0
table_stands leaves texts it columns values text table formed e = λ at column found is there.
    let constants = went (constants_from columns.mode values columns.schema []) (with_constants it columns text) table (sym (table_is it columns values text) ∙ e) in
    let left = went (text_behind (rows_in it) constants.from text) (with_left it columns constants.from) table constants.gives in
    columns_stand leaves it columns.mode constants.from columns.schema ([], left.from) table formed
    (constants_stand texts columns.mode values columns.schema [] constants.from formed constants.is) left.gives at column found is (ap (slice_get table.0) (zero-add at) ∙ there)

pub rows_stand : LeavesRanged → TextsRanged → (columns : WantedColumns) (values : Given) (bytes : List ℕ) (room : Room) (part : Part) → AreFormed columns.schema → rows_of columns values bytes room ≡ Ok part → AreRanged columns.schema part.columns
rows_stand leaves texts columns values bytes room part formed e =
    let file = went (or_else fault.BadParquet (opened bytes)) (with_file columns values room) part (sym (rows_is columns values bytes room) ∙ e) in
    let cells = went (less counted.Cells (length columns.schema * rows_in file.from) room.cells) (with_cells columns values room file.from) part file.gives in
    let table = went (table_of file.from columns values room.text) (part_of file.from columns cells.from) part cells.gives in
    let kept = part_kept file.from columns cells.from table.from part table.gives in
    let P : List Cells → Type 0 = λ cs. AreRanged columns.schema cs in
    subst P kept.columns (table_stands leaves texts file.from columns values room.text table.from formed table.is)

-- what is read of rows that are read
abbrev RowsRanged : Type 0
RowsRanged = (columns : WantedColumns) (values : Given) (bytes : List ℕ) (room : Room) (part : Part) → AreFormed columns.schema → rows_of columns values bytes room ≡ Ok part → AreRanged columns.schema part.columns

pub part_ranged : RowsRanged → (columns : WantedColumns) (values : Given) (bytes : List ℕ) (room : Room) (result : Result PartRows PartFault) → AreFormed columns.schema → Gives {X = PartRows} seen (rows_of columns values bytes room) result → IfOk result (λ part. AreRanged columns.schema part.batch.columns)
part_ranged ranged columns values bytes room (Ok part) formed gives = ranged columns values bytes room (seen part) formed gives
part_ranged ranged columns values bytes room (Err f) formed gives = tt
