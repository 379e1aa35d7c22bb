-- Columns one behind the other are of the types of the schema, and in their ranges.
use Rattle.std.proofs.Common.{◌≡◌, ℕ, zero, suc, ◌+◌, Bool, true, false, cond, not, ◌&&◌, List, [], ◌∷◌, ◌++◌, length, length-append, map, replicate, Option, Some, None, Result, Ok, Err, refl, sym, ap, ◌∙◌, subst}
use Rattle.std.specs.Prelude.{IfOk, slice_get}
use Rattle.std.specs.Option.{option_map}
use Rattle.std.specs.declared.alloc.AllocError.{AllocError}
use Rattle.std.specs.List.{range_with_len}
use Rattle.std.proofs.lemmas.List.{length-replicate}
use Rattle.std.proofs.lemmas.List.Elements.{All-append, All-nil}
use Rattle.std.proofs.lemmas.Option.{slice_get-map}
use Rattle.std.proofs.lemmas.Simd.{map-map}
use Rattle.std.proofs.lemmas.List.FromFn.{length-map-range_with_len}
use Rattle.column_vectors.specs.Cells.{Cells}
use Rattle.data_file.specs.Answers.{AreRanged, IsRanged}
use Rattle.data_file.specs.Rows.{Part, seen}
use Rattle.data_file.specs.declared.rows.PartRows.{PartRows}
use Rattle.delta_actions.specs.declared.action.AddAction.{AddAction}
use Rattle.delta_schema.specs.declared.schema.ColumnDef.{ColumnDef}
use Rattle.dm_types.specs.Ranges.{IsNullOrInRange}
use Rattle.dm_types.specs.declared.value.DataType.{DataType}
use Rattle.dm_types.specs.declared.value.Value.{Value}
use Rattle.log_replay.specs.declared.snapshot.Snapshot.{Snapshot}
use Rattle.parquet_pages.specs.Stored.{is_full}
use Rattle.row_tracking.specs.Checked.{no_row}
use Rattle.row_tracking.specs.Ids.{lacks_base, row_id_at}
use Rattle.row_tracking.specs.declared.row_id.RowId.{RowId}
use Rattle.table_load.specs.Files.{Joined, extended, ids_of, joined, or_nulls}
use Rattle.table_load.specs.Loaded.{IsPart, come_to}
use Rattle.table_load.specs.Properties.{tracks_rows}
use Rattle.table_load.specs.StepsFiles.{IsReading}
use Rattle.table_load.specs.declared.files.Reading.{Reading}

abbrev kinds : List Cells → List DataType
kinds columns = map (λ column. column.kind) columns

pub joined_kinds : (columns more : List Cells) → kinds (joined columns more) ≡ kinds columns
unfolding joined
joined_kinds [] more = refl
joined_kinds (column ∷ columns) [] = refl
joined_kinds (column ∷ columns) (other ∷ more) = ap (λ (ks : List DataType). column.kind ∷ ks) (joined_kinds columns more)

both_ranged : (schema : ColumnDef) (a b : Cells) → IsRanged schema a → IsRanged schema b → IsRanged schema (record { kind = a.kind; values = a.values ++ b.values })
both_ranged schema a b first second = record {
  ranges = All-append (IsNullOrInRange schema.kind) a.values b.values first.ranges second.ranges;
  full = λ never. All-append (λ (v : Value). is_full v ≡ true) a.values b.values (first.full never) (second.full never);
}

behind : (column : ColumnDef) (schema : List ColumnDef) (a : Cells) (first_ones : List Cells) → AreRanged (column ∷ schema) (a ∷ first_ones) → AreRanged schema first_ones
behind column schema a first_ones all = λ at c cells there here. all (suc at) c cells there here

one_ranged : (column : ColumnDef) (schema : List ColumnDef) (a b : Cells) (rest : List Cells) → IsRanged column a → IsRanged column b → AreRanged schema rest → AreRanged (column ∷ schema) (record { kind = a.kind; values = a.values ++ b.values } ∷ rest)
one_ranged column schema a b rest first second all zero c cells there here =
    let same : column ≡ c = let e = there in cc in
    let is : ◌≡◌ {A = Cells} (record { kind = a.kind; values = a.values ++ b.values }) cells = let e = here in cc in
    subst (λ (it : ColumnDef). IsRanged it cells) same (subst (IsRanged column) is (both_ranged column a b first second))
one_ranged column schema a b rest first second all (suc at) c cells there here = all at c cells there here

pub joined_ranged : (schema : List ColumnDef) (first_ones second_ones : List Cells) → AreRanged schema first_ones → AreRanged schema second_ones → AreRanged schema (joined first_ones second_ones)
unfolding joined
joined_ranged schema [] second_ones first second = first
joined_ranged schema (a ∷ first_ones) [] first second = first
joined_ranged [] (a ∷ first_ones) (b ∷ second_ones) first second = λ at c cells there here. absurd (let z : ◌≡◌ {A = Option ColumnDef} None (Some c) = there in cc)
joined_ranged (column ∷ schema) (a ∷ first_ones) (b ∷ second_ones) first second =
    one_ranged column schema a b (joined first_ones second_ones) (first zero column a refl refl) (second zero column b refl refl)
    (joined_ranged schema first_ones second_ones (behind column schema a first_ones first) (behind column schema b second_ones second))

-- ---- ids

pub ids_count : (table : Snapshot) (add : AddAction) (file : Part) → length (ids_of table add file) ≡ file.rows
ids_count table add file = by (tracks_rows table && not (lacks_base add))
  where
    said : List RowId
    said = map (row_id_at add (or_nulls file.rows file.ids) (or_nulls file.rows file.versions)) (range_with_len 0 file.rows)

    by : (b : Bool) → length (cond b said (replicate file.rows no_row)) ≡ file.rows
    by true = length-map-range_with_len (row_id_at add (or_nulls file.rows file.ids) (or_nulls file.rows file.versions)) 0 file.rows
    by false = length-replicate file.rows no_row

-- ---- what is read

pub reading_of : (schema : List ColumnDef) (before all : Reading) (part : PartRows) (ids : List RowId) → IsReading schema before → IsPart schema part → length ids ≡ part.batch.rows → come_to all ≡ extended (come_to before) (seen part) ids → IsReading schema all
reading_of schema before all part ids was file long is =
    let columns : all.batch.columns ≡ joined before.batch.columns part.batch.columns = ap (λ (j : Joined). j.columns) is in
    record {
      types = ap kinds columns ∙ joined_kinds before.batch.columns part.batch.columns ∙ was.types;
      ranges = subst (AreRanged schema) (sym columns) (joined_ranged schema before.batch.columns part.batch.columns was.ranges file.ranges);
      ids = ap (λ (j : Joined). length j.ids) is ∙ length-append before.ids ids ∙ ap (λ (n : ℕ). n + length ids) was.ids ∙ ap (λ (n : ℕ). before.batch.rows + n) long ∙ sym (ap (λ (j : Joined). j.rows) is);
    }

pub reading_ok : (schema : List ColumnDef) (before : Reading) (part : PartRows) (ids : List RowId) (result : Result Reading AllocError) → IsReading schema before → IsPart schema part → length ids ≡ part.batch.rows → IfOk result (λ all. come_to all ≡ extended (come_to before) (seen part) ids) → IfOk result (IsReading schema)
reading_ok schema before part ids (Ok all) was file long is = reading_of schema before all part ids was file long is
reading_ok schema before part ids (Err _) was file long is = tt

-- ---- no file yet

abbrev pub without_rows : List ColumnDef → List Cells
without_rows schema = map (λ column. record { kind = column.kind; values = [] }) schema

empty_ranged : (schema : List ColumnDef) → AreRanged schema (without_rows schema)
empty_ranged schema at column cells there here = by (without at)
  where
    without : (k : ℕ) → slice_get (without_rows schema) k ≡ option_map (λ column. record { kind = column.kind; values = [] }) (slice_get schema k)
    without k = slice_get-map (λ column. record { kind = column.kind; values = [] }) schema k

    by : slice_get (without_rows schema) at ≡ option_map (λ column. record { kind = column.kind; values = [] }) (slice_get schema at) → IsRanged column cells
    by is =
        let e : ◌≡◌ {A = Option Cells} (Some cells) (Some (record { kind = column.kind; values = [] })) = sym here ∙ is ∙ ap (option_map (λ (c : ColumnDef). record { kind = c.kind; values = [] })) there in
        let same : ◌≡◌ {A = Cells} cells (record { kind = column.kind; values = [] }) = cc in
        subst (IsRanged column) (sym same) (record { ranges = All-nil (IsNullOrInRange column.kind); full = λ never. All-nil (λ (v : Value). is_full v ≡ true) })

pub begun_reading : (schema : List ColumnDef) (none : Reading) → none.batch.columns ≡ without_rows schema → none.batch.rows ≡ 0 → none.ids ≡ [] → IsReading schema none
begun_reading schema none columns rows ids = record {
  types = ap kinds columns ∙ map-map (λ (c : Cells). c.kind) (λ (column : ColumnDef). record { kind = column.kind; values = [] }) schema;
  ranges = subst (AreRanged schema) (sym columns) (empty_ranged schema);
  ids = ap length ids ∙ sym rows;
}
