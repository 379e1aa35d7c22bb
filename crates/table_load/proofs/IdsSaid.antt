-- The ids of a file's rows, by its add and its materialized columns.
use Rattle.std.proofs.Common.{◌≡◌, ℕ, ◌<◌, Bool, true, false, List, length, map, Option, Some, None, Result, Ok, Err, refl, sym, ap, ◌∙◌, subst, arith}
use Rattle.std.specs.Prelude.{◌↔◌, IfOk, IfSome, EachIndex, IsTrue, slice_get}
use Rattle.std.specs.List.{range_with_len}
use Rattle.std.proofs.lemmas.List.{ext_get_or, length-replicate}
use Rattle.std.proofs.lemmas.List.FromFn.{get_or-map-range_with_len, length-map-range_with_len}
use Rattle.std.proofs.lemmas.Option.{get_or_from_slice_get}
use Rattle.column_vectors.specs.Cells.{Cells}
use Rattle.data_file.specs.Answers.{HasLongs}
use Rattle.data_file.specs.Rows.{Part}
use Rattle.delta_actions.specs.declared.action.AddAction.{AddAction}
use Rattle.dm_types.specs.declared.value.Value.TheVariants.{Null}
use Rattle.row_tracking.specs.Checked.{no_row}
use Rattle.row_tracking.specs.Ids.{lacks_base, row_id_at}
use Rattle.row_tracking.specs.declared.ids.IdFault.{IdFault}
use Rattle.row_tracking.specs.declared.ids.IdFault.TheVariants as fault
use Rattle.row_tracking.specs.declared.row_id.RowId.{RowId}
use Rattle.table_load.specs.Files.{or_nulls}
use Rattle.table_load.specs.StepsFiles.{SaysIds, column_or}

pub or_is : (rows : ℕ) (nulls : Cells) (column : Option Cells) → nulls ≡ or_nulls rows None → column_or nulls column ≡ or_nulls rows column
or_is rows nulls None is = is
or_is rows nulls (Some column) is = refl

pub or_longs : (rows : ℕ) (column : Option Cells) → IfSome column (HasLongs rows) → HasLongs rows (or_nulls rows column)
or_longs rows None all = (refl, length-replicate rows Null)
or_longs rows (Some column) all = all

-- rows that are told one by one
pub rows_are : (f : ℕ → RowId) (rows : List RowId) (n : ℕ) → length rows ≡ n → EachIndex rows (λ k. slice_get rows k ≡ Some (f k)) → rows ≡ map f (range_with_len 0 n)
rows_are f rows n long each =
    ext_get_or no_row rows (map f (range_with_len 0 n)) (long ∙ sym (length-map-range_with_len f 0 n))
    (λ k inside. get_or_from_slice_get rows k (f k) no_row (each k inside) ∙ sym (get_or-map-range_with_len f 0 n k k no_row (subst (λ (m : ℕ). k < m) long inside) (omega arith)))

says_ok : (add : AddAction) (rows : List RowId) (b : Bool) → lacks_base add ≡ b → ((◌≡◌ {A = Result (List RowId) IdFault} (Ok rows) (Err fault.NoBase)) ↔ IsTrue (lacks_base add)) → lacks_base add ≡ false
says_ok add rows true is base = let z : ◌≡◌ {A = Result (List RowId) IdFault} (Ok rows) (Err fault.NoBase) = base.1 is in cc
says_ok add rows false is base = is

pub says : (add : AddAction) (file : Part) (ids versions : Cells) (result : Result (List RowId) IdFault) → ids ≡ or_nulls file.rows file.ids → versions ≡ or_nulls file.rows file.versions → length ids.values ≡ file.rows
    → ((result ≡ Err fault.NoBase) ↔ IsTrue (lacks_base add)) → IfOk result (λ rows. length rows ≡ length ids.values) → IfOk result (λ rows. EachIndex rows (λ k. slice_get rows k ≡ Some (row_id_at add ids versions k))) → SaysIds add file result
says add file ids versions (Ok rows) of_ids of_versions long base count each =
    let all : rows ≡ map (row_id_at add ids versions) (range_with_len 0 file.rows) = rows_are (row_id_at add ids versions) rows file.rows (count ∙ long) each in (
      says_ok add rows (lacks_base add) refl base,
      all ∙ ap (λ (c : Cells). map (row_id_at add c versions) (range_with_len 0 file.rows)) of_ids ∙ ap (λ (c : Cells). map (row_id_at add (or_nulls file.rows file.ids) c) (range_with_len 0 file.rows)) of_versions,
    )
says add file ids versions (Err fault.NoBase) of_ids of_versions long base count each = base.0 refl
says add file ids versions (Err fault.Memory) of_ids of_versions long base count each = tt
