-- The line of a row is its id, its commit version and its values, one behind the other.
use Rattle.std.proofs.Common.{◌≡◌, ℕ, List, [], ◌∷◌, ◌++◌, get_or, map, sym, ap, ◌∙◌, append-nil, append_assoc, Some, Result, Ok, Err}
use Rattle.std.specs.Prelude.{OnOk, slice_get}
use Rattle.std.specs.declared.alloc.AllocError.{AllocError}
use Rattle.std.proofs.lemmas.Option.{get_or_from_slice_get}
use Rattle.std.specs.List.{join_with_byte}
use Rattle.column_vectors.specs.Cells.{Cells}
use Rattle.dm_text.specs.Printing.{value_field}
use Rattle.row_tracking.specs.Checked.{no_row}
use Rattle.row_tracking.specs.declared.row_id.RowId.{RowId}
use Rattle.script_run.specs.RowLines.{number, row_line}
use Rattle.script_run.specs.StepsRows.{value_at, cells_text, line_at}

pub joined-more : (x : List ℕ) (columns : List Cells) (place : ℕ) → join_with_byte 9 (x ∷ map value_field (map (value_at place) columns)) ≡ x ++ cells_text columns place
joined-more x [] place = simp append-nil
joined-more x (column ∷ columns) place = ap (λ (rest : List ℕ). x ++ 9 ∷ rest) (joined-more (value_field (value_at place column)) columns place)

line_of : (columns : List Cells) (place : ℕ) (row : RowId) → row_line row (map (value_at place) columns) ≡ (value_field (number row.id) ++ 9 ∷ value_field (number row.version)) ++ cells_text columns place
line_of columns place row =
    ap (λ (rest : List ℕ). value_field (number row.id) ++ 9 ∷ rest) (joined-more (value_field (number row.version)) columns place)
    ∙ sym (append_assoc (value_field (number row.id)) (9 ∷ value_field (number row.version)) (cells_text columns place))

pub line_parts : (columns : List Cells) (ids : List RowId) (place : ℕ) (row : RowId) → row ≡ get_or ids place no_row → line_at columns ids place ≡ (value_field (number row.id) ++ 9 ∷ value_field (number row.version)) ++ cells_text columns place
line_parts columns ids place row is = ap (λ (it : RowId). row_line it (map (value_at place) columns)) (sym is) ∙ line_of columns place row

pub row_added : (result : Result (Unit {0}) AllocError) (columns : List Cells) (ids : List RowId) (place : ℕ) (row : RowId) (out numbers all : List ℕ) → slice_get ids place ≡ Some row → numbers ≡ (out ++ value_field (number row.id)) ++ 9 ∷ value_field (number row.version)
    → OnOk result (all ≡ numbers ++ cells_text columns place) → OnOk result (all ≡ out ++ line_at columns ids place)
row_added (Err e) columns ids place row out numbers all at numbered cells = tt
row_added (Ok u) columns ids place row out numbers all at numbered cells =
    cells ∙ ap (λ (t : List ℕ). t ++ cells_text columns place) (numbered ∙ append_assoc out (value_field (number row.id)) (9 ∷ value_field (number row.version)))
    ∙ append_assoc out (value_field (number row.id) ++ 9 ∷ value_field (number row.version)) (cells_text columns place)
    ∙ ap (λ (t : List ℕ). out ++ t) (sym (line_parts columns ids place row (sym (get_or_from_slice_get ids place row no_row at))))
