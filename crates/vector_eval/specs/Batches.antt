-- What comes of expressions and conditions on the rows of columns.
use Rattle.std.specs.Prelude.{ℕ, ◌+◌, All, Bool, true, false, ◌==◌, List, [], ◌∷◌, ◌++◌, map, if◌then◌else◌, Option, Some, None, Result, Ok, Err}
use Rattle.std.specs.List.{list_any}
use Rattle.column_vectors.specs.Cells.{Cells}
use Rattle.dm_types.specs.Ranges.{IsNullOrInRange}
use Rattle.dm_types.specs.Then.{go}
use Rattle.dm_types.specs.declared.value.DataType.{DataType}
use Rattle.dm_types.specs.declared.value.Value.{Value}
use Rattle.dm_types.specs.declared.value.Value.TheVariants.{Null}
use Rattle.typed_expr.specs.declared.tree.TypedExpr.{TypedExpr}
use Rattle.vector_eval.specs.Outcomes.{Evaluated, number_of}
use Rattle.vector_eval.specs.Rows.{row_at}
use Rattle.vector_eval.specs.Truths.{is_true}
use Rattle.vector_eval.specs.Values.{OnRow, value_of}
use Rattle.vector_eval.specs.declared.fault.ErrorKind.{ErrorKind}
use Rattle.vector_eval.specs.declared.fault.ErrorKind.TheVariants as error

-- the types of columns
abbrev pub kinds_of : List Cells → List DataType
kinds_of columns = map (λ c. c.kind) columns

-- each value of a column is null or in the range of its type
abbrev pub IsRanged : Cells → Type 0
IsRanged c = All (IsNullOrInRange c.kind) c.values

-- what comes of a row, where it is selected; a row that isn't has no look
abbrev pub at_row : {A : Type 0} → A → (List Value → Result A ErrorKind) → List Cells → ℕ → Bool → Result A ErrorKind
at_row none f columns at selected = if selected then f (row_at columns at) else Ok none

-- .. of each row from a place on
abbrev pub on_rows : {A : Type 0} → A → (List Value → Result A ErrorKind) → List Cells → ℕ → List Bool
    → List (Result A ErrorKind)
on_rows none f columns at [] = []
on_rows none f columns at (selected ∷ more) = at_row none f columns at selected ∷ on_rows none f columns (at + 1) more

-- what was found, or what stands in its place at an error
abbrev pub found_or : {A : Type 0} → A → Result A ErrorKind → A
found_or none (Ok a) = a
found_or none (Err kind) = none

abbrev pub fault_at : {A : Type 0} → ℕ → Result A ErrorKind → List (ℕ × ErrorKind)
fault_at at (Ok a) = []
fault_at at (Err kind) = (at, kind) ∷ []

-- the errors, each with the place of its row
abbrev pub faults_from : {A : Type 0} → ℕ → List (Result A ErrorKind) → List (ℕ × ErrorKind)
faults_from at [] = []
faults_from at (outcome ∷ more) = fault_at at outcome ++ faults_from (at + 1) more

-- ---- expressions

-- what comes of an expression on each row; null where a row isn't selected
abbrev pub values_on : TypedExpr → List Cells → List Bool → List Evaluated
values_on x columns selection = on_rows Null (value_of x) columns 0 selection

-- ---- conditions

-- whether all conjuncts are true, by the first that isn't
abbrev pub all_true : List OnRow → List Value → Result Bool ErrorKind
all_true [] row = Ok true
all_true (x ∷ xs) row = go (x row) λ a. if is_true a then all_true xs row else Ok false

-- whether the condition holds on each row; false where a row isn't selected
abbrev pub truths_on : List TypedExpr → List Cells → List Bool → List (Result Bool ErrorKind)
truths_on conjuncts columns selection = on_rows false (all_true (map value_of conjuncts)) columns 0 selection

-- ---- the error that is told of many

-- an error of this kind is among them
abbrev pub has_kind : ErrorKind → List ErrorKind → Bool
has_kind kind kinds = list_any (λ other. number_of other == number_of kind) kinds

-- the least kind, if there is an error
abbrev pub least_kind : List ErrorKind → Option ErrorKind
least_kind kinds =
    if has_kind error.Overflow kinds then Some error.Overflow
    else if has_kind error.DivideByZero kinds then Some error.DivideByZero
    else if has_kind error.BadCast kinds then Some error.BadCast
    else None
