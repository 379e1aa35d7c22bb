-- The rows on which a condition holds, and the values of items on them.
use Rattle.std.specs.Prelude.{ℕ, Bool, true, false, List, map, Option, Some, None, Result, Ok, Err}
use Rattle.std.specs.List.{filter_map, flat_map, range_with_len}
use Rattle.column_vectors.specs.Cells.{Cells}
use Rattle.dm_types.specs.declared.refusal.StatementRefusal.{StatementRefusal}
use Rattle.dm_types.specs.declared.refusal.StatementRefusal.TheVariants as statement
use Rattle.dm_types.specs.declared.value.Value.{Value}
use Rattle.dm_types.specs.declared.value.Value.TheVariants.{Null}
use Rattle.typed_expr.specs.Kinds.{kind_of}
use Rattle.typed_expr.specs.declared.tree.TypedExpr.{TypedExpr}
use Rattle.vector_eval.specs.Batches.{all_true, found_or, least_kind, values_on}
use Rattle.vector_eval.specs.Outcomes.{number_of}
use Rattle.vector_eval.specs.Rows.{row_at}
use Rattle.vector_eval.specs.Values.{value_of}
use Rattle.vector_eval.specs.declared.fault.ErrorKind.{ErrorKind}

-- ---- errors

abbrev pub error_of : {A : Type 0} → Result A ErrorKind → Option ErrorKind
error_of (Ok a) = None
error_of (Err kind) = Some kind

abbrev pub errors_in : {A : Type 0} → List (Result A ErrorKind) → List ErrorKind
errors_in outcomes = filter_map error_of outcomes

abbrev pub unless : {A : Type 0} → Option ErrorKind → A → Result A StatementRefusal
unless None a = Ok a
unless (Some kind) a = Err (statement.EvalError (number_of kind))

-- of many errors the least kind is the statement's refusal
abbrev pub unless_error : {A : Type 0} → List ErrorKind → A → Result A StatementRefusal
unless_error kinds a = unless (least_kind kinds) a

-- ---- conditions

-- whether a condition holds on a row, by its conjuncts from the left, up to the first that isn't true
abbrev pub holds_on : List TypedExpr → List Value → Result Bool ErrorKind
holds_on conjuncts row = all_true (map value_of conjuncts) row

-- for each row whether the condition holds on it, unless it has an error on one
abbrev pub flags_where : List TypedExpr → List (List Value) → Result (List Bool) StatementRefusal
flags_where conjuncts rows =
    let outcomes = map (holds_on conjuncts) rows in
    unless_error (errors_in outcomes) (map (found_or false) outcomes)

-- a flag for each of so many rows
abbrev pub every : ℕ → List Bool
every count = map (λ _. true) (range_with_len 0 count)

-- so many rows of columns
abbrev pub rows_of : List Cells → ℕ → List (List Value)
rows_of columns count = map (row_at columns) (range_with_len 0 count)

-- ---- items

-- the value of an item on each row that is kept, and null on the others
abbrev pub column_of : List Cells → List Bool → TypedExpr → Cells
column_of columns kept x = record { kind = kind_of x; values = map (found_or Null) (values_on x columns kept) }

-- a column for each item, unless one has an error on a row that is kept
abbrev pub columns_of : List Cells → List Bool → List TypedExpr → Result (List Cells) StatementRefusal
columns_of columns kept items =
    unless_error (flat_map (λ x. errors_in (values_on x columns kept)) items) (map (column_of columns kept) items)
