-- Columns, and a row of their values.
use Rattle.std.specs.Prelude.{◌≡◌, List, length}
use Rattle.dm_types.specs.declared.value.Value.{Value}
use Rattle.typed_expr.specs.declared.scope.ScopeColumn.{ScopeColumn}
use Rattle.typed_expr.specs.Fits.{AreWellFormed, kinds_in}
use Rattle.vector_eval.specs.Rows.{IsRow}

-- columns of types that there are, and a value in the range of each
pub record IsGiven (scope : List ScopeColumn) (values : List Value) : Type 0 where
  pub formed : AreWellFormed scope
  pub row : IsRow (kinds_in scope) values
  pub counted : length scope ≡ length values
