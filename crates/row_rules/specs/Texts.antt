-- The texts of a table's rules: expressions over its columns.
use Rattle.std.specs.Prelude.{ℕ, List, [], ◌∷◌, map, Bool, ◌||◌, Option, Some, None, is_some, Ok, Err, if◌then◌else◌}
use Rattle.std.specs.Result.{result_ok}
use Rattle.delta_schema.specs.declared.schema.ColumnDef.{ColumnDef}
use Rattle.dm_types.specs.Then.{◌>>=◌}
use Rattle.dm_types.specs.declared.value.DataType.{DataType}
use Rattle.sql_grammar.specs.Reading.{run_expression}
use Rattle.sql_lex.specs.Tokens.{tokens}
use Rattle.sql_tree.specs.declared.token.Token.{Token}
use Rattle.sql_tree.specs.declared.tree.Expr.{Expr}
use Rattle.token_lang.specs.Run.{Outcome}
use Rattle.typed_expr.specs.Forms.{is_truth}
use Rattle.typed_expr.specs.Typing.{assigned, typing}
use Rattle.typed_expr.specs.declared.scope.ScopeColumn.{ScopeColumn}
use Rattle.typed_expr.specs.declared.tree.TypedExpr.{TypedExpr}

-- ---- expressions

-- a sentence with nothing behind it
abbrev pub whole : {A : Type 0} → Outcome Token A → Option A
whole (Ok (a, [])) = Some a
whole (Ok (a, token ∷ more)) = None
whole (Err rest) = None

-- the expression that a text is; the law `reading_is_exact` says that it is the one of the grammar
unfoldable pub expression_of : List ℕ → Option Expr
expression_of text = whole (run_expression text (tokens text))

-- ---- what they see

-- a column by its name alone
abbrev pub seen : ColumnDef → ScopeColumn
seen column = record { qualifier = []; name = column.name; kind = column.kind; nullable = column.nullable }

-- its values are made where no statement gives them
abbrev pub is_made : ColumnDef → Bool
is_made column = is_some column.generation || is_some column.identity

-- a column whose values are made isn't seen: it has its place, but no name
abbrev pub unless_made : ColumnDef → ScopeColumn
unless_made column = if is_made column then record (seen column) { name = [] } else seen column

-- a CHECK sees every column (PROTOCOL.md, "CHECK Constraints")
abbrev pub seen_by_checks : List ColumnDef → List ScopeColumn
seen_by_checks columns = map seen columns

-- a generation expression sees those that are given (PROTOCOL.md, "Generated Columns")
abbrev pub seen_by_generations : List ColumnDef → List ScopeColumn
seen_by_generations columns = map unless_made columns

-- ---- what they mean

-- a generation expression, assigned to a column of a type
abbrev pub generation_of : List ScopeColumn → DataType → List ℕ → Option TypedExpr
generation_of scope kind text = expression_of text >>= λ x. result_ok (assigned scope x kind)

abbrev pub if_truth : TypedExpr → Option TypedExpr
if_truth tree = if is_truth tree then Some tree else None

-- a CHECK is BOOLEAN or NULL
abbrev pub check_of : List ScopeColumn → List ℕ → Option TypedExpr
check_of scope text = expression_of text >>= λ x. result_ok (typing scope x) >>= if_truth
