-- The column that a name is of. Names and qualifiers are told apart without the case of ASCII letters.
use Rattle.std.specs.Prelude.{ℕ, Bool, true, false, not, ◌&&◌, if◌then◌else◌, List, slice_get, Option, Some, None, Ok}
use Rattle.std.specs.List.{position, list_any}
use Rattle.std.specs.Str.{str_eq_ignore_ascii_case}
use Rattle.sql_tree.specs.declared.token.Span.{Span}
use Rattle.sql_tree.specs.declared.tree.Name.{Name}
use Rattle.typed_expr.specs.declared.scope.ScopeColumn.{ScopeColumn}
use Rattle.typed_expr.specs.declared.tree.TypedExpr.{TypedExpr}
use Rattle.typed_expr.specs.declared.tree.TypedExpr.TheVariants as e
use Rattle.typed_expr.specs.Rules.{Typing, breaks, given, ◌>>=◌}

abbrev pub has_qualifier : Option Name → ScopeColumn → Bool
has_qualifier None column = true
has_qualifier (Some qualifier) column = str_eq_ignore_ascii_case column.qualifier qualifier.text

-- the column that a name, with or without a qualifier, may mean
abbrev pub is_named : Option Name → Name → ScopeColumn → Bool
is_named qualifier name column = has_qualifier qualifier column && str_eq_ignore_ascii_case column.name name.text

-- the same name under another qualifier
abbrev pub is_rival : ScopeColumn → ScopeColumn → Bool
is_rival first column =
    str_eq_ignore_ascii_case column.name first.name && not (str_eq_ignore_ascii_case column.qualifier first.qualifier)

-- without a qualifier the name is of two sides
abbrev pub is_of_two : Option Name → List ScopeColumn → ScopeColumn → Bool
is_of_two None scope first = list_any (is_rival first) scope
is_of_two (Some qualifier) scope first = false

-- the column at a place
abbrev pub column_at : List ScopeColumn → ℕ → Option Name → ℕ → Typing TypedExpr
column_at scope at qualifier place =
    given 1 at (slice_get scope place) >>= λ first.
    if is_of_two qualifier scope first then breaks 2 at else Ok (e.Column first.kind place)

-- the first column of the name; rule 1 where there is none, rule 2 where two sides have the name
abbrev pub column : List ScopeColumn → Span → Option Name → Name → Typing TypedExpr
column scope span qualifier name =
    given 1 span.start (position (is_named qualifier name) scope) >>= column_at scope span.start qualifier
