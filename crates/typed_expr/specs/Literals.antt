-- Literals.
use Rattle.std.specs.Prelude.{ℕ, ◌^◌, nat_lt, if◌then◌else◌, Bool, List, Option, None, pos}
use Rattle.dm_types.specs.declared.value.DataType.{DataType}
use Rattle.dm_types.specs.declared.value.DataType.TheVariants as kind
use Rattle.dm_types.specs.declared.value.Value.TheVariants as value
use Rattle.dm_text.specs.Reading.{text_value}
use Rattle.sql_tree.specs.declared.token.Span.{Span}
use Rattle.sql_tree.specs.declared.tree.Number.{Number}
use Rattle.sql_tree.specs.declared.tree.Literal.{Literal}
use Rattle.sql_tree.specs.declared.tree.Literal.TheVariants as l
use Rattle.typed_expr.specs.declared.tree.TypedExpr.{TypedExpr}
use Rattle.typed_expr.specs.declared.tree.TypedExpr.TheVariants as e
use Rattle.typed_expr.specs.Rules.{Typing, given, ◌>>=◌}
use Rattle.typed_expr.specs.Tables.{decimal}
use Rattle.std.specs.Prelude.{Ok}

-- the type of a number of at most 38 digits, which has no more than it says
abbrev pub decimal_kind : Number → Option DataType
decimal_kind n = if nat_lt n.unscaled (10 ^ n.precision) then decimal n.precision n.scale else None

abbrev pub decimal_constant : Number → DataType → TypedExpr
decimal_constant n k = e.Constant k (value.Dec (record { unscaled = pos n.unscaled; scale = n.scale }))

-- a number of more than 38 digits breaks rule 4
abbrev pub decimal_literal : ℕ → Number → Typing TypedExpr
decimal_literal at n = given 4 at (decimal_kind n) >>= λ k. Ok (decimal_constant n k)

-- INT up to 2147483647, BIGINT up to 2^63 - 1, else a DECIMAL
abbrev pub whole_literal : ℕ → Number → Typing TypedExpr
whole_literal at n =
    if nat_lt n.unscaled (2 ^ 31) then Ok (e.Constant kind.Integer (value.Int (pos n.unscaled)))
    else if nat_lt n.unscaled (2 ^ 63) then Ok (e.Constant kind.Long (value.Int (pos n.unscaled)))
    else decimal_literal at n

-- a text as a day or a moment; another text breaks rule 14
abbrev pub dated_literal : Span → DataType → List ℕ → Typing TypedExpr
dated_literal place k text = given 14 place.start (text_value k text) >>= λ v. Ok (e.Constant k v)

abbrev pub literal : Span → Literal → Typing TypedExpr
literal span l.Null = Ok (e.Constant kind.Void value.Null)
literal span l.True = Ok (e.Constant kind.Boolean (value.Bool Bool.true))
literal span l.False = Ok (e.Constant kind.Boolean (value.Bool Bool.false))
literal span (l.Whole n) = whole_literal span.start n
literal span (l.Decimal n) = decimal_literal span.start n
literal span (l.Text text) = Ok (e.Constant kind.Str (value.Text text))
literal span (l.Bytes bytes) = Ok (e.Constant kind.Binary (value.Bytes bytes))
literal span (l.Date place text) = dated_literal place kind.Date text
literal span (l.Timestamp place text) = dated_literal place kind.Timestamp text
