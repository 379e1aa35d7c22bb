-- The trees that the grammar makes: what each form keeps of its tokens and parts.
use Rattle.std.specs.Prelude.{ℕ, ◌^◌, ◌&&◌, nat_le, nat_lt, if◌then◌else◌, List, [], ◌∷◌, fold, Option, Some, None, is_some, unwrap_or}
use Rattle.dm_types.specs.declared.value.DataType.TheVariants as d
use Rattle.dm_types.specs.declared.value.TheConstants.{MAX_PRECISION}
use Rattle.sql_tree.specs.Places.{slice}
use Rattle.sql_tree.specs.Spans.{span_of}
use Rattle.sql_tree.specs.declared.token.Kind.{Kind}
use Rattle.sql_tree.specs.declared.token.Kind.TheVariants as k
use Rattle.sql_tree.specs.declared.token.Token.{Token}
use Rattle.sql_tree.specs.declared.token.Span.{Span}
use Rattle.sql_tree.specs.declared.tree.Name.{Name}
use Rattle.sql_statements.specs.declared.TableName.{TableName}
use Rattle.sql_tree.specs.declared.tree.Number.{Number}
use Rattle.sql_tree.specs.declared.tree.Literal.{Literal}
use Rattle.sql_tree.specs.declared.tree.Literal.TheVariants as l
use Rattle.sql_tree.specs.declared.tree.Prefix.{Prefix}
use Rattle.sql_tree.specs.declared.tree.Prefix.TheVariants as x
use Rattle.sql_tree.specs.declared.tree.Operator.{Operator}
use Rattle.sql_tree.specs.declared.tree.Operator.TheVariants as o
use Rattle.sql_tree.specs.declared.tree.Truth.{Truth}
use Rattle.sql_tree.specs.declared.tree.Truth.TheVariants as u
use Rattle.sql_tree.specs.declared.tree.WrittenKind.{WrittenKind}
use Rattle.sql_tree.specs.declared.tree.WrittenKind.TheVariants as w
use Rattle.sql_tree.specs.declared.tree.WrittenType.{WrittenType}
use Rattle.sql_tree.specs.declared.tree.Expr.{Expr}
use Rattle.sql_tree.specs.declared.tree.Expr.TheVariants as e
use Rattle.sql_lex.specs.Content.{name_of, table_of, text_of, bytes_of, number_of}

-- ---- places

-- from the beginning of the first to the end of the second
abbrev pub to : Span → Span → Span
to a b = record { start = a.start; end = b.end }

-- ---- what stands at a place of the script; a token of the right kind has it, so that the other value never comes

module _ (script : List ℕ) where
  abbrev pub name_at : Span → Name
  name_at s = record { span = s; text = unwrap_or (name_of (slice script s)) [] }

  abbrev pub table_at : Span → TableName
  table_at s = record { span = s; text = unwrap_or (table_of (slice script s)) [] }

  abbrev pub text_at : Span → List ℕ
  text_at s = unwrap_or (text_of (slice script s)) []

  abbrev pub bytes_at : Span → List ℕ
  bytes_at s = unwrap_or (bytes_of (slice script s)) []

  abbrev pub number_at : Span → Number
  number_at s = unwrap_or (number_of (slice script s)) (record { unscaled = 0; precision = 1; scale = 0 })

  -- the grammar's n: a whole number below 2^63
  abbrev pub whole_at : Span → ℕ
  whole_at s = if nat_lt (number_at s).unscaled (2 ^ 63) then (number_at s).unscaled else 0

  -- ---- what a token stands for

  abbrev pub literal_of : Kind → Span → Literal
  literal_of k.Null s = l.Null
  literal_of k.True s = l.True
  literal_of k.False s = l.False
  literal_of k.Decimal s = l.Decimal (number_at s)
  literal_of k.Text s = l.Text (text_at s)
  literal_of k.TableText s = l.Text (text_at s)
  literal_of k.Bytes s = l.Bytes (bytes_at s)
  literal_of _ s = l.Whole (number_at s)

  abbrev pub date_of : Kind → Span → Literal
  date_of k.Date s = l.Date s (text_at s)
  date_of _ s = l.Timestamp s (text_at s)

abbrev pub prefix_of : Kind → Prefix
prefix_of k.Not = x.Not
prefix_of k.Minus = x.Minus
prefix_of _ = x.Plus

abbrev pub operator_of : Kind → Operator
operator_of k.Or = o.Or
operator_of k.And = o.And
operator_of k.Equal = o.Equal
operator_of k.NotEqual = o.NotEqual
operator_of k.Less = o.Less
operator_of k.LessOrEqual = o.LessOrEqual
operator_of k.Greater = o.Greater
operator_of k.GreaterOrEqual = o.GreaterOrEqual
operator_of k.SameAs = o.SameAs
operator_of k.Concat = o.Concat
operator_of k.Plus = o.Plus
operator_of k.Minus = o.Minus
operator_of k.Star = o.Times
operator_of k.Percent = o.Remainder
operator_of _ = o.Divide

abbrev pub truth_of : Kind → Truth
truth_of k.Null = u.Null
truth_of k.True = u.True
truth_of _ = u.False

abbrev pub plain_type_of : Kind → WrittenKind
plain_type_of k.Boolean = w.Type d.Boolean
plain_type_of k.TinyInt = w.Type d.Byte
plain_type_of k.SmallInt = w.Type d.Short
plain_type_of k.Int = w.Type d.Integer
plain_type_of k.BigInt = w.Type d.Long
plain_type_of k.String = w.Type d.Str
plain_type_of k.Binary = w.Type d.Binary
plain_type_of k.Date = w.Type d.Date
plain_type_of _ = w.Type d.Timestamp

-- a DECIMAL with this precision and this scale
abbrev pub decimal_of : ℕ → ℕ → WrittenKind
decimal_of precision scale =
    if nat_le 1 precision && (nat_le precision MAX_PRECISION && nat_le scale precision)
    then w.Type (d.Decimal precision scale)
    else w.BadDecimal precision scale

-- ---- versions

abbrev pub version : List ℕ → Token → ℕ
version script t = whole_at script t.span

-- behind VERSION AS OF
abbrev pub at_version : Token × (Token × (Token × ℕ)) → ℕ
at_version p = p.1.1.1

-- ---- forms; each takes its parts in their order

abbrev pub literal : List ℕ → Token → Expr
literal script t = e.Literal t.span (literal_of script t.kind t.span)

-- DATE or TIMESTAMP, behind which the text stands
abbrev pub dated : List ℕ → Token → Token → Expr
dated script text word = e.Literal (to word.span text.span) (date_of script word.kind text.span)

abbrev pub grouped : Token × (Expr × Token) → Expr
grouped p = e.Group (to (p.0).span (p.1.1).span) p.1.0

abbrev pub column : List ℕ → Token → Expr
column script name = e.Column name.span None (name_at script name.span)

-- a dot and a name, before which the qualifier stands
abbrev pub column_of : List ℕ → Token → Token → Expr
column_of script qualifier name = e.Column (to qualifier.span name.span) (Some (name_at script qualifier.span))
    (name_at script name.span)

abbrev pub qualified : List ℕ → Token × Token → Token → Expr
qualified script p qualifier = column_of script qualifier p.1

abbrev pub all_of : Option (List Expr) → List Expr
all_of None = []
all_of (Some xs) = xs

-- arguments in brackets, before which the function's name stands
abbrev pub call_of : List ℕ → Token → Option (List Expr) → Token → Expr
call_of script name items close = e.Call (to name.span close.span) (name_at script name.span) (all_of items)

abbrev pub called : List ℕ → Token × (Option (List Expr) × Token) → Token → Expr
called script p name = call_of script name p.1.0 p.1.1

-- a name and what stands behind it, if anything
abbrev pub named : List ℕ → Token × Option (Token → Expr) → Expr
named script (name, None) = column script name
named script (name, Some f) = f name

abbrev pub branched : Token × (Expr × (Token × Expr)) → Expr × Expr
branched p = (p.1.0, p.1.1.1)

abbrev pub cased : Token × (List (Expr × Expr) × (Option Expr × Token)) → Expr
cased p = e.Case (to (p.0).span (p.1.1.1).span) (p.0).span p.1.0 p.1.1.0

abbrev pub plain_type : Token → WrittenType
plain_type t = record { span = t.span; kind = plain_type_of t.kind }

abbrev pub decimal_type : List ℕ → Token × (Token × (Token × (Token × (Token × Token)))) → WrittenType
decimal_type script p = record {
  span = to (p.0).span (p.1.1.1.1.1).span;
  kind = decimal_of (number_at script (p.1.1.0).span).unscaled (number_at script (p.1.1.1.1.0).span).unscaled;
}

abbrev pub cast_of : Token → Expr → WrittenType → Token → Expr
cast_of word x wanted close = e.Cast (to word.span close.span) word.span x wanted

abbrev pub cast_to : Token × (Token × (Expr × (Token × (WrittenType × Token)))) → Expr
cast_to p = cast_of p.0 p.1.1.0 p.1.1.1.1.0 p.1.1.1.1.1

-- a sign or NOT before an operand
abbrev pub prefixed : Token → Expr → Expr
prefixed t x = e.Unary (to t.span (span_of x)) (prefix_of t.kind) t.span x

-- any number of them: the last one is the closest
abbrev pub all_prefixed : List Token × Expr → Expr
all_prefixed ([], x) = x
all_prefixed (t ∷ ts, x) = prefixed t (all_prefixed (ts, x))

-- an operator and its right side, behind the left side
abbrev pub joined : Expr → Token × Expr → Expr
joined x p = e.Binary (to (span_of x) (span_of p.1)) (operator_of (p.0).kind) (p.0).span x p.1

-- any number of them, from the left
abbrev pub all_joined : Expr × List (Token × Expr) → Expr
all_joined p = fold joined p.0 p.1

-- ---- what stands behind the operand of a test

abbrev pub compared : Token × Expr → Expr → Expr
compared p x = joined x p

abbrev pub asked : Token × (Option Token × Token) → Expr → Expr
asked p x = e.Is (to (span_of x) (p.1.1).span) (truth_of (p.1.1).kind) (is_some p.1.0) (to (p.0).span (p.1.1).span) x

-- the operator, with the NOT before it
abbrev pub with_not : Option Token → Token → Span
with_not None t = t.span
with_not (Some not) t = to not.span t.span

abbrev pub between_of : Option Token → Token → Expr → Expr → Expr → Expr
between_of not word x low high = e.Between (to (span_of x) (span_of high)) (is_some not) (with_not not word) x low high

abbrev pub between_bounds : Token × (Expr × (Token × Expr)) → Option Token → Expr → Expr
between_bounds p not x = between_of not p.0 x p.1.0 p.1.1.1

abbrev pub in_of : Option Token → Token → Expr → List Expr → Token → Expr
in_of not word x items close = e.In (to (span_of x) close.span) (is_some not) (with_not not word) x items

abbrev pub among : Token × (Token × (List Expr × Token)) → Option Token → Expr → Expr
among p not x = in_of not p.0 x p.1.1.0 p.1.1.1

abbrev pub maybe_not : Option Token × (Option Token → Expr → Expr) → Expr → Expr
maybe_not p x = p.1 p.0 x

-- an operand and what stands behind it, if anything
abbrev pub tested : Expr × Option (Expr → Expr) → Expr
tested (x, None) = x
tested (x, Some f) = f x
