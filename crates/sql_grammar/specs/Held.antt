-- What a tree holds, held against its script: each part is there, and each name, text and number is what the bytes of
-- its part mean.
use Rattle.std.specs.Prelude.{◌≡◌, ◌<◌, ◌^◌, ℕ, List, length, Some, IfSome, ⊤}
use Rattle.dm_types.specs.declared.value.DataType.TheVariants as d
use Rattle.sql_tree.specs.Places.{slice, IsPlaced}
use Rattle.sql_tree.specs.declared.token.Span.{Span}
use Rattle.sql_tree.specs.declared.tree.Name.{Name}
use Rattle.sql_statements.specs.declared.TableName.{TableName}
use Rattle.sql_tree.specs.declared.tree.Number.{Number}
use Rattle.sql_tree.specs.declared.tree.Literal.{Literal}
use Rattle.sql_tree.specs.declared.tree.Literal.TheVariants as l
use Rattle.sql_tree.specs.declared.tree.WrittenKind.{WrittenKind}
use Rattle.sql_tree.specs.declared.tree.WrittenKind.TheVariants as w
use Rattle.sql_tree.specs.declared.tree.WrittenType.{WrittenType}
use Rattle.sql_tree.specs.declared.tree.Expr.{Expr, every-Expr}
use Rattle.sql_tree.specs.declared.tree.Expr.TheOpen.{Expr-F}
use Rattle.sql_lex.specs.Content.{name_of, table_of, text_of, bytes_of, number_of}
use Rattle.sql_lex.specs.Stand.{IsPart}

-- the part has a byte at least and ends within the script, and its bytes are this name
pub record HoldsName (script : List ℕ) (name : Name) : Type 0 where
  pub part : IsPart (length script) name.span
  pub means : name_of (slice script name.span) ≡ Some name.text

pub record HoldsTable (script : List ℕ) (table : TableName) : Type 0 where
  pub part : IsPart (length script) table.span
  pub means : table_of (slice script table.span) ≡ Some table.text

-- .. this text in quotes
pub record HoldsText (script : List ℕ) (place : Span) (text : List ℕ) : Type 0 where
  pub part : IsPart (length script) place
  pub means : text_of (slice script place) ≡ Some text

-- some part is a number that is this one without its point
pub record HoldsNumber (script : List ℕ) (n : ℕ) : Type 0 where
  pub place : Span
  pub number : Number
  pub part : IsPart (length script) place
  pub means : number_of (slice script place) ≡ Some number
  pub unscaled : n ≡ number.unscaled

-- .. and this number is one of a version
pub record HoldsVersion (script : List ℕ) (n : ℕ) : Type 0 where
  pub number : HoldsNumber script n
  pub below : n < 2 ^ 63

-- a literal that stands at a part
abbrev pub HoldsLiteral : List ℕ → Span → Literal → Type 0
HoldsLiteral script place l.Null = ⊤
HoldsLiteral script place l.True = ⊤
HoldsLiteral script place l.False = ⊤
HoldsLiteral script place (l.Whole number) = number_of (slice script place) ≡ Some number
HoldsLiteral script place (l.Decimal number) = number_of (slice script place) ≡ Some number
HoldsLiteral script place (l.Text text) = text_of (slice script place) ≡ Some text
HoldsLiteral script place (l.Bytes bytes) = bytes_of (slice script place) ≡ Some bytes
HoldsLiteral script place (l.Date inner text) = HoldsText script inner text
HoldsLiteral script place (l.Timestamp inner text) = HoldsText script inner text

-- the numbers of a DECIMAL
abbrev pub HoldsNumbers : List ℕ → WrittenKind → Type 0
HoldsNumbers script (w.Type (d.Decimal precision scale)) = HoldsNumber script precision × HoldsNumber script scale
HoldsNumbers script (w.Type _) = ⊤
HoldsNumbers script (w.BadDecimal precision scale) = HoldsNumber script precision × HoldsNumber script scale

pub record HoldsType (script : List ℕ) (written : WrittenType) : Type 0 where
  pub placed : IsPlaced (length script) written.span
  pub numbers : HoldsNumbers script written.kind

-- an expression, opened at its top: its own parts
abbrev pub HoldsNode : List ℕ → Expr-F Expr → Type 0
HoldsNode script (Expr-F.Literal span value) = IsPlaced (length script) span × HoldsLiteral script span value
HoldsNode script (Expr-F.Column span qualifier name) =
    IsPlaced (length script) span × IfSome qualifier (HoldsName script) × HoldsName script name
HoldsNode script (Expr-F.Group span inner) = IsPlaced (length script) span
HoldsNode script (Expr-F.Unary span prefix place operand) = IsPlaced (length script) span × IsPart (length script) place
HoldsNode script (Expr-F.Binary span operator place left right) =
    IsPlaced (length script) span × IsPart (length script) place
HoldsNode script (Expr-F.Is span truth not place operand) =
    IsPlaced (length script) span × IsPlaced (length script) place
HoldsNode script (Expr-F.Between span not place operand low high) =
    IsPlaced (length script) span × IsPlaced (length script) place
HoldsNode script (Expr-F.In span not place operand items) =
    IsPlaced (length script) span × IsPlaced (length script) place
HoldsNode script (Expr-F.Case span place branches otherwise) =
    IsPlaced (length script) span × IsPart (length script) place
HoldsNode script (Expr-F.Cast span place operand wanted) =
    IsPlaced (length script) span × IsPart (length script) place × HoldsType script wanted
HoldsNode script (Expr-F.Call span function arguments) = IsPlaced (length script) span × HoldsName script function

-- an expression, at each of its nodes
abbrev pub HoldsExpr : List ℕ → Expr → Type 0
HoldsExpr script = every-Expr (HoldsNode script)
