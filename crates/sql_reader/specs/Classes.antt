-- What the classes of tokens and the levels of operators are in the grammar.
use Rattle.std.specs.Prelude.{ℕ, Bool, List}
use Rattle.token_lang.specs.Run.{Reader}
use Rattle.sql_tree.specs.declared.token.Kind.{Kind}
use Rattle.sql_tree.specs.declared.token.Kind.TheVariants as k
use Rattle.sql_tree.specs.declared.token.Token.{Token}
use Rattle.sql_tree.specs.declared.tree.Expr.{Expr}
use Rattle.sql_tree.specs.contracts.token.Kind.{the_type}
use denote.Enum.Bare.{sameb}
use Rattle.sql_tree.specs.Kinds as kinds
use Rattle.sql_grammar.specs.Reading as reading
use Rattle.sql_reader.specs.declared.class.Class.{Class}
use Rattle.sql_reader.specs.declared.class.Class.TheVariants as c
use Rattle.sql_reader.specs.declared.class.Level.{Level}
use Rattle.sql_reader.specs.declared.class.Level.TheVariants as v

-- the kinds of the class
abbrev pub kinds_of : Class → Kind → Bool
kinds_of c.Name = kinds.names
kinds_of c.NameAlone = kinds.names_alone
kinds_of c.Value = kinds.is_value
kinds_of c.Date = kinds.dates
kinds_of c.Comparison = kinds.compares
kinds_of c.Not = λ kind. sameb the_type kind k.Not
kinds_of c.Sign = kinds.signs
kinds_of c.Multiplier = kinds.multiplies
kinds_of c.Truth = kinds.is_truth
kinds_of c.PlainType = kinds.is_plain_type
kinds_of c.Text = kinds.is_text
kinds_of c.Table = kinds.is_table

-- the token is of the class
abbrev pub is_in : Class → Token → Bool
is_in class t = kinds_of class t.kind

-- the operators of the level
abbrev pub operators : Level → Token → Bool
operators v.Or = kinds.is k.Or
operators v.And = kinds.is k.And
operators v.Concat = kinds.is k.Concat
operators v.Sum = kinds.any kinds.signs
operators v.Product = kinds.any kinds.multiplies

-- what stands between the operators of the level
abbrev pub run_operand : List ℕ → ℕ → Reader Token Expr → Level → Reader Token Expr
run_operand script depth f v.Or = reading.run_conjunction script depth f
run_operand script depth f v.And = reading.run_negation script depth f
run_operand script depth f v.Concat = reading.run_sum script depth f
run_operand script depth f v.Sum = reading.run_prod script depth f
run_operand script depth f v.Product = reading.run_sign script depth f
