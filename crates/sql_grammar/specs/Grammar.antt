-- The grammar of expressions. A production goes with the script's bytes, at which the tree of its tokens holds names,
-- texts and numbers, and with a number: how many brackets and CASEs may still be opened within one another.
use Rattle.std.specs.Prelude.{ℕ, zero, suc, Bool, List, ◌∷◌, Option, Some, None}
use Rattle.token_lang.specs.Lang.{Lang, one, nothing, never, both, either, valued, many, at_most, any_of}
use Rattle.sql_tree.specs.declared.token.Kind.{Kind}
use Rattle.sql_tree.specs.declared.token.Kind.TheVariants as k
use Rattle.sql_tree.specs.declared.token.Token.{Token}
use Rattle.sql_tree.specs.declared.tree.WrittenType.{WrittenType}
use Rattle.sql_tree.specs.declared.tree.Expr.{Expr}
use Rattle.sql_tree.specs.Kinds.{is, any, names, names_alone, is_value, compares, multiplies, signs, is_truth, is_plain_type, is_text, is_table, dates}
use Rattle.sql_grammar.specs.Tree as tree

-- ---- ways to write

abbrev pub token : Kind → Lang Token Token
token kind = one (is kind)

-- [D]
abbrev pub maybe : {A : Type 0} → Lang Token A → Lang Token (Option A)
maybe D = either (valued Some D) (valued (λ _. None) nothing)

-- what is left of a pair
abbrev pub second : {A : Type 0} → Token × A → A
second p = p.1

abbrev pub list : {A : Type 0} → A × List A → List A
list p = p.0 ∷ p.1

-- D {D}
abbrev pub some : {A : Type 0} → Lang Token A → Lang Token (List A)
some D = valued list (both D (many D))

-- D {"," D}
abbrev pub commas : {A : Type 0} → Lang Token A → Lang Token (List A)
commas D = valued list (both D (many (valued second (both (token k.Comma) D))))

-- D {operator D}
abbrev pub chain : (Token → Bool) → Lang Token Expr → Lang Token Expr
chain operator D = valued tree.all_joined (both D (many (both (one operator) D)))

-- {sign} D
abbrev pub signed : (Token → Bool) → Lang Token Expr → Lang Token Expr
signed sign D = valued tree.all_prefixed (both (many (one sign)) D)

-- a "(" or a CASE, of which so many may still be opened
unfoldable pub opening : ℕ → Kind → Lang Token Token
opening zero kind = never
opening (suc depth) kind = token kind

abbrev pub text : Lang Token Token
text = one (any is_text)

abbrev pub whole : Lang Token Token
whole = token k.Whole

abbrev pub name : Lang Token Token
name = one (any names)

abbrev pub table : Lang Token Token
table = one (any is_table)

-- ---- versions of a table

-- n, a whole number up to 2^63 - 1
abbrev pub version : List ℕ → Lang Token ℕ
version script = valued (tree.version script) whole

-- at = VERSION AS OF n
abbrev pub at_version : List ℕ → Lang Token ℕ
at_version script = valued tree.at_version (both (token k.Version) (both (token k.As) (both (token k.Of)
    (version script))))

-- ---- types

-- type = BOOLEAN | TINYINT | SMALLINT | INT | BIGINT | STRING | BINARY | DATE | TIMESTAMP | DECIMAL "(" n "," n ")"
abbrev pub written_type : List ℕ → ℕ → Lang Token WrittenType
written_type script depth = either (valued tree.plain_type (one (any is_plain_type)))
    (valued (tree.decimal_type script) (both (token k.DecimalWord) (both (opening depth k.Open) (both whole (both
    (token k.Comma) (both whole (token k.Close)))))))

-- a type within one more bracket
unfoldable pub type_inside : List ℕ → ℕ → Lang Token WrittenType
type_inside script zero = never
type_inside script (suc depth) = written_type script depth

-- ---- expressions, by what an expression within one more bracket is

-- IS [NOT] (NULL | TRUE | FALSE)
abbrev pub question : Lang Token (Expr → Expr)
question = valued tree.asked (both (token k.Is) (both (maybe (token k.Not)) (one (any is_truth))))

module _ (script : List ℕ) (depth : ℕ) (inside : Lang Token Expr) where
  -- "(" expr ")"
  abbrev pub group : Lang Token Expr
  group = valued tree.grouped (both (opening depth k.Open) (both inside (token k.Close)))

  -- "(" [expr {"," expr}] ")" behind a function's name
  abbrev pub arguments : Lang Token (Token → Expr)
  arguments = valued (tree.called script) (both (opening depth k.Open) (both (maybe (commas inside)) (token k.Close)))

  -- "." name | arguments
  abbrev pub tail : Lang Token (Token → Expr)
  tail = either (valued (tree.qualified script) (both (token k.Dot) name)) arguments

  -- (DATE | TIMESTAMP) text, and these words as names
  abbrev pub dated : Lang Token Expr
  dated = valued (tree.named script) (both (one (any dates)) (maybe (either (valued (tree.dated script) text) tail)))

  -- name ["." name] | name arguments
  abbrev pub named : Lang Token Expr
  named = valued (tree.named script) (both (one (any names_alone)) (maybe tail))

  -- WHEN expr THEN expr
  abbrev pub branch : Lang Token (Expr × Expr)
  branch = valued tree.branched (both (token k.When) (both inside (both (token k.Then) inside)))

  -- ELSE expr
  abbrev pub otherwise : Lang Token Expr
  otherwise = valued second (both (token k.Else) inside)

  -- CASE WHEN expr THEN expr {WHEN expr THEN expr} [ELSE expr] END
  abbrev pub case : Lang Token Expr
  case = valued tree.cased (both (opening depth k.Case) (both (some branch) (both (maybe otherwise) (token k.End))))

  -- CAST "(" expr AS type ")"
  abbrev pub cast : Lang Token Expr
  cast = valued tree.cast_to (both (token k.Cast) (both (opening depth k.Open) (both inside (both (token k.As) (both
      (type_inside script depth) (token k.Close))))))

  abbrev pub primary : Lang Token Expr
  primary = either (valued (tree.literal script) (one (any is_value))) (either dated (either group (either named
      (either case cast))))

  -- sign = ("-" | "+") sign | primary
  abbrev pub sign : Lang Token Expr
  sign = signed (any signs) primary

  -- prod = sign {("*" | "%" | DIV) sign}
  abbrev pub prod : Lang Token Expr
  prod = chain (any multiplies) sign

  -- sum = prod {("+" | "-") prod}
  abbrev pub sum : Lang Token Expr
  sum = chain (any signs) prod

  -- cat = sum {"||" sum}
  abbrev pub cat : Lang Token Expr
  cat = chain (is k.Concat) sum

  -- cmp cat
  abbrev pub comparison : Lang Token (Expr → Expr)
  comparison = valued tree.compared (both (one (any compares)) cat)

  -- BETWEEN cat AND cat
  abbrev pub between : Lang Token (Option Token → Expr → Expr)
  between = valued tree.between_bounds (both (token k.Between) (both cat (both (token k.And) cat)))

  -- IN "(" expr {"," expr} ")"
  abbrev pub among : Lang Token (Option Token → Expr → Expr)
  among = valued tree.among (both (token k.In) (both (opening depth k.Open) (both (commas inside) (token k.Close))))

  -- [NOT] (between | among)
  abbrev pub range : Lang Token (Expr → Expr)
  range = valued tree.maybe_not (both (maybe (token k.Not)) (either between among))

  -- test = cat [comparison | question | range]
  abbrev pub test : Lang Token Expr
  test = valued tree.tested (both cat (maybe (either comparison (either question range))))

  -- not = NOT not | test
  abbrev pub negation : Lang Token Expr
  negation = signed (is k.Not) test

  -- and = not {AND not}
  abbrev pub conjunction : Lang Token Expr
  conjunction = chain (is k.And) negation

  -- expr = and {OR and}
  abbrev pub disjunction : Lang Token Expr
  disjunction = chain (is k.Or) conjunction

-- an expression within one more bracket
unfoldable pub inside : List ℕ → ℕ → Lang Token Expr
inside script zero = never
inside script (suc depth) = disjunction script depth (inside script depth)

-- the expressions with no more than so many brackets and CASEs open at once
abbrev pub expr : List ℕ → ℕ → Lang Token Expr
expr script depth = disjunction script depth (inside script depth)

-- the expressions of the grammar, with no limits
unfoldable pub any_expr : List ℕ → Lang Token Expr
any_expr script = any_of (expr script)

-- Those of no more than 1,000 tokens, and with no more than 64 brackets and CASEs open at once. What begins one has
-- kept to this so far.
unfoldable pub expression : List ℕ → Lang Token Expr
expression script = at_most 1000 (expr script 64)
