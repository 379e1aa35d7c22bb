-- The readers of the productions, each as its production is written.
use Rattle.std.specs.Prelude.{ℕ, zero, suc, Bool, ◌||◌, List, Option, Some, None, Ok, Err, length}
use Rattle.token_lang.specs.Run.{Reader, made, run_one, run_both, run_either, run_many, run_at_most}
use Rattle.sql_tree.specs.declared.token.Kind.{Kind}
use Rattle.sql_tree.specs.declared.token.Kind.TheVariants as k
use Rattle.sql_tree.specs.declared.token.Token.{Token}
use Rattle.sql_tree.specs.declared.tree.WrittenType.{WrittenType}
use Rattle.sql_tree.specs.declared.tree.Expr.{Expr}
use Rattle.sql_tree.specs.Kinds.{is, any, names, names_alone, is_value, compares, multiplies, signs, is_truth, is_plain_type, is_text, is_table, dates}
use Rattle.sql_grammar.specs.Grammar.{second, list}
use Rattle.sql_grammar.specs.Tree as tree

-- ---- ways to read

abbrev pub run_token : Kind → Reader Token Token
run_token kind = run_one (is kind)

abbrev pub run_valued : {A B : Type 0} → (A → B) → Reader Token A → Reader Token B
run_valued make f ts = made make (f ts)

abbrev pub run_all : {A : Type 0} → (Token → Bool) → Reader Token A → Reader Token (List A)
run_all first f ts = run_many first f (length ts) ts

abbrev pub run_maybe : {A : Type 0} → (Token → Bool) → Reader Token A → Reader Token (Option A)
run_maybe first f = run_either first (run_valued Some f) (λ ts. Ok (None, ts))

abbrev pub run_some : {A : Type 0} → (Token → Bool) → Reader Token A → Reader Token (List A)
run_some first f = run_valued list (run_both f (run_all first f))

abbrev pub run_next : {A : Type 0} → Reader Token A → Reader Token A
run_next f = run_valued second (run_both (run_token k.Comma) f)

abbrev pub run_commas : {A : Type 0} → Reader Token A → Reader Token (List A)
run_commas f = run_valued list (run_both f (run_all (is k.Comma) (run_next f)))

abbrev pub run_chain : (Token → Bool) → Reader Token Expr → Reader Token Expr
run_chain operator f = run_valued tree.all_joined (run_both f (run_all operator (run_both (run_one operator) f)))

abbrev pub run_signed : (Token → Bool) → Reader Token Expr → Reader Token Expr
run_signed sign f = run_valued tree.all_prefixed (run_both (run_all sign (run_one sign)) f)

unfoldable pub run_opening : ℕ → Kind → Reader Token Token
run_opening zero kind ts = Err ts
run_opening (suc depth) kind ts = run_token kind ts

abbrev pub run_name : Reader Token Token
run_name = run_one (any names)

abbrev pub run_table : Reader Token Token
run_table = run_one (any is_table)

-- ---- versions of a table

abbrev pub run_version : List ℕ → Reader Token ℕ
run_version script = run_valued (tree.version script) (run_token k.Whole)

abbrev pub run_at_version : List ℕ → Reader Token ℕ
run_at_version script = run_valued tree.at_version (run_both (run_token k.Version) (run_both (run_token k.As) (run_both
    (run_token k.Of) (run_version script))))

abbrev pub run_maybe_at_version : List ℕ → Reader Token (Option ℕ)
run_maybe_at_version script = run_maybe (is k.Version) (run_at_version script)

-- ---- types

abbrev pub run_decimal : List ℕ → ℕ → Reader Token WrittenType
run_decimal script depth = run_valued (tree.decimal_type script) (run_both (run_token k.DecimalWord) (run_both
    (run_opening depth k.Open) (run_both (run_token k.Whole) (run_both (run_token k.Comma) (run_both
    (run_token k.Whole) (run_token k.Close))))))

abbrev pub run_type : List ℕ → ℕ → Reader Token WrittenType
run_type script depth = run_either (any is_plain_type) (run_valued tree.plain_type (run_one (any is_plain_type)))
    (run_decimal script depth)

unfoldable pub run_type_inside : List ℕ → ℕ → Reader Token WrittenType
run_type_inside script zero ts = Err ts
run_type_inside script (suc depth) ts = run_type script depth ts

-- ---- expressions

-- what an operand without signs begins with
abbrev pub first_primary : Token → Bool
first_primary t = any is_value t || (any dates t || (is k.Open t || (any names_alone t ||
    (is k.Case t || is k.Cast t))))

-- what an expression begins with
abbrev pub first_expr : Token → Bool
first_expr t = is k.Not t || (any signs t || first_primary t)

-- what may stand behind a name
abbrev pub first_tail : Token → Bool
first_tail t = is k.Dot t || is k.Open t

-- what may stand behind DATE and TIMESTAMP
abbrev pub first_dated_tail : Token → Bool
first_dated_tail t = any is_text t || first_tail t

-- what may stand behind the operand of a test
abbrev pub first_range : Token → Bool
first_range t = is k.Not t || (is k.Between t || is k.In t)

abbrev pub first_predicate : Token → Bool
first_predicate t = any compares t || (is k.Is t || first_range t)

abbrev pub run_qualified : List ℕ → Reader Token (Token → Expr)
run_qualified script = run_valued (tree.qualified script) (run_both (run_token k.Dot) run_name)

abbrev pub run_literal : List ℕ → Reader Token Expr
run_literal script = run_valued (tree.literal script) (run_one (any is_value))

abbrev pub run_maybe_not : Reader Token (Option Token)
run_maybe_not = run_maybe (is k.Not) (run_token k.Not)

abbrev pub run_question : Reader Token (Expr → Expr)
run_question = run_valued tree.asked (run_both (run_token k.Is) (run_both run_maybe_not (run_one (any is_truth))))

module _ (script : List ℕ) (depth : ℕ) (inside : Reader Token Expr) where
  abbrev pub run_group : Reader Token Expr
  run_group = run_valued tree.grouped (run_both (run_opening depth k.Open) (run_both inside (run_token k.Close)))

  abbrev pub run_arguments : Reader Token (Token → Expr)
  run_arguments = run_valued (tree.called script) (run_both (run_opening depth k.Open) (run_both (run_maybe first_expr
      (run_commas inside)) (run_token k.Close)))

  abbrev pub run_tail : Reader Token (Token → Expr)
  run_tail = run_either (is k.Dot) (run_qualified script) run_arguments

  abbrev pub run_dated_tail : Reader Token (Token → Expr)
  run_dated_tail = run_either (any is_text) (run_valued (tree.dated script) (run_one (any is_text))) run_tail

  abbrev pub run_dated : Reader Token Expr
  run_dated = run_valued (tree.named script) (run_both (run_one (any dates))
      (run_maybe first_dated_tail run_dated_tail))

  abbrev pub run_named : Reader Token Expr
  run_named = run_valued (tree.named script) (run_both (run_one (any names_alone)) (run_maybe first_tail run_tail))

  abbrev pub run_branch : Reader Token (Expr × Expr)
  run_branch = run_valued tree.branched (run_both (run_token k.When) (run_both inside (run_both
      (run_token k.Then) inside)))

  abbrev pub run_branches : Reader Token (List (Expr × Expr))
  run_branches = run_some (is k.When) run_branch

  abbrev pub run_otherwise : Reader Token Expr
  run_otherwise = run_valued second (run_both (run_token k.Else) inside)

  abbrev pub run_maybe_otherwise : Reader Token (Option Expr)
  run_maybe_otherwise = run_maybe (is k.Else) run_otherwise

  abbrev pub run_case : Reader Token Expr
  run_case = run_valued tree.cased (run_both (run_opening depth k.Case) (run_both run_branches
      (run_both run_maybe_otherwise (run_token k.End))))

  abbrev pub run_cast : Reader Token Expr
  run_cast = run_valued tree.cast_to (run_both (run_token k.Cast) (run_both (run_opening depth k.Open)
      (run_both inside (run_both (run_token k.As) (run_both (run_type_inside script depth) (run_token k.Close))))))

  abbrev pub run_primary : Reader Token Expr
  run_primary = run_either (any is_value) (run_literal script) (run_either (any dates) run_dated (run_either
      (is k.Open) run_group (run_either (any names_alone) run_named (run_either (is k.Case) run_case run_cast))))

  abbrev pub run_sign : Reader Token Expr
  run_sign = run_signed (any signs) run_primary

  abbrev pub run_prod : Reader Token Expr
  run_prod = run_chain (any multiplies) run_sign

  abbrev pub run_sum : Reader Token Expr
  run_sum = run_chain (any signs) run_prod

  abbrev pub run_cat : Reader Token Expr
  run_cat = run_chain (is k.Concat) run_sum

  abbrev pub run_comparison : Reader Token (Expr → Expr)
  run_comparison = run_valued tree.compared (run_both (run_one (any compares)) run_cat)

  abbrev pub run_between : Reader Token (Option Token → Expr → Expr)
  run_between = run_valued tree.between_bounds (run_both (run_token k.Between) (run_both run_cat (run_both
      (run_token k.And) run_cat)))

  abbrev pub run_among : Reader Token (Option Token → Expr → Expr)
  run_among = run_valued tree.among (run_both (run_token k.In) (run_both (run_opening depth k.Open) (run_both
      (run_commas inside) (run_token k.Close))))

  abbrev pub run_range : Reader Token (Expr → Expr)
  run_range = run_valued tree.maybe_not (run_both run_maybe_not (run_either (is k.Between) run_between run_among))

  abbrev pub run_predicate : Reader Token (Expr → Expr)
  run_predicate = run_either (any compares) run_comparison (run_either (is k.Is) run_question run_range)

  abbrev pub run_test : Reader Token Expr
  run_test = run_valued tree.tested (run_both run_cat (run_maybe first_predicate run_predicate))

  abbrev pub run_negation : Reader Token Expr
  run_negation = run_signed (is k.Not) run_test

  abbrev pub run_conjunction : Reader Token Expr
  run_conjunction = run_chain (is k.And) run_negation

  abbrev pub run_disjunction : Reader Token Expr
  run_disjunction = run_chain (is k.Or) run_conjunction

unfoldable pub run_inside : List ℕ → ℕ → Reader Token Expr
run_inside script zero ts = Err ts
run_inside script (suc depth) ts = run_disjunction script depth (run_inside script depth) ts

abbrev pub run_expr : List ℕ → ℕ → Reader Token Expr
run_expr script depth = run_disjunction script depth (run_inside script depth)

abbrev pub run_expression : List ℕ → Reader Token Expr
run_expression script = run_at_most 1000 (run_expr script 64)
