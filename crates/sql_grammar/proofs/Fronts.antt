-- Of each production: what stands behind it doesn't matter, and each front of what it derives begins it.
use Rattle.std.proofs.Common.{ℕ, zero, suc, List}
use Rattle.token_lang.specs.Lang.{Lang, both, valued, never}
use Rattle.token_lang.specs.Meets.{Plain}
use Rattle.token_lang.proofs.Place.{never_local}
use Rattle.token_lang.proofs.Cut.{never_cuts, any_cuts}
use Rattle.token_lang.proofs.Grow.{any_local}
use Rattle.token_lang.proofs.All.{one_plain, valued_plain, both_plain, either_plain, many_plain, maybe_plain, chain_plain, limit_plain}
use Rattle.sql_tree.specs.declared.token.Kind.{Kind}
use Rattle.sql_tree.specs.declared.token.Kind.TheVariants as k
use Rattle.sql_tree.specs.declared.token.Token.{Token}
use Rattle.sql_tree.specs.declared.tree.Expr.{Expr}
use Rattle.sql_tree.specs.Kinds.{is, any, names, names_alone, is_value, compares, multiplies, signs, is_truth, is_plain_type, is_text, dates}
use Rattle.sql_grammar.specs.Grammar as g
use Rattle.sql_grammar.specs.Tree as tree

pub token_plain : (kind : Kind) → Plain (g.token kind)
token_plain kind = one_plain (is kind)

never_plain : {A : Type 0} → Plain {T = Token} {A = A} never
never_plain = record { local = never_local; cuts = never_cuts }

pub opening_plain : (depth : ℕ) (kind : Kind) → Plain (g.opening depth kind)
unfolding g.opening
opening_plain zero kind = never_plain
opening_plain (suc depth) kind = one_plain (is kind)

module _ {A : Type 0} {D : Lang Token A} (x : Plain D) where
  pub next_plain : Plain (valued g.second (both (g.token k.Comma) D))
  next_plain = valued_plain g.second (both_plain (token_plain k.Comma) x)

  pub commas_plain : Plain (g.commas D)
  commas_plain = valued_plain g.list (both_plain x (many_plain next_plain))

  pub some_plain : Plain (g.some D)
  some_plain = valued_plain g.list (both_plain x (many_plain x))

pub version_plain : (script : List ℕ) → Plain (g.version script)
version_plain script = valued_plain (tree.version script) (token_plain k.Whole)

pub at_version_plain : (script : List ℕ) → Plain (g.at_version script)
at_version_plain script = valued_plain tree.at_version (both_plain (token_plain k.Version) (both_plain (token_plain k.As) (both_plain (token_plain k.Of) (version_plain script))))

pub type_plain : (script : List ℕ) (depth : ℕ) → Plain (g.written_type script depth)
type_plain script depth = either_plain (valued_plain tree.plain_type (one_plain (any is_plain_type)))
    (valued_plain (tree.decimal_type script) (both_plain (token_plain k.DecimalWord) (both_plain (opening_plain depth k.Open)
    (both_plain (token_plain k.Whole) (both_plain (token_plain k.Comma) (both_plain (token_plain k.Whole) (token_plain k.Close)))))))

pub type_inside_plain : (script : List ℕ) (depth : ℕ) → Plain (g.type_inside script depth)
unfolding g.type_inside
type_inside_plain script zero = never_plain
type_inside_plain script (suc depth) = type_plain script depth

pub question_plain : Plain g.question
question_plain = valued_plain tree.asked (both_plain (token_plain k.Is) (both_plain (maybe_plain (token_plain k.Not)) (one_plain (any is_truth))))

module _ (script : List ℕ) (depth : ℕ) {B : Lang Token Expr} (x : Plain B) where
  pub group_plain : Plain (g.group script depth B)
  group_plain = valued_plain tree.grouped (both_plain (opening_plain depth k.Open) (both_plain x (token_plain k.Close)))

  pub arguments_plain : Plain (g.arguments script depth B)
  arguments_plain = valued_plain (tree.called script) (both_plain (opening_plain depth k.Open) (both_plain (maybe_plain (commas_plain x)) (token_plain k.Close)))

  pub tail_plain : Plain (g.tail script depth B)
  tail_plain = either_plain (valued_plain (tree.qualified script) (both_plain (token_plain k.Dot) (one_plain (any names)))) arguments_plain

  pub dated_plain : Plain (g.dated script depth B)
  dated_plain = valued_plain (tree.named script) (both_plain (one_plain (any dates)) (maybe_plain (either_plain (valued_plain (tree.dated script) (one_plain (any is_text))) tail_plain)))

  pub named_plain : Plain (g.named script depth B)
  named_plain = valued_plain (tree.named script) (both_plain (one_plain (any names_alone)) (maybe_plain tail_plain))

  pub branch_plain : Plain (g.branch script depth B)
  branch_plain = valued_plain tree.branched (both_plain (token_plain k.When) (both_plain x (both_plain (token_plain k.Then) x)))

  pub otherwise_plain : Plain (g.otherwise script depth B)
  otherwise_plain = valued_plain g.second (both_plain (token_plain k.Else) x)

  pub case_plain : Plain (g.case script depth B)
  case_plain = valued_plain tree.cased (both_plain (opening_plain depth k.Case) (both_plain (some_plain branch_plain) (both_plain (maybe_plain otherwise_plain) (token_plain k.End))))

  pub cast_plain : Plain (g.cast script depth B)
  cast_plain = valued_plain tree.cast_to (both_plain (token_plain k.Cast) (both_plain (opening_plain depth k.Open)
      (both_plain x (both_plain (token_plain k.As) (both_plain (type_inside_plain script depth) (token_plain k.Close))))))

  pub primary_plain : Plain (g.primary script depth B)
  primary_plain = either_plain (valued_plain (tree.literal script) (one_plain (any is_value))) (either_plain dated_plain (either_plain group_plain (either_plain named_plain (either_plain case_plain cast_plain))))

  pub sign_plain : Plain (g.sign script depth B)
  sign_plain = valued_plain tree.all_prefixed (both_plain (many_plain (one_plain (any signs))) primary_plain)

  pub prod_plain : Plain (g.prod script depth B)
  prod_plain = chain_plain tree.all_joined (any multiplies) sign_plain

  pub sum_plain : Plain (g.sum script depth B)
  sum_plain = chain_plain tree.all_joined (any signs) prod_plain

  pub cat_plain : Plain (g.cat script depth B)
  cat_plain = chain_plain tree.all_joined (is k.Concat) sum_plain

  pub comparison_plain : Plain (g.comparison script depth B)
  comparison_plain = valued_plain tree.compared (both_plain (one_plain (any compares)) cat_plain)

  pub between_plain : Plain (g.between script depth B)
  between_plain = valued_plain tree.between_bounds (both_plain (token_plain k.Between) (both_plain cat_plain (both_plain (token_plain k.And) cat_plain)))

  pub among_plain : Plain (g.among script depth B)
  among_plain = valued_plain tree.among (both_plain (token_plain k.In) (both_plain (opening_plain depth k.Open) (both_plain (commas_plain x) (token_plain k.Close))))

  pub range_plain : Plain (g.range script depth B)
  range_plain = valued_plain tree.maybe_not (both_plain (maybe_plain (token_plain k.Not)) (either_plain between_plain among_plain))

  pub test_plain : Plain (g.test script depth B)
  test_plain = valued_plain tree.tested (both_plain cat_plain (maybe_plain (either_plain comparison_plain (either_plain question_plain range_plain))))

  pub negation_plain : Plain (g.negation script depth B)
  negation_plain = valued_plain tree.all_prefixed (both_plain (many_plain (token_plain k.Not)) test_plain)

  pub conjunction_plain : Plain (g.conjunction script depth B)
  conjunction_plain = chain_plain tree.all_joined (is k.And) negation_plain

  pub disjunction_plain : Plain (g.disjunction script depth B)
  disjunction_plain = chain_plain tree.all_joined (is k.Or) conjunction_plain

pub inside_plain : (script : List ℕ) (depth : ℕ) → Plain (g.inside script depth)
unfolding g.inside
inside_plain script zero = never_plain
inside_plain script (suc depth) = disjunction_plain script depth (inside_plain script depth)

pub expr_plain : (script : List ℕ) (depth : ℕ) → Plain (g.expr script depth)
expr_plain script depth = disjunction_plain script depth (inside_plain script depth)

pub any_expr_plain : (script : List ℕ) → Plain (g.any_expr script)
unfolding g.any_expr
any_expr_plain script = record { local = any_local (g.expr script) (λ n. (expr_plain script n).local); cuts = any_cuts (g.expr script) (λ n. (expr_plain script n).cuts) }

pub expression_plain : (script : List ℕ) → Plain (g.expression script)
unfolding g.expression
expression_plain script = limit_plain 1000 (expr_plain script 64)
