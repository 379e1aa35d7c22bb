-- Each production is read by its reader. The side conditions are those of a grammar that is read with one token in view:
-- no token may both go on with one part and begin the next. They are computed over all kinds.
use Rattle.std.proofs.Common.{ℕ, zero, suc, Bool, false, List, refl}
use Rattle.std.specs.Prelude.{◌||◌}
use Rattle.token_lang.specs.Lang.{Lang, both, either, valued}
use Rattle.token_lang.specs.Run.{Reader}
use Rattle.token_lang.specs.Exact.{Apart}
use Rattle.token_lang.specs.Meets.{Meets, Leads}
use Rattle.token_lang.proofs.All.{one_leads, never_leads, goes_leads, valued_leads, both_leads, then_maybe_leads, maybe_then_leads, either_leads, many_meets, maybe_meets, limit_leads, chain_leads}
use Rattle.sql_tree.specs.declared.token.Kind.{Kind}
use Rattle.sql_tree.specs.declared.token.Kind.TheVariants as k
use Rattle.sql_tree.specs.declared.token.Token.{Token}
use Rattle.sql_tree.specs.declared.tree.Expr.{Expr}
use Rattle.sql_tree.specs.Kinds.{is, any, names, names_alone, is_value, compares, multiplies, signs, is_truth, is_plain_type, is_text, dates}
use Rattle.sql_tree.proofs.KindLaws.{apart, among}
use Rattle.sql_grammar.specs.Grammar as g
use Rattle.sql_grammar.specs.Reading as r
use Rattle.sql_grammar.specs.Reading.{first_tail, first_dated_tail, first_range, first_predicate, first_primary, first_expr}
use Rattle.sql_grammar.specs.Tree as tree

-- the set of no tokens
abbrev pub none : Token → Bool
none t = false

-- what an operand with its signs begins with
abbrev pub first_sign : Token → Bool
first_sign t = any signs t || first_primary t

abbrev pub after_prod : Token → Bool
after_prod t = any multiplies t || first_dated_tail t

abbrev pub after_sum : Token → Bool
after_sum t = any signs t || after_prod t

abbrev pub after_cat : Token → Bool
after_cat t = is k.Concat t || after_sum t

abbrev pub after_test : Token → Bool
after_test t = first_predicate t || after_cat t

abbrev pub after_conjunction : Token → Bool
after_conjunction t = is k.And t || after_test t

-- what an expression may go on with
abbrev pub after_expr : Token → Bool
after_expr t = is k.Or t || after_conjunction t

abbrev pub token_leads : (kind : Kind) → Leads (g.token kind) (r.run_token kind) (is kind) none
token_leads kind = one_leads (is kind)

pub opening_leads : (depth : ℕ) (kind : Kind) → Leads (g.opening depth kind) (r.run_opening depth kind) (is kind) none
unfolding g.opening r.run_opening
opening_leads zero kind = never_leads (is kind) none
opening_leads (suc depth) kind = one_leads (is kind)

-- ---- lists

module _ {A : Type 0} {D : Lang Token A} {f : Reader Token A} {first goes : Token → Bool} (x : Leads D f first goes) where
  pub next_leads : Leads (valued g.second (both (g.token k.Comma) D)) (r.run_next f) (is k.Comma) goes
  next_leads = valued_leads g.second (both_leads (token_leads k.Comma) x (λ t _. refl))

  pub commas_leads : Apart (is k.Comma) goes → Leads (g.commas D) (r.run_commas f) first (λ t. goes t || (is k.Comma t || goes t))
  commas_leads apart = valued_leads g.list (then_maybe_leads x (many_meets next_leads apart) apart)

-- ---- versions

pub version_leads : (script : List ℕ) → Leads (g.version script) (r.run_version script) (is k.Whole) none
version_leads script = valued_leads (tree.version script) (token_leads k.Whole)

pub at_version_leads : (script : List ℕ) → Leads (g.at_version script) (r.run_at_version script) (is k.Version) none
at_version_leads script = valued_leads tree.at_version (both_leads (token_leads k.Version) (both_leads (token_leads k.As)
    (both_leads (token_leads k.Of) (version_leads script) (λ t _. refl)) (λ t _. refl)) (λ t _. refl))

-- ---- types

pub type_leads : (script : List ℕ) (depth : ℕ) → Leads (g.written_type script depth) (r.run_type script depth) (λ t. any is_plain_type t || is k.DecimalWord t) none
type_leads script depth = either_leads (valued_leads tree.plain_type (one_leads (any is_plain_type)))
    (valued_leads (tree.decimal_type script) (both_leads (token_leads k.DecimalWord) (both_leads (opening_leads depth k.Open) (both_leads (token_leads k.Whole)
    (both_leads (token_leads k.Comma) (both_leads (token_leads k.Whole) (token_leads k.Close) (λ t _. refl)) (λ t _. refl)) (λ t _. refl)) (λ t _. refl)) (λ t _. refl)))
    (apart _ _ (λ s. refl))

pub type_inside_leads : (script : List ℕ) (depth : ℕ) → Leads (g.type_inside script depth) (r.run_type_inside script depth) (λ t. any is_plain_type t || is k.DecimalWord t) none
unfolding g.type_inside r.run_type_inside
type_inside_leads script zero = never_leads _ _
type_inside_leads script (suc depth) = type_leads script depth

-- ---- expressions

maybe_not_meets : Meets (g.maybe (g.token k.Not)) r.run_maybe_not (is k.Not) (λ t. is k.Not t || false)
maybe_not_meets = maybe_meets (token_leads k.Not)

pub question_leads : Leads g.question r.run_question (is k.Is) none
question_leads = valued_leads tree.asked (both_leads (token_leads k.Is) (maybe_then_leads maybe_not_meets (one_leads (any is_truth)) (apart _ _ (λ s. refl))) (λ t _. refl))

module _ (script : List ℕ) (depth : ℕ) {B : Lang Token Expr} {f : Reader Token Expr} (x : Leads B f first_expr after_expr) where
  pub group_leads : Leads (g.group script depth B) (r.run_group script depth f) (is k.Open) none
  group_leads = valued_leads tree.grouped (both_leads (opening_leads depth k.Open) (both_leads x (token_leads k.Close) (apart _ _ (λ s. refl))) (λ t _. refl))

  -- expressions and commas
  pub list_leads : Leads (g.commas B) (r.run_commas f) first_expr (λ t. is k.Comma t || after_expr t)
  list_leads = goes_leads (λ t. is k.Comma t || after_expr t) (among _ _ (λ s. refl)) (commas_leads x (apart _ _ (λ s. refl)))

  pub arguments_leads : Leads (g.arguments script depth B) (r.run_arguments script depth f) (is k.Open) none
  arguments_leads = valued_leads (tree.called script) (both_leads (opening_leads depth k.Open)
      (maybe_then_leads (maybe_meets list_leads) (token_leads k.Close) (apart _ _ (λ s. refl))) (λ t _. refl))

  pub tail_leads : Leads (g.tail script depth B) (r.run_tail script depth f) first_tail none
  tail_leads = either_leads (valued_leads (tree.qualified script) (both_leads (token_leads k.Dot) (one_leads (any names)) (λ t _. refl))) arguments_leads (apart _ _ (λ s. refl))

  pub dated_leads : Leads (g.dated script depth B) (r.run_dated script depth f) (any dates) first_dated_tail
  dated_leads =
      let end = either_leads (valued_leads (tree.dated script) (one_leads (any is_text))) tail_leads (apart _ _ (λ s. refl)) in
      goes_leads first_dated_tail (among _ _ (λ s. refl)) (valued_leads (tree.named script) (then_maybe_leads (one_leads (any dates)) (maybe_meets end) (λ t _. refl)))

  pub named_leads : Leads (g.named script depth B) (r.run_named script depth f) (any names_alone) first_tail
  named_leads = goes_leads first_tail (among _ _ (λ s. refl)) (valued_leads (tree.named script) (then_maybe_leads (one_leads (any names_alone)) (maybe_meets tail_leads) (λ t _. refl)))

  pub branch_leads : Leads (g.branch script depth B) (r.run_branch script depth f) (is k.When) after_expr
  branch_leads = valued_leads tree.branched (both_leads (token_leads k.When) (both_leads x (both_leads (token_leads k.Then) x (λ t _. refl)) (apart _ _ (λ s. refl))) (λ t _. refl))

  pub branches_leads : Leads (g.some (g.branch script depth B)) (r.run_branches script depth f) (is k.When) (λ t. is k.When t || after_expr t)
  branches_leads = goes_leads (λ t. is k.When t || after_expr t) (among _ _ (λ s. refl))
      (valued_leads g.list (then_maybe_leads branch_leads (many_meets branch_leads (apart _ _ (λ s. refl))) (apart _ _ (λ s. refl))))

  pub otherwise_leads : Leads (g.otherwise script depth B) (r.run_otherwise script depth f) (is k.Else) after_expr
  otherwise_leads = valued_leads g.second (both_leads (token_leads k.Else) x (λ t _. refl))

  pub case_leads : Leads (g.case script depth B) (r.run_case script depth f) (is k.Case) none
  case_leads = valued_leads tree.cased (both_leads (opening_leads depth k.Case) (both_leads branches_leads
      (maybe_then_leads (maybe_meets otherwise_leads) (token_leads k.End) (apart _ _ (λ s. refl))) (apart _ _ (λ s. refl))) (λ t _. refl))

  pub cast_leads : Leads (g.cast script depth B) (r.run_cast script depth f) (is k.Cast) none
  cast_leads = valued_leads tree.cast_to (both_leads (token_leads k.Cast) (both_leads (opening_leads depth k.Open) (both_leads x (both_leads (token_leads k.As)
      (both_leads (type_inside_leads script depth) (token_leads k.Close) (λ t _. refl)) (λ t _. refl)) (apart _ _ (λ s. refl))) (λ t _. refl)) (λ t _. refl))

  pub primary_leads : Leads (g.primary script depth B) (r.run_primary script depth f) first_primary first_dated_tail
  primary_leads = goes_leads first_dated_tail (among _ _ (λ s. refl)) (either_leads (valued_leads (tree.literal script) (one_leads (any is_value)))
      (either_leads dated_leads (either_leads group_leads (either_leads named_leads (either_leads case_leads cast_leads
      (apart _ _ (λ s. refl))) (apart _ _ (λ s. refl))) (apart _ _ (λ s. refl))) (apart _ _ (λ s. refl))) (apart _ _ (λ s. refl)))

  pub sign_leads : Leads (g.sign script depth B) (r.run_sign script depth f) first_sign first_dated_tail
  sign_leads = valued_leads tree.all_prefixed (maybe_then_leads (many_meets (one_leads (any signs)) (λ t _. refl)) primary_leads (apart _ _ (λ s. refl)))

  pub prod_leads : Leads (g.prod script depth B) (r.run_prod script depth f) first_sign after_prod
  prod_leads = chain_leads tree.all_joined (any multiplies) sign_leads (apart _ _ (λ s. refl))

  pub sum_leads : Leads (g.sum script depth B) (r.run_sum script depth f) first_sign after_sum
  sum_leads = chain_leads tree.all_joined (any signs) prod_leads (apart _ _ (λ s. refl))

  pub cat_leads : Leads (g.cat script depth B) (r.run_cat script depth f) first_sign after_cat
  cat_leads = chain_leads tree.all_joined (is k.Concat) sum_leads (apart _ _ (λ s. refl))

  pub comparison_leads : Leads (g.comparison script depth B) (r.run_comparison script depth f) (any compares) after_cat
  comparison_leads = valued_leads tree.compared (both_leads (one_leads (any compares)) cat_leads (λ t _. refl))

  pub between_leads : Leads (g.between script depth B) (r.run_between script depth f) (is k.Between) after_cat
  between_leads = valued_leads tree.between_bounds (both_leads (token_leads k.Between) (both_leads cat_leads (both_leads (token_leads k.And) cat_leads (λ t _. refl)) (apart _ _ (λ s. refl))) (λ t _. refl))

  pub among_leads : Leads (g.among script depth B) (r.run_among script depth f) (is k.In) none
  among_leads = valued_leads tree.among (both_leads (token_leads k.In) (both_leads (opening_leads depth k.Open) (both_leads list_leads (token_leads k.Close) (apart _ _ (λ s. refl))) (λ t _. refl)) (λ t _. refl))

  pub range_leads : Leads (g.range script depth B) (r.run_range script depth f) first_range after_cat
  range_leads = goes_leads after_cat (among _ _ (λ s. refl)) (valued_leads tree.maybe_not (maybe_then_leads maybe_not_meets (either_leads between_leads among_leads (apart _ _ (λ s. refl))) (apart _ _ (λ s. refl))))

  pub predicate_leads : Leads (either (g.comparison script depth B) (either g.question (g.range script depth B))) (r.run_predicate script depth f) first_predicate after_cat
  predicate_leads = goes_leads after_cat (among _ _ (λ s. refl)) (either_leads comparison_leads (either_leads question_leads range_leads (apart _ _ (λ s. refl))) (apart _ _ (λ s. refl)))

  pub test_leads : Leads (g.test script depth B) (r.run_test script depth f) first_sign after_test
  test_leads = goes_leads after_test (among _ _ (λ s. refl)) (valued_leads tree.tested (then_maybe_leads cat_leads (maybe_meets predicate_leads) (apart _ _ (λ s. refl))))

  pub negation_leads : Leads (g.negation script depth B) (r.run_negation script depth f) first_expr after_test
  negation_leads = valued_leads tree.all_prefixed (maybe_then_leads (many_meets (token_leads k.Not) (λ t _. refl)) test_leads (apart _ _ (λ s. refl)))

  pub conjunction_leads : Leads (g.conjunction script depth B) (r.run_conjunction script depth f) first_expr after_conjunction
  conjunction_leads = chain_leads tree.all_joined (is k.And) negation_leads (apart _ _ (λ s. refl))

  pub disjunction_leads : Leads (g.disjunction script depth B) (r.run_disjunction script depth f) first_expr after_expr
  disjunction_leads = chain_leads tree.all_joined (is k.Or) conjunction_leads (apart _ _ (λ s. refl))

pub inside_leads : (script : List ℕ) (depth : ℕ) → Leads (g.inside script depth) (r.run_inside script depth) first_expr after_expr
unfolding g.inside r.run_inside
inside_leads script zero = never_leads first_expr after_expr
inside_leads script (suc depth) = disjunction_leads script depth (inside_leads script depth)

pub expr_leads : (script : List ℕ) (depth : ℕ) → Leads (g.expr script depth) (r.run_expr script depth) first_expr after_expr
expr_leads script depth = disjunction_leads script depth (inside_leads script depth)

pub expression_leads : (script : List ℕ) → Leads (g.expression script) (r.run_expression script) first_expr after_expr
unfolding g.expression
expression_leads script = limit_leads 1000 (expr_leads script 64)
