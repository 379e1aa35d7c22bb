-- Of each production: what begins it goes on to what it derives, where one more bracket may be opened.
use Rattle.std.proofs.Common.{◌≡◌, ℕ, zero, suc, Bool, true, List, [], ◌∷◌, refl}
use Rattle.std.specs.Prelude.{Some, None}
use Rattle.token_lang.specs.Lang.{Lang, one, both, valued}
use Rattle.token_lang.specs.Exact.{Local, Grows}
use Rattle.token_lang.specs.Meets.{Plain}
use Rattle.token_lang.proofs.Place.{one_local, both_local, many_local}
use Rattle.token_lang.proofs.All.{one_plain, maybe_plain}
use Rattle.token_lang.proofs.Grow.{one_grows, nothing_grows, never_grows, both_grows, either_grows, valued_grows, many_grows, limit_grows, any_grows, all_grow}
use Rattle.sql_tree.specs.declared.token.Kind.{Kind}
use Rattle.sql_tree.specs.declared.token.Kind.TheVariants as k
use Rattle.sql_tree.specs.declared.token.Token.{Token}
use Rattle.sql_tree.specs.declared.tree.Expr.{Expr}
use Rattle.sql_tree.specs.declared.tree.WrittenType.{WrittenType}
use Rattle.sql_tree.specs.Kinds.{is, any, names, names_alone, is_value, compares, multiplies, signs, is_truth, is_plain_type, is_text, dates}
use Rattle.sql_grammar.specs.Create.{lone_type}
use Rattle.sql_grammar.specs.Grammar as g
use Rattle.sql_grammar.specs.Reading.{run_inside, run_type_inside}
use Rattle.sql_grammar.specs.Tree as tree
use Rattle.sql_grammar.proofs.Readers.{inside_leads, type_inside_leads}
use Rattle.sql_grammar.proofs.Fronts.{opening_plain, next_plain, some_plain, commas_plain, type_inside_plain, branch_plain, otherwise_plain, sign_plain, prod_plain, sum_plain, cat_plain, negation_plain, conjunction_plain, inside_plain}

-- a token of a kind
abbrev pub a : Kind → Token
a kind = record { kind = kind; span = record { start = 0; end = 0 } }

-- some token of a class
pub class_grows : (class : Kind → Bool) (kind : Kind) → class kind ≡ true → Grows (one (any class)) (one (any class))
class_grows class kind h = one_grows (any class) (a kind) h

pub token_grows : (kind : Kind) → is kind (a kind) ≡ true → Grows (g.token kind) (g.token kind)
token_grows kind h = one_grows (is kind) (a kind) h

pub token_local : (kind : Kind) → Local (g.token kind)
token_local kind = one_local (is kind)

opening_grows : (depth : ℕ) (kind : Kind) → is kind (a kind) ≡ true → Grows (g.opening depth kind) (g.opening (suc depth) kind)
unfolding g.opening
opening_grows zero kind h = never_grows (g.opening 1 kind) (a kind ∷ [], a kind, (refl, h))
opening_grows (suc depth) kind h = token_grows kind h

open_local : (depth : ℕ) (kind : Kind) → Local (g.opening depth kind)
open_local depth kind = (opening_plain depth kind).local

pub maybe_grows : {A : Type 0} {D D' : Lang Token A} → Grows D D' → Grows (g.maybe D) (g.maybe D')
maybe_grows x = either_grows (valued_grows Some x) (valued_grows (λ _. None) nothing_grows)

pub maybe_local : {A : Type 0} {D : Lang Token A} → Plain D → Local (g.maybe D)
maybe_local x = (maybe_plain x).local

chain_grows : {D D' : Lang Token Expr} (operator : Token → Bool) (t : Token) → operator t ≡ true → Grows D D' → Local D' → Grows (g.chain operator D) (g.chain operator D')
chain_grows operator t h x l =
    let each = both_local (one_local operator) l in
    valued_grows tree.all_joined (both_grows x (many_grows (both_grows (one_grows operator t h) x (one_local operator)) each) l)

signed_grows : {D D' : Lang Token Expr} (sign : Token → Bool) (t : Token) → sign t ≡ true → Grows D D' → Grows (g.signed sign D) (g.signed sign D')
signed_grows sign t h x = valued_grows tree.all_prefixed (both_grows (many_grows (one_grows sign t h) (one_local sign)) x (many_local (one_local sign)))

module _ {A : Type 0} {D D' : Lang Token A} (x : Grows D D') (l : Plain D') where
  some_grows : Grows (g.some D) (g.some D')
  some_grows = valued_grows g.list (both_grows x (many_grows x l.local) l.local)

  next_grows : Grows (valued g.second (both (g.token k.Comma) D)) (valued g.second (both (g.token k.Comma) D'))
  next_grows = valued_grows g.second (both_grows (token_grows k.Comma refl) x (token_local k.Comma))

  pub commas_grows : Grows (g.commas D) (g.commas D')
  commas_grows = valued_grows g.list (both_grows x (many_grows next_grows (next_plain l).local) l.local)

-- ---- versions

version_grows : (script : List ℕ) → Grows (g.version script) (g.version script)
version_grows script = valued_grows (tree.version script) (token_grows k.Whole refl)

pub at_version_grows : (script : List ℕ) → Grows (g.at_version script) (g.at_version script)
at_version_grows script = valued_grows tree.at_version (both_grows (token_grows k.Version refl) (both_grows (token_grows k.As refl)
    (both_grows (token_grows k.Of refl) (version_grows script) (token_local k.Of)) (token_local k.As)) (token_local k.Version))

-- ---- types

type_goes_on : (script : List ℕ) (n m : ℕ) → Grows (g.opening n k.Open) (g.opening m k.Open) → Grows (g.written_type script n) (g.written_type script m)
type_goes_on script n m opens = either_grows (valued_grows tree.plain_type (class_grows is_plain_type k.Boolean refl))
    (valued_grows (tree.decimal_type script) (both_grows (token_grows k.DecimalWord refl) (both_grows opens
    (both_grows (token_grows k.Whole refl) (both_grows (token_grows k.Comma refl) (both_grows (token_grows k.Whole refl) (token_grows k.Close refl) (token_local k.Whole))
    (token_local k.Comma)) (token_local k.Whole)) (open_local m k.Open)) (token_local k.DecimalWord)))

type_grows : (script : List ℕ) (depth : ℕ) → Grows (g.written_type script depth) (g.written_type script (suc depth))
type_grows script depth = type_goes_on script depth (suc depth) (opening_grows depth k.Open refl)

one_opening : Grows (g.opening 1 k.Open) (g.opening 1 k.Open)
unfolding g.opening
one_opening = token_grows k.Open refl

pub lone_type_grows : (script : List ℕ) → Grows (lone_type script) (lone_type script)
lone_type_grows script = type_goes_on script 1 1 one_opening

a_type : (script : List ℕ) → (ts : List Token) × (t : WrittenType) × (g.type_inside script 1).reads ts t []
unfolding g.type_inside run_type_inside
a_type script = let ts = a k.Boolean ∷ [] in (ts, tree.plain_type (a k.Boolean), (type_inside_leads script 1).meets.exact.fits ts)

type_inside_grows : (script : List ℕ) (depth : ℕ) → Grows (g.type_inside script depth) (g.type_inside script (suc depth))
unfolding g.type_inside
type_inside_grows script zero = never_grows (g.type_inside script 1) (a_type script)
type_inside_grows script (suc depth) = type_grows script depth

question_grows : Grows g.question g.question
question_grows = valued_grows tree.asked (both_grows (token_grows k.Is refl) (both_grows (maybe_grows (token_grows k.Not refl)) (class_grows is_truth k.Null refl) (maybe_local (one_plain (is k.Not)))) (token_local k.Is))

-- ---- expressions

module _ (script : List ℕ) (depth : ℕ) {B B' : Lang Token Expr} (x : Grows B B') (l : Plain B') where
  group_grows : Grows (g.group script depth B) (g.group script (suc depth) B')
  group_grows = valued_grows tree.grouped (both_grows (opening_grows depth k.Open refl) (both_grows x (token_grows k.Close refl) l.local) (open_local (suc depth) k.Open))

  arguments_grows : Grows (g.arguments script depth B) (g.arguments script (suc depth) B')
  arguments_grows = valued_grows (tree.called script) (both_grows (opening_grows depth k.Open refl)
      (both_grows (maybe_grows (commas_grows x l)) (token_grows k.Close refl) (maybe_local (commas_plain l))) (open_local (suc depth) k.Open))

  tail_grows : Grows (g.tail script depth B) (g.tail script (suc depth) B')
  tail_grows = either_grows (valued_grows (tree.qualified script) (both_grows (token_grows k.Dot refl) (class_grows names k.Name refl) (token_local k.Dot))) arguments_grows

  dated_grows : Grows (g.dated script depth B) (g.dated script (suc depth) B')
  dated_grows = valued_grows (tree.named script) (both_grows (class_grows dates k.Date refl) (maybe_grows (either_grows (valued_grows (tree.dated script) (class_grows is_text k.Text refl)) tail_grows)) (one_local (any dates)))

  named_grows : Grows (g.named script depth B) (g.named script (suc depth) B')
  named_grows = valued_grows (tree.named script) (both_grows (class_grows names_alone k.Name refl) (maybe_grows tail_grows) (one_local (any names_alone)))

  branch_grows : Grows (g.branch script depth B) (g.branch script (suc depth) B')
  branch_grows = valued_grows tree.branched (both_grows (token_grows k.When refl) (both_grows x (both_grows (token_grows k.Then refl) x (token_local k.Then)) l.local) (token_local k.When))

  otherwise_grows : Grows (g.otherwise script depth B) (g.otherwise script (suc depth) B')
  otherwise_grows = valued_grows g.second (both_grows (token_grows k.Else refl) x (token_local k.Else))

  case_grows : Grows (g.case script depth B) (g.case script (suc depth) B')
  case_grows =
      let branch = branch_plain script (suc depth) l in
      let end = both_grows (maybe_grows otherwise_grows) (token_grows k.End refl) (maybe_local (otherwise_plain script (suc depth) l)) in
      valued_grows tree.cased (both_grows (opening_grows depth k.Case refl) (both_grows (some_grows branch_grows branch) end (some_plain branch).local) (open_local (suc depth) k.Case))

  cast_grows : Grows (g.cast script depth B) (g.cast script (suc depth) B')
  cast_grows = valued_grows tree.cast_to (both_grows (token_grows k.Cast refl) (both_grows (opening_grows depth k.Open refl) (both_grows x (both_grows (token_grows k.As refl)
      (both_grows (type_inside_grows script depth) (token_grows k.Close refl) (type_inside_plain script (suc depth)).local) (token_local k.As)) l.local) (open_local (suc depth) k.Open)) (token_local k.Cast))

  primary_grows : Grows (g.primary script depth B) (g.primary script (suc depth) B')
  primary_grows = either_grows (valued_grows (tree.literal script) (class_grows is_value k.Whole refl)) (either_grows dated_grows (either_grows group_grows (either_grows named_grows (either_grows case_grows cast_grows))))

  sign_grows : Grows (g.sign script depth B) (g.sign script (suc depth) B')
  sign_grows = signed_grows (any signs) (a k.Plus) refl primary_grows

  prod_grows : Grows (g.prod script depth B) (g.prod script (suc depth) B')
  prod_grows = chain_grows (any multiplies) (a k.Star) refl sign_grows (sign_plain script (suc depth) l).local

  sum_grows : Grows (g.sum script depth B) (g.sum script (suc depth) B')
  sum_grows = chain_grows (any signs) (a k.Plus) refl prod_grows (prod_plain script (suc depth) l).local

  cat_grows : Grows (g.cat script depth B) (g.cat script (suc depth) B')
  cat_grows = chain_grows (is k.Concat) (a k.Concat) refl sum_grows (sum_plain script (suc depth) l).local

  comparison_grows : Grows (g.comparison script depth B) (g.comparison script (suc depth) B')
  comparison_grows = valued_grows tree.compared (both_grows (class_grows compares k.Equal refl) cat_grows (one_local (any compares)))

  between_grows : Grows (g.between script depth B) (g.between script (suc depth) B')
  between_grows = valued_grows tree.between_bounds (both_grows (token_grows k.Between refl) (both_grows cat_grows (both_grows (token_grows k.And refl) cat_grows (token_local k.And)) (cat_plain script (suc depth) l).local) (token_local k.Between))

  among_grows : Grows (g.among script depth B) (g.among script (suc depth) B')
  among_grows = valued_grows tree.among (both_grows (token_grows k.In refl) (both_grows (opening_grows depth k.Open refl) (both_grows (commas_grows x l) (token_grows k.Close refl) (commas_plain l).local) (open_local (suc depth) k.Open)) (token_local k.In))

  range_grows : Grows (g.range script depth B) (g.range script (suc depth) B')
  range_grows = valued_grows tree.maybe_not (both_grows (maybe_grows (token_grows k.Not refl)) (either_grows between_grows among_grows) (maybe_local (one_plain (is k.Not))))

  test_grows : Grows (g.test script depth B) (g.test script (suc depth) B')
  test_grows = valued_grows tree.tested (both_grows cat_grows (maybe_grows (either_grows comparison_grows (either_grows question_grows range_grows))) (cat_plain script (suc depth) l).local)

  negation_grows : Grows (g.negation script depth B) (g.negation script (suc depth) B')
  negation_grows = signed_grows (is k.Not) (a k.Not) refl test_grows

  conjunction_grows : Grows (g.conjunction script depth B) (g.conjunction script (suc depth) B')
  conjunction_grows = chain_grows (is k.And) (a k.And) refl negation_grows (negation_plain script (suc depth) l).local

  disjunction_grows : Grows (g.disjunction script depth B) (g.disjunction script (suc depth) B')
  disjunction_grows = chain_grows (is k.Or) (a k.Or) refl conjunction_grows (conjunction_plain script (suc depth) l).local

-- an expression of one name
an_expr : (script : List ℕ) → (ts : List Token) × (e : Expr) × (g.inside script 1).reads ts e []
unfolding g.inside run_inside
an_expr script = let ts = a k.Name ∷ [] in (ts, tree.column script (a k.Name), (inside_leads script 1).meets.exact.fits ts)

inside_grows : (script : List ℕ) (depth : ℕ) → Grows (g.inside script depth) (g.inside script (suc depth))
unfolding g.inside
inside_grows script zero = never_grows (g.inside script 1) (an_expr script)
inside_grows script (suc depth) = disjunction_grows script depth (inside_grows script depth) (inside_plain script (suc depth))

expr_grows : (script : List ℕ) (depth : ℕ) → Grows (g.expr script depth) (g.any_expr script)
unfolding g.any_expr
expr_grows script depth = any_grows (g.expr script) depth (disjunction_grows script depth (inside_grows script depth) (inside_plain script (suc depth)))

pub any_expr_grows : (script : List ℕ) → Grows (g.any_expr script) (g.any_expr script)
unfolding g.any_expr
any_expr_grows script = all_grow (g.expr script) (expr_grows script)

pub expression_grows : (script : List ℕ) → Grows (g.expression script) (g.any_expr script)
unfolding g.expression
expression_grows script = limit_grows 1000 (expr_grows script 64)
