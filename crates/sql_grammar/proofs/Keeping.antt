-- Of each production: from tokens that stand in the script it makes a tree that the script holds.
use Rattle.std.proofs.Common.{◌≡◌, ℕ, zero, suc, Bool, true, List, [], ◌∷◌, length}
use Rattle.std.specs.Prelude.{fold, Option, Some, None, IfSome, is_some}
use Rattle.std.specs.List.{AllByRecursion}
use Rattle.std.proofs.lemmas.List.Elements.{recursion_from_All}
use Rattle.sql_lex.specs.Content.{Means, AreMeant}
use Rattle.sql_lex.specs.Stand.{AreParts}
use Rattle.token_lang.specs.Lang.{Lang, one}
use Rattle.token_lang.proofs.Keeps.{Keeps, one_keeps, never_keeps, valued_keeps, both_keeps, either_keeps, many_keeps, maybe_keeps, at_most_keeps}
use Rattle.sql_tree.specs.Places.{IsPlaced, slice}
use Rattle.sql_tree.specs.Spans.{span_of}
use Rattle.sql_tree.specs.declared.token.Kind.{Kind}
use Rattle.sql_tree.specs.declared.token.Kind.TheVariants as k
use Rattle.sql_tree.specs.declared.token.Token.{Token}
use Rattle.sql_tree.specs.declared.tree.Expr.{Expr}
use Rattle.sql_tree.specs.Kinds.{is, any, names, names_alone, is_value, compares, multiplies, signs, is_truth, is_plain_type, is_text, dates}
use Rattle.sql_grammar.specs.Grammar as g
use Rattle.sql_grammar.specs.Tree as tree
use Rattle.sql_grammar.specs.Held.{HoldsVersion, HoldsType, HoldsExpr}
use Rattle.sql_grammar.proofs.Holding.{Stands, HoldsBranch, placed, joined_place, expr_placed, alone_named, date_named, version_held, plain_held, decimal_held, group_held, literal_held, in_held, case_held, prefixed_held, joined_held, is_held, not_placed, between_held, cast_held, column_held, qualified_held, call_held, dated_held}

module _ (script : List ℕ) where
  -- what stands behind a name, an operand, and an operand with the NOT behind it
  abbrev HoldsTail : (Token → Expr) → Type 0
  HoldsTail f = (name : Token) → Stands script name → names name.kind ≡ true → HoldsExpr script (f name)

  abbrev HoldsBehind : (Expr → Expr) → Type 0
  HoldsBehind f = (x : Expr) → HoldsExpr script x → HoldsExpr script (f x)

  abbrev HoldsRange : (Option Token → Expr → Expr) → Type 0
  HoldsRange f = (not : Option Token) → IfSome not (Stands script) → (x : Expr) → HoldsExpr script x → HoldsExpr script (f not x)

  -- a token that stands in the script, of a class
  abbrev pub IsOf : (Token → Bool) → Token → Type 0
  IsOf class t = Stands script t × (class t ≡ true)

  abbrev pub Keep : {A : Type 0} → Lang Token A → (A → Type 0) → Type 0
  Keep D Q = Keeps (Stands script) D Q

  pub token : (kind : Kind) → Keep (g.token kind) (IsOf (is kind))
  token kind = one_keeps (is kind)

  pub class : (of : Kind → Bool) → Keep (one (any of)) (IsOf (any of))
  class of = one_keeps (any of)

  opening : (depth : ℕ) (kind : Kind) → Keep (g.opening depth kind) (IsOf (is kind))
  unfolding g.opening
  opening zero kind = never_keeps
  opening (suc depth) kind = one_keeps (is kind)

  pub commas : {A : Type 0} {D : Lang Token A} {Q : A → Type 0} → Keep D Q → Keep (g.commas D) (AllByRecursion Q)
  commas x = valued_keeps (both_keeps x (many_keeps (valued_keeps (both_keeps (token k.Comma) x) g.second (λ p h. h.1)))) g.list (λ p h. h)

  some : {A : Type 0} {D : Lang Token A} {Q : A → Type 0} → Keep D Q → Keep (g.some D) (AllByRecursion Q)
  some x = valued_keeps (both_keeps x (many_keeps x)) g.list (λ p h. h)

  chain_held : (x : Expr) (ps : List (Token × Expr)) (operator : Token → Bool) → HoldsExpr script x → AllByRecursion (λ (p : Token × Expr). IsOf operator p.0 × HoldsExpr script p.1) ps → HoldsExpr script (fold tree.joined x ps)
  chain_held x [] operator h hs = h
  chain_held x (p ∷ ps) operator h hs = chain_held (tree.joined x p) ps operator (joined_held script x p.0 p.1 h hs.0.0.0 hs.0.1) hs.1

  chain : {D : Lang Token Expr} (operator : Token → Bool) → Keep D (HoldsExpr script) → Keep (g.chain operator D) (HoldsExpr script)
  chain operator x = valued_keeps (both_keeps x (many_keeps (both_keeps (one_keeps operator) x))) tree.all_joined (λ p h. chain_held p.0 p.1 operator h.0 h.1)

  signs_held : (ts : List Token) (x : Expr) (sign : Token → Bool) → AllByRecursion (IsOf sign) ts → HoldsExpr script x → HoldsExpr script (tree.all_prefixed (ts, x))
  signs_held [] x sign hs h = h
  signs_held (t ∷ ts) x sign hs h = prefixed_held script t (tree.all_prefixed (ts, x)) hs.0.0 (signs_held ts x sign hs.1 h)

  signed : {D : Lang Token Expr} (sign : Token → Bool) → Keep D (HoldsExpr script) → Keep (g.signed sign D) (HoldsExpr script)
  signed sign x = valued_keeps (both_keeps (many_keeps (one_keeps sign)) x) tree.all_prefixed (λ p h. signs_held p.0 p.1 sign h.0 h.1)

  -- ---- versions

  version : Keep (g.version script) (HoldsVersion script)
  version = valued_keeps (token k.Whole) (tree.version script) (λ t h. version_held script t h.0 h.1)

  pub at_version : Keep (g.at_version script) (HoldsVersion script)
  at_version = valued_keeps (both_keeps (token k.Version) (both_keeps (token k.As) (both_keeps (token k.Of) version))) tree.at_version (λ p h. h.1.1.1)

  -- ---- types

  pub written : (depth : ℕ) → Keep (g.written_type script depth) (HoldsType script)
  written depth = either_keeps (valued_keeps (class is_plain_type) tree.plain_type (λ t h. plain_held script t h.0))
      (valued_keeps (both_keeps (token k.DecimalWord) (both_keeps (opening depth k.Open) (both_keeps (token k.Whole) (both_keeps (token k.Comma) (both_keeps (token k.Whole) (token k.Close))))))
      (tree.decimal_type script) (λ p h. decimal_held script p.0 p.1.0 p.1.1.0 p.1.1.1.0 p.1.1.1.1.0 p.1.1.1.1.1 h.0.0 h.1.1.0.0 h.1.1.0.1 h.1.1.1.1.0.0 h.1.1.1.1.0.1 h.1.1.1.1.1.0))

  type_inside : (depth : ℕ) → Keep (g.type_inside script depth) (HoldsType script)
  unfolding g.type_inside
  type_inside zero = never_keeps
  type_inside (suc depth) = written depth

  -- ---- expressions

  question : Keep g.question HoldsBehind
  question = valued_keeps (both_keeps (token k.Is) (both_keeps (maybe_keeps (token k.Not)) (class is_truth))) tree.asked
      (λ p h x hx. is_held script x p.0 p.1.1 (is_some p.1.0) hx h.0.0 h.1.1.0)

  only_stands : (o : Option Token) (kinds : Token → Bool) → IfSome o (IsOf kinds) → IfSome o (Stands script)
  only_stands None kinds h = tt
  only_stands (Some t) kinds h = h.0

  span_to : (a b : Token) → Stands script a → Stands script b → IsPlaced (length script) (tree.to a.span b.span)
  span_to a b p q = joined_place (length script) a.span b.span (placed (length script) a.span p.part) (placed (length script) b.span q.part)

  list_held : (o : Option (List Expr)) → IfSome o (AllByRecursion (HoldsExpr script)) → AllByRecursion (HoldsExpr script) (tree.all_of o)
  list_held None h = tt
  list_held (Some xs) h = h

  ended : (p : Token × Option (Token → Expr)) → Stands script p.0 → names (p.0).kind ≡ true → IfSome p.1 HoldsTail → HoldsExpr script (tree.named script p)
  ended (name, None) s n h = column_held script name s n
  ended (name, Some f) s n h = h name s n

  test_held : (p : Expr × Option (Expr → Expr)) → HoldsExpr script p.0 → IfSome p.1 HoldsBehind → HoldsExpr script (tree.tested p)
  test_held (x, None) h f = h
  test_held (x, Some g) h f = f x h

  module _ (depth : ℕ) {B : Lang Token Expr} (x : Keep B (HoldsExpr script)) where
    group : Keep (g.group script depth B) (HoldsExpr script)
    group = valued_keeps (both_keeps (opening depth k.Open) (both_keeps x (token k.Close))) tree.grouped
        (λ p h. group_held script _ p.1.0 (span_to p.0 p.1.1 h.0.0 h.1.1.0) h.1.0)

    arguments : Keep (g.arguments script depth B) HoldsTail
    arguments = valued_keeps (both_keeps (opening depth k.Open) (both_keeps (maybe_keeps (commas x)) (token k.Close))) (tree.called script)
        (λ p h name s n. call_held script name p.1.1 (tree.all_of p.1.0) s n h.1.1.0 (list_held p.1.0 h.1.0))

    tail : Keep (g.tail script depth B) HoldsTail
    tail = either_keeps (valued_keeps (both_keeps (token k.Dot) (class names)) (tree.qualified script) (λ p h name s n. qualified_held script p.0 p.1 name h.1.0 h.1.1 s n)) arguments

    dated : Keep (g.dated script depth B) (HoldsExpr script)
    dated = valued_keeps (both_keeps (class dates) (maybe_keeps (either_keeps (valued_keeps (class is_text) (tree.dated script) (λ t h word s n. dated_held script t word h.0 h.1 s)) tail)))
        (tree.named script) (λ p h. ended p h.0.0 (date_named script (p.0).kind h.0.1) h.1)

    named : Keep (g.named script depth B) (HoldsExpr script)
    named = valued_keeps (both_keeps (class names_alone) (maybe_keeps tail)) (tree.named script) (λ p h. ended p h.0.0 (alone_named script (p.0).kind h.0.1) h.1)

    branch : Keep (g.branch script depth B) (HoldsBranch script)
    branch = valued_keeps (both_keeps (token k.When) (both_keeps x (both_keeps (token k.Then) x))) tree.branched (λ p h. (h.1.0, h.1.1.1))

    case : Keep (g.case script depth B) (HoldsExpr script)
    case = valued_keeps (both_keeps (opening depth k.Case) (both_keeps (some branch)
        (both_keeps (maybe_keeps (valued_keeps (both_keeps (token k.Else) x) g.second (λ p h. h.1))) (token k.End)))) tree.cased
        (λ p h. case_held script _ _ p.1.0 p.1.1.0 (span_to p.0 p.1.1.1 h.0.0 h.1.1.1.0) h.0.0.part h.1.0 h.1.1.0)

    cast : Keep (g.cast script depth B) (HoldsExpr script)
    cast = valued_keeps (both_keeps (token k.Cast) (both_keeps (opening depth k.Open) (both_keeps x (both_keeps (token k.As) (both_keeps (type_inside depth) (token k.Close)))))) tree.cast_to
        (λ p h. cast_held script _ _ p.1.1.0 p.1.1.1.1.0 (span_to p.0 p.1.1.1.1.1 h.0.0 h.1.1.1.1.1.0) h.0.0.part h.1.1.0 h.1.1.1.1.0)

    primary : Keep (g.primary script depth B) (HoldsExpr script)
    primary = either_keeps (valued_keeps (class is_value) (tree.literal script) (λ t h. literal_held script t h.0 h.1))
        (either_keeps dated (either_keeps group (either_keeps named (either_keeps case cast))))

    cat : Keep (g.cat script depth B) (HoldsExpr script)
    cat = chain (is k.Concat) (chain (any signs) (chain (any multiplies) (signed (any signs) primary)))

    comparison : Keep (g.comparison script depth B) HoldsBehind
    comparison = valued_keeps (both_keeps (class compares) cat) tree.compared (λ p h y hy. joined_held script y p.0 p.1 hy h.0.0 h.1)

    between : Keep (g.between script depth B) HoldsRange
    between = valued_keeps (both_keeps (token k.Between) (both_keeps cat (both_keeps (token k.And) cat))) tree.between_bounds
        (λ p h not n y hy. between_held script y p.1.0 p.1.1.1 _ (is_some not) hy h.1.0 h.1.1.1 (not_placed script not p.0 n h.0.0))

    among : Keep (g.among script depth B) HoldsRange
    among = valued_keeps (both_keeps (token k.In) (both_keeps (opening depth k.Open) (both_keeps (commas x) (token k.Close)))) tree.among
        (λ p h not n y hy. in_held script _ _ (is_some not) y p.1.1.0
        (joined_place (length script) (span_of y) (p.1.1.1).span (expr_placed script y hy) (placed (length script) (p.1.1.1).span h.1.1.1.0.part)) (not_placed script not p.0 n h.0.0) hy h.1.1.0)

    range : Keep (g.range script depth B) HoldsBehind
    range = valued_keeps (both_keeps (maybe_keeps (token k.Not)) (either_keeps between among)) tree.maybe_not
        (λ p h y hy. h.1 p.0 (only_stands p.0 (is k.Not) h.0) y hy)

    test : Keep (g.test script depth B) (HoldsExpr script)
    test = valued_keeps (both_keeps cat (maybe_keeps (either_keeps comparison (either_keeps question range)))) tree.tested (λ p h. test_held p h.0 h.1)

    disjunction : Keep (g.disjunction script depth B) (HoldsExpr script)
    disjunction = chain (is k.Or) (chain (is k.And) (signed (is k.Not) test))

  inside : (depth : ℕ) → Keep (g.inside script depth) (HoldsExpr script)
  unfolding g.inside
  inside zero = never_keeps
  inside (suc depth) = disjunction depth (inside depth)

  pub expression : Keep (g.expression script) (HoldsExpr script)
  unfolding g.expression
  expression = at_most_keeps (disjunction 64 (inside 64)) 1000

-- ---- trees of tokens that mean what their kinds say

all_stand : (script : List ℕ) (at : ℕ) (ts : List Token) → AllByRecursion (λ (t : Token). Means t.kind (slice script t.span)) ts → AreParts at (length script) ts → AllByRecursion (Stands script) ts
all_stand script at [] meant parts = tt
all_stand script at (t ∷ ts) meant (after, part, rest) = (record { means = meant.0; part = part }, all_stand script t.span.«end» ts meant.1 rest)

pub stand : (script : List ℕ) (ts : List Token) → AreMeant script ts → AreParts 0 (length script) ts → AllByRecursion (Stands script) ts
stand script ts meant parts = all_stand script 0 ts (recursion_from_All (λ (t : Token). Means t.kind (slice script t.span)) ts meant) parts

pub expression_held : (script : List ℕ) (ts : List Token) (x : Expr) → AreMeant script ts → AreParts 0 (length script) ts → (g.expression script).reads ts x [] → HoldsExpr script x
expression_held script ts x meant parts r = ((expression script).keeps ts x [] (stand script ts meant parts) r).0
