-- What an expression comes to, by its form.
use Rattle.std.proofs.Common.{◌≡◌, Bool, List, [], ◌∷◌, map, Option, Some, None, refl, sym, ap, subst, ◌∙◌}
use Rattle.std.specs.Prelude.{Result}
use Rattle.sql_tree.specs.Spans.{Layer, span_at, span_of}
use Rattle.sql_tree.specs.declared.token.Span.{Span}
use Rattle.sql_tree.specs.declared.tree.Expr.{Expr, out-Expr}
use Rattle.sql_tree.specs.declared.tree.Expr.TheFolds.{map-Expr, fold_out-Expr}
use Rattle.sql_tree.specs.declared.tree.Expr.TheOpen.{Expr-F}
use Rattle.sql_tree.specs.declared.tree.Expr.TheVariants as e
use Rattle.sql_tree.specs.declared.tree.Expr.TheVariants.{outs-In, outs-Case, outs-Cast, outs-Call}
use Rattle.sql_tree.specs.declared.tree.Name.{Name}
use Rattle.sql_tree.specs.declared.tree.WrittenType.{WrittenType}
use Rattle.typed_expr.specs.declared.fault.TypeFault.{TypeFault}
use Rattle.typed_expr.specs.declared.scope.ScopeColumn.{ScopeColumn}
use Rattle.typed_expr.specs.declared.tree.TypedExpr.{TypedExpr}
use Rattle.typed_expr.specs.Rules.{Typing, Answers, both, all, ◌>>=◌}
use Rattle.typed_expr.specs.Forms as form
use Rattle.typed_expr.specs.Typing.{Part, part_of, parted, typing, form_of, start_of, branch_of, first_start}
use Rattle.typed_expr.specs.Steps.{typed_branch, typed_last, in_of, case_of, cast_of, call_of}
use Rattle.typed_expr.specs.Judging.{first_at}

module _ (scope : List ScopeColumn) where
  -- ---- where parts begin

  layer_start : (l : Layer) → start_of (map-Expr Expr Part (parted scope) l) ≡ (span_at l).start
  layer_start (Expr-F.Literal span value) = refl
  layer_start (Expr-F.Column span qualifier name) = refl
  layer_start (Expr-F.Group span x) = refl
  layer_start (Expr-F.Unary span prefix place x) = refl
  layer_start (Expr-F.Binary span operator place x y) = refl
  layer_start (Expr-F.Is span truth denied place x) = refl
  layer_start (Expr-F.Between span denied place x low high) = refl
  layer_start (Expr-F.In span denied place x items) = refl
  layer_start (Expr-F.Case span place branches otherwise) = refl
  layer_start (Expr-F.Cast span place x written) = refl
  layer_start (Expr-F.Call span function arguments) = refl

  pub part_start : (x : Expr) → (parted scope x).start ≡ (span_of x).start
  part_start x = ap (λ p. p.start) (fold_out-Expr Part (part_of scope) x) ∙ layer_start (out-Expr x)

  pub first_starts : (xs : List Expr) → first_start (map (parted scope) xs) ≡ first_at xs
  first_starts [] = refl
  first_starts (x ∷ xs) = part_start x

  -- ---- lists of parts

  pub typings_are : (xs : List Expr) → map (λ i. i.typing) (map (parted scope) xs) ≡ map (typing scope) xs
  typings_are [] = refl
  typings_are (x ∷ xs) = ap (λ z. typing scope x ∷ z) (typings_are xs)

  pub branches_are : (bs : List (Expr × Expr)) → map branch_of (map (λ b. (parted scope b.0, parted scope b.1)) bs) ≡ map (typed_branch scope) bs
  branches_are [] = refl
  branches_are (b ∷ bs) = ap (λ z. typed_branch scope b ∷ z) (branches_are bs)

  -- ---- forms

  opened : (x : Expr) (l : Layer) → out-Expr x ≡ l → typing scope x ≡ form_of scope (map-Expr Expr Part (parted scope) l)
  opened x l h = ap (λ p. p.typing) (fold_out-Expr Part (part_of scope) x) ∙ ap (λ z. form_of scope (map-Expr Expr Part (parted scope) z)) h

  typing_in : (span place : Span) (denied : Bool) (x : Expr) (items : List Expr) → typing scope (e.In span denied place x items) ≡ in_of scope denied place x items
  typing_in span place denied x items =
      opened (e.In span denied place x items) (Expr-F.In span denied place x items) (outs-In span denied place x items)
      ∙ ap (λ ts. both (typing scope x) (all ts) >>= λ p. form.in_list denied place p.0 p.1) (typings_are items)

  typing_case : (span place : Span) (bs : List (Expr × Expr)) (o : Option Expr) → typing scope (e.Case span place bs o) ≡ case_of scope place bs o
  typing_case span place bs None =
      opened (e.Case span place bs None) (Expr-F.Case span place bs None) (outs-Case span place bs None)
      ∙ ap (λ ts. both (all ts) (typed_last scope None) >>= λ p. form.choice place.start p.0 p.1) (branches_are bs)
  typing_case span place bs (Some x) =
      opened (e.Case span place bs (Some x)) (Expr-F.Case span place bs (Some x)) (outs-Case span place bs (Some x))
      ∙ ap (λ ts. both (all ts) (typed_last scope (Some x)) >>= λ p. form.choice place.start p.0 p.1) (branches_are bs)

  typing_cast : (span place : Span) (x : Expr) (written : WrittenType) → typing scope (e.Cast span place x written) ≡ cast_of scope place written x
  typing_cast span place x written = opened (e.Cast span place x written) (Expr-F.Cast span place x written) (outs-Cast span place x written)

  typing_call : (span : Span) (name : Name) (xs : List Expr) → typing scope (e.Call span name xs) ≡ call_of scope name xs
  typing_call span name xs =
      opened (e.Call span name xs) (Expr-F.Call span name xs) (outs-Call span name xs)
      ∙ ap (λ ts. all ts >>= form.call name (first_start (map (parted scope) xs))) (typings_are xs)
      ∙ ap (λ at. all (map (typing scope) xs) >>= form.call name at) (first_starts xs)

  -- ---- answers

  module _ (expr : Expr) (result : Result TypedExpr TypeFault) where
    answers : (x : Expr) → expr ≡ x → (found : Typing TypedExpr) → typing scope x ≡ found → Answers found result → Answers (typing scope expr) result
    answers x is found h a = subst (λ z. Answers (typing scope z) result) (sym is) (subst (λ z. Answers z result) (sym h) a)

    pub in_answers : {span place : Span} {denied : Bool} {x y : Expr} {items others : List Expr} → expr ≡ e.In span denied place x items → y ≡ x → others ≡ items
        → Answers (in_of scope denied place y others) result → Answers (typing scope expr) result
    in_answers {span} {place} {denied} {x} {y} {items} {others} is same all a = answers _ is _ (typing_in span place denied x items)
        (subst (λ z. Answers (in_of scope denied place z items) result) same (subst (λ z. Answers (in_of scope denied place y z) result) all a))

    pub case_answers : {span place : Span} {bs others : List (Expr × Expr)} (o : Option Expr) → expr ≡ e.Case span place bs o → others ≡ bs
        → Answers (case_of scope place others o) result → Answers (typing scope expr) result
    case_answers {span} {place} {bs} {others} o is all a = answers _ is _ (typing_case span place bs o) (subst (λ z. Answers (case_of scope place z o) result) all a)

    pub cast_answers : {span place : Span} {x y : Expr} {written : WrittenType} → expr ≡ e.Cast span place x written → y ≡ x
        → Answers (cast_of scope place written y) result → Answers (typing scope expr) result
    cast_answers {span} {place} {x} {y} {written} is same a = answers _ is _ (typing_cast span place x written) (subst (λ z. Answers (cast_of scope place written z) result) same a)

    pub call_answers : {span : Span} {name : Name} {xs others : List Expr} → expr ≡ e.Call span name xs → others ≡ xs
        → Answers (call_of scope name others) result → Answers (typing scope expr) result
    call_answers {span} {name} {xs} {others} is all a = answers _ is _ (typing_call span name xs) (subst (λ z. Answers (call_of scope name z) result) all a)
