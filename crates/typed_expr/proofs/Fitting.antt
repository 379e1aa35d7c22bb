-- What typing gives fits the columns that it was typed over.
use Rattle.std.proofs.Common.{◌≡◌, List, [], ◌∷◌, ◌++◌, map, Option, Some, None, refl, sym, ap, subst, ◌∙◌}
use Rattle.std.specs.Prelude.{IfOk, IfSome, option_map, Result, Ok, Err}
use Rattle.std.specs.List.{AllByRecursion}
use Rattle.dm_types.specs.Ranges.{IsWellFormed}
use Rattle.dm_types.specs.declared.value.DataType.{DataType}
use Rattle.sql_tree.specs.Spans.{Layer, span_of}
use Rattle.sql_tree.specs.declared.token.Span.{Span}
use Rattle.sql_tree.specs.declared.tree.Expr.{Expr}
use Rattle.sql_tree.specs.declared.tree.Expr.TheFolds.{map-Expr, fold-roll-Expr, ind-Expr}
use Rattle.sql_tree.specs.declared.tree.Expr.TheOpen.{Expr-F}
use Rattle.sql_tree.specs.declared.tree.Expr.TheViews.{roll-Expr}
use Rattle.sql_tree.specs.declared.tree.Operator.TheVariants as o
use Rattle.typed_expr.specs.declared.choice.Branch.{Branch}
use Rattle.typed_expr.specs.declared.fault.TypeFault.{TypeFault}
use Rattle.typed_expr.specs.declared.fault.TypeFault.TheVariants as fault
use Rattle.typed_expr.specs.declared.scope.ScopeColumn.{ScopeColumn}
use Rattle.typed_expr.specs.declared.tree.TypedExpr.{TypedExpr, out-TypedExpr}
use Rattle.typed_expr.specs.declared.tree.TypedExpr.TheOpen.{TypedExpr-F}
use Rattle.typed_expr.specs.Fits.{Fits, AllFit, parts_of, kinds_in, AreWellFormed}
use Rattle.typed_expr.specs.Forms as form
use Rattle.typed_expr.specs.Kinds.{TypedLayer}
use Rattle.typed_expr.specs.Rules.{Typing, Answers, both, all, ◌>>=◌}
use Rattle.typed_expr.specs.Typing.{Part, part_of, parted, typing, form_of, branch_of, otherwise_of, conjuncts, chained, operands_of, condition, assigned}
use Rattle.typed_expr.proofs.FormFits.{Reads, IsSound, then_ok, both_ok, all_ok, on_test, one_fits, fit_append, literal_sound, column_sound, unary_sound, binary_sound, is_sound, between_sound, in_sound, choice_sound, cast_form_sound, call_sound, assignment_sound}

module _ (scope : List ScopeColumn) (reads : Reads) (formed : AreWellFormed scope) where
  abbrev kinds : List DataType
  kinds = kinds_in scope

  abbrev Sound : TypedExpr → Type 0
  Sound tree = IsSound kinds tree

  abbrev Gives : Typing TypedExpr → Type 0
  Gives found = IfOk found (IsSound kinds)

  abbrev SoundBranch : Branch → Type 0
  SoundBranch b = IsSound kinds b.condition × IsSound kinds b.value

  abbrev SoundLast : Option TypedExpr → Type 0
  SoundLast otherwise = IfSome otherwise (IsSound kinds)

  abbrev Claim : Expr → Type 0
  Claim x = Gives (typing scope x)

  abbrev Shown : Type 0
  Shown = (x : Expr) × Claim x

  -- ---- lists of parts

  list_given : (es : List Shown)
      → AllByRecursion (λ part. Gives part) (map (λ i. i.typing) (map (parted scope) (map (λ e. e.0) es)))
  list_given [] = tt
  list_given (e ∷ es) = (e.1, list_given es)

  all_given : (es : List Shown)
      → IfOk (all (map (λ i. i.typing) (map (parted scope) (map (λ e. e.0) es)))) (AllByRecursion (IsSound kinds))
  all_given es = all_ok (IsSound kinds) _ (list_given es)

  branch_given : (c v : Shown) → IfOk (branch_of (parted scope c.0, parted scope v.0)) SoundBranch
  branch_given c v =
      then_ok (λ p. Sound p.0 × Sound p.1) SoundBranch (both (typing scope c.0) (typing scope v.0)) _
      (both_ok Sound Sound (typing scope c.0) (typing scope v.0) c.1 v.1) (λ p h. h)

  -- what the branches of CASE come to
  abbrev branches_of : List (Shown × Shown) → List (Typing Branch)
  branches_of es = map branch_of (map {A = Expr × Expr} (λ b. (parted scope b.0, parted scope b.1))
      (map {A = Shown × Shown} (λ b. (b.0.0, b.1.0)) es))

  branches_given : (es : List (Shown × Shown)) → AllByRecursion (λ part. IfOk part SoundBranch) (branches_of es)
  branches_given [] = tt
  branches_given (b ∷ bs) = (branch_given b.0 b.1, branches_given bs)

  all_branches_given : (es : List (Shown × Shown)) → IfOk (all (branches_of es)) (AllByRecursion SoundBranch)
  all_branches_given es = all_ok SoundBranch _ (branches_given es)

  last_given : (e : Shown) → IfOk (otherwise_of (Some (parted scope e.0))) SoundLast
  last_given e = then_ok Sound SoundLast (typing scope e.0) (λ x. Ok (Some x)) e.1 (λ x h. h)

  case_given : (place : Span) (branches : Typing (List Branch)) (otherwise : Typing (Option TypedExpr))
      → IfOk branches (AllByRecursion SoundBranch) → IfOk otherwise SoundLast
      → Gives (both branches otherwise >>= λ p. form.choice place.start p.0 p.1)
  case_given place branches otherwise h i =
      then_ok (λ p. AllByRecursion SoundBranch p.0 × SoundLast p.1) Sound (both branches otherwise) _
      (both_ok (AllByRecursion SoundBranch) SoundLast branches otherwise h i)
      (λ p g. choice_sound kinds place.start p.0 p.1 g.0 g.1)

  -- ---- each form

  by_layer : (y : Expr-F Shown)
      → Gives (form_of scope (map-Expr Expr Part (parted scope) (map-Expr Shown Expr (λ e. e.0) y)))
  by_layer (Expr-F.Literal span value) = literal_sound kinds reads span value
  by_layer (Expr-F.Column span qualifier name) = column_sound scope formed span qualifier name
  by_layer (Expr-F.Group span x) = x.1
  by_layer (Expr-F.Unary span prefix place x) =
      then_ok Sound Sound (typing scope x.0) (form.unary prefix place) x.1 (unary_sound kinds prefix place)
  by_layer (Expr-F.Binary span operator place x y) =
      then_ok (λ p. Sound p.0 × Sound p.1) Sound (both (typing scope x.0) (typing scope y.0)) _
      (both_ok Sound Sound (typing scope x.0) (typing scope y.0) x.1 y.1)
      (λ p h. binary_sound kinds operator place p.0 p.1 h.0 h.1)
  by_layer (Expr-F.Is span truth denied place x) =
      then_ok Sound Sound (typing scope x.0) (form.is_test truth denied place) x.1
      (is_sound kinds truth denied place)
  by_layer (Expr-F.Between span denied place x low high) =
      then_ok (λ p. Sound p.0 × (Sound p.1.0 × Sound p.1.1)) Sound
      (both (typing scope x.0) (both (typing scope low.0) (typing scope high.0))) _
      (both_ok Sound (λ p. Sound p.0 × Sound p.1) (typing scope x.0) (both (typing scope low.0) (typing scope high.0)) x.1
      (both_ok Sound Sound (typing scope low.0) (typing scope high.0) low.1 high.1))
      (λ p h. between_sound kinds denied place p.0 p.1.0 p.1.1 h.0 h.1.0 h.1.1)
  by_layer (Expr-F.In span denied place x items) =
      then_ok (λ p. Sound p.0 × AllByRecursion Sound p.1) Sound (both (typing scope x.0) _) _
      (both_ok Sound (AllByRecursion Sound) (typing scope x.0) _ x.1 (all_given items))
      (λ p h. in_sound kinds denied place p.0 p.1 h.0 h.1)
  by_layer (Expr-F.Case span place es None) = case_given place _ (Ok None) (all_branches_given es) tt
  by_layer (Expr-F.Case span place es (Some x)) = case_given place _ _ (all_branches_given es) (last_given x)
  by_layer (Expr-F.Cast span place x written) =
      then_ok Sound Sound (typing scope x.0) (form.cast place written) x.1 (cast_form_sound kinds place written)
  by_layer (Expr-F.Call span function arguments) =
      then_ok (AllByRecursion Sound) Sound _ (form.call function _) (all_given arguments)
      (λ xs h. call_sound kinds function _ xs h)

  sound : (x : Expr) → Claim x
  sound = ind-Expr Claim (λ x y is.
      subst Gives (sym (ap (λ p. p.typing) (fold-roll-Expr Part (part_of scope) x)))
      (subst (λ l. Gives (form_of scope (map-Expr Expr Part (parted scope) l))) is (by_layer y)))

  -- ---- answers

  given_so : {A : Type 0} (P : A → Type 0) (found : Typing A) → IfOk found P → (result : Result A TypeFault)
      → Answers found result → IfOk result P
  given_so P found h (Ok a) is = subst (λ f. IfOk f P) is h
  given_so P found h (Err f) is = tt

  only_fits : (found : Typing TypedExpr) → Gives found → IfOk found (Fits kinds)
  only_fits (Ok tree) h = h.fits
  only_fits (Err b) h = tt

  pub tree_fits : (x : Expr) (result : Result TypedExpr TypeFault) → Answers (typing scope x) result
      → IfOk result (Fits kinds)
  tree_fits x result is = given_so (Fits kinds) (typing scope x) (only_fits (typing scope x) (sound x)) result is

  pub assigned_fits : (x : Expr) (k : DataType) → IsWellFormed k → (result : Result TypedExpr TypeFault)
      → Answers (assigned scope x k) result → IfOk result (Fits kinds)
  assigned_fits x k good result is =
      let found = then_ok Sound Sound (typing scope x) (form.assignment (span_of x).start k) (sound x)
      (λ tree h. assignment_sound kinds (span_of x).start k tree h good) in
      given_so (Fits kinds) (assigned scope x k) (only_fits (assigned scope x k) found) result is

  -- ---- conjuncts

  abbrev Splits : Expr → Type 0
  Splits x = (tree : TypedExpr) → Fits kinds tree → AllFit kinds (conjuncts x tree)

  abbrev Parted : Type 0
  Parted = (x : Expr) × Splits x

  parts_fit : (tree : TypedExpr) → Fits kinds tree → AllFit kinds (parts_of (out-TypedExpr tree))
  parts_fit _ (Fits.formed f parts) = parts

  two_fit : (a b : TypedExpr) → AllFit kinds (a ∷ b ∷ [])
      → Fits kinds a × Fits kinds b
  two_fit a b (AllFit.more h (AllFit.more i rest)) = (h, i)

  operands_fit : (x y : TypedExpr → List TypedExpr) → ((tree : TypedExpr) → Fits kinds tree → AllFit kinds (x tree))
      → ((tree : TypedExpr) → Fits kinds tree → AllFit kinds (y tree)) → (tree : TypedExpr) → Fits kinds tree
      → (layer : TypedLayer) → out-TypedExpr tree ≡ layer → AllFit kinds (operands_of x y tree layer)
  operands_fit x y left right tree h (TypedExpr-F.And a b) is =
      let two = two_fit a b (subst (λ l. AllFit kinds (parts_of l)) is (parts_fit tree h)) in
      fit_append kinds (x a) (y b) (left a two.0) (right b two.1)
  operands_fit x y left right tree h layer is = one_fits kinds tree h

  chained_fit : (y : Expr-F Parted) (tree : TypedExpr) → Fits kinds tree
      → AllFit kinds (chained (map-Expr Expr (TypedExpr → List TypedExpr) conjuncts (map-Expr Parted Expr (λ e. e.0) y)) tree)
  chained_fit (Expr-F.Binary span o.And place x y) tree h =
      operands_fit (conjuncts x.0) (conjuncts y.0) x.1 y.1 tree h (out-TypedExpr tree) refl
  chained_fit (Expr-F.Case span place bs None) tree h = one_fits kinds tree h
  chained_fit (Expr-F.Case span place bs (Some z)) tree h = one_fits kinds tree h
  chained_fit y tree h = one_fits kinds tree h

  conjuncts_fit : (x : Expr) → Splits x
  conjuncts_fit = ind-Expr Splits (λ x y is tree h.
      subst (AllFit kinds) (sym (ap (λ f. f tree) (fold-roll-Expr (TypedExpr → List TypedExpr) chained x)))
      (subst (λ l. AllFit kinds (chained (map-Expr Expr (TypedExpr → List TypedExpr) conjuncts l) tree)) is
      (chained_fit y tree h)))

  pub condition_fits : (x : Expr) (result : Result (List TypedExpr) TypeFault) → Answers (condition scope x) result
      → IfOk result (AllFit kinds)
  condition_fits x result is =
      given_so (AllFit kinds) (condition scope x)
      (then_ok Sound (AllFit kinds) (typing scope x) _ (sound x)
      (λ tree h. on_test (AllFit kinds) (form.is_truth tree) 5 (span_of x).start (conjuncts x tree)
      (λ test. conjuncts_fit x tree h.fits))) result is
