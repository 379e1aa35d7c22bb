-- What an expression comes to is what the tables of the language say of it.
use Rattle.std.proofs.Common.{◌≡◌, ℕ, List, [], ◌∷◌, ◌++◌, map, Option, Some, None, refl, sym, ap, subst, ◌∙◌}
use Rattle.std.specs.Prelude.{option_map, Ok, Err}
use Rattle.std.specs.List.{fold, flat_map}
use Rattle.std.proofs.lemmas.List.{append_assoc, append-nil, map-append}
use Rattle.std.proofs.lemmas.Grind.{flat_map-append}
use Rattle.dm_types.specs.declared.value.DataType.{DataType}
use Rattle.sql_tree.specs.Spans.{Layer, span_of}
use Rattle.sql_tree.specs.declared.token.Span.{Span}
use Rattle.sql_tree.specs.declared.tree.Expr.{Expr}
use Rattle.sql_tree.specs.declared.tree.Expr.TheFolds.{map-Expr, fold-roll-Expr, ind-Expr}
use Rattle.sql_tree.specs.declared.tree.Expr.TheOpen.{Expr-F}
use Rattle.sql_tree.specs.declared.tree.Expr.TheViews.{roll-Expr}
use Rattle.typed_expr.specs.declared.choice.Branch.{Branch}
use Rattle.typed_expr.specs.declared.scope.ScopeColumn.{ScopeColumn}
use Rattle.typed_expr.specs.declared.tree.TypedExpr.{TypedExpr}
use Rattle.typed_expr.specs.Kinds.{kind_of}
use Rattle.typed_expr.specs.Rules.{Typing, both, all, collected, ◌>>=◌}
use Rattle.typed_expr.specs.Literals.{literal}
use Rattle.typed_expr.specs.Columns.{column}
use Rattle.typed_expr.specs.Forms as form
use Rattle.typed_expr.specs.Judging as judging
use Rattle.typed_expr.specs.Judging.{judged, both_of, listed, conditions_of, values_of}
use Rattle.typed_expr.specs.Comes.{Comes}
use Rattle.typed_expr.specs.Typing.{Part, part_of, parted, typing, form_of, start_of, branch_of, otherwise_of}
use Rattle.typed_expr.specs.Typing as typing_spec
use Rattle.typed_expr.specs.Steps.{typed_branch, typed_last}
use Rattle.typed_expr.specs.Judging.{first_at}
use Rattle.typed_expr.proofs.Unrolled.{part_start, first_starts, typings_are, branches_are}
use Rattle.typed_expr.proofs.Parts.{PartsCome, Meets, both_come, made_come, no_parts, one_part, layer_comes}
use Rattle.typed_expr.proofs.FormTypes.{place_of, value_kinds, last_kinds, literal_meets, column_meets, unary_meets, binary_meets, is_meets, between_meets, in_meets, cast_meets, choice_meets, call_meets}

-- ---- the kinds of parts

abbrev alone : TypedExpr → List DataType
alone tree = kind_of tree ∷ []

abbrev branch_kinds : Branch → List DataType
branch_kinds b = kind_of b.condition ∷ kind_of b.value ∷ []

abbrev start : Expr × Expr → ℕ
start b = (span_of b.0).start

-- those of CASE, taken apart again
conditions_are : (bs : List (Expr × Expr)) (typed : List Branch) (rest : List DataType) → map (λ b. b.at) typed ≡ map start bs
    → conditions_of bs (flat_map branch_kinds typed ++ rest) ≡ map place_of typed
conditions_are [] [] rest h = refl
conditions_are [] (t ∷ typed) rest h = absurd (cc)
conditions_are (b ∷ bs) [] rest h = absurd (cc)
conditions_are (b ∷ bs) (t ∷ typed) rest h =
    let here : t.at ≡ start b = cc in
    let behind : map (λ b. b.at) typed ≡ map start bs = cc in
    ap (λ z. (z, kind_of t.condition) ∷ conditions_of bs (flat_map branch_kinds typed ++ rest)) (sym here)
    ∙ ap (λ z. place_of t ∷ z) (conditions_are bs typed rest behind)

values_are : (bs : List (Expr × Expr)) (typed : List Branch) (rest : List DataType) → map (λ b. b.at) typed ≡ map start bs
    → values_of bs (flat_map branch_kinds typed ++ rest) ≡ value_kinds typed ++ rest
values_are [] [] rest h = refl
values_are [] (t ∷ typed) rest h = absurd (cc)
values_are (b ∷ bs) [] rest h = absurd (cc)
values_are (b ∷ bs) (t ∷ typed) rest h =
    let behind : map (λ b. b.at) typed ≡ map start bs = cc in
    ap (λ z. kind_of t.value ∷ z) (values_are bs typed rest behind)

both_first : {A B : Type 0} (s : Typing A) (t : Typing B) (p : A × B) → both s t ≡ Ok p → s ≡ Ok p.0
both_first (Ok a) (Ok b) p h = let is : (a, b) ≡ p = cc in ap (λ z. Ok z.0) is
both_first (Ok a) (Err e) p h = absurd (cc)
both_first (Err d) (Ok b) p h = absurd (cc)
both_first (Err d) (Err e) p h = absurd (cc)

bind_ok : (t : Typing TypedExpr) → (t >>= λ x. Ok x) ≡ t
bind_ok (Ok x) = refl
bind_ok (Err b) = refl

-- ---- where parts begin

module _ (scope : List ScopeColumn) where
  collected_at : (found : Typing (List Branch)) (part : Typing Branch) (out : List Branch) → collected found part ≡ Ok out → (before : List ℕ)
      → ((done : List Branch) → found ≡ Ok done → map (λ b. b.at) done ≡ before) → (at : ℕ) → ((b : Branch) → part ≡ Ok b → b.at ≡ at)
      → map (λ b. b.at) out ≡ before ++ at ∷ []
  collected_at (Ok done) (Ok b) out h before f at g =
      let is : done ++ b ∷ [] ≡ out = cc in
      ap (map (λ b. b.at)) (sym is) ∙ map-append (λ b. b.at) done (b ∷ []) ∙ ap (λ z. z ++ b.at ∷ []) (f done refl) ∙ ap (λ z. before ++ z ∷ []) (g b refl)
  collected_at (Ok done) (Err e) out h before f at g = absurd (cc)
  collected_at (Err d) (Ok b) out h before f at g = absurd (cc)
  collected_at (Err d) (Err e) out h before f at g = absurd (cc)

  branch_at : (c v : Part) (b : Branch) → branch_of (c, v) ≡ Ok b → b.at ≡ c.start
  branch_at c v b h = by_parts c.typing v.typing h
    where
      by_parts : (s t : Typing TypedExpr) → (both s t >>= λ p. Ok (record { at = c.start; condition = p.0; value = p.1 })) ≡ Ok b → b.at ≡ c.start
      by_parts (Ok x) (Ok y) h = let is : record { at = c.start; condition = x; value = y } ≡ b = cc in sym (ap (λ b. b.at) is)
      by_parts (Ok x) (Err e) h = absurd (cc)
      by_parts (Err d) (Ok y) h = absurd (cc)
      by_parts (Err d) (Err e) h = absurd (cc)

  fold_at : (bs : List (Expr × Expr)) (found : Typing (List Branch)) (out : List Branch) (before : List ℕ)
      → ((done : List Branch) → found ≡ Ok done → map (λ b. b.at) done ≡ before)
      → fold collected found (map (typed_branch scope) bs) ≡ Ok out → map (λ b. b.at) out ≡ before ++ map start bs
  fold_at [] found out before f h = f out h ∙ sym (append-nil before)
  fold_at (b ∷ bs) found out before f h =
      fold_at bs (collected found (typed_branch scope b)) out (before ++ start b ∷ [])
      (λ done g. collected_at found (typed_branch scope b) done g before f (start b) (λ t e. branch_at (parted scope b.0) (parted scope b.1) t e ∙ part_start scope b.0)) h
      ∙ append_assoc before (start b ∷ []) (map start bs)

  all_at : (bs : List (Expr × Expr)) (out : List Branch) → all (map (typed_branch scope) bs) ≡ Ok out → map (λ b. b.at) out ≡ map start bs
  all_at bs out h = fold_at bs (Ok []) out [] (λ done e. let is : [] ≡ done = cc in ap (map (λ b. b.at)) (sym is)) h

  -- ---- lists of parts

  abbrev Claim : Expr → Type 0
  Claim x = Comes scope x (typing scope x)

  abbrev Shown : Type 0
  Shown = (x : Expr) × Claim x

  abbrev exprs : List Shown → List Expr
  exprs es = map (λ e. e.0) es

  list_more : (done : List Expr) (found : Typing (List TypedExpr)) → PartsCome scope done (map kind_of) found → (es : List Shown)
      → PartsCome scope (done ++ exprs es) (map kind_of) (fold collected found (map (typing scope) (exprs es)))
  list_more done found p [] = subst (λ z. PartsCome scope z (map kind_of) found) (sym (append-nil done)) p
  list_more done found p (e ∷ es) =
      let next = made_come scope (done ++ e.0 ∷ []) (λ q. map kind_of q.0 ++ alone q.1) (map kind_of) (λ q. q.0 ++ q.1 ∷ []) (both found (typing scope e.0)) (λ q. sym (map-append kind_of q.0 (q.1 ∷ [])))
      (both_come scope done (e.0 ∷ []) (map kind_of) alone found (typing scope e.0) p (one_part scope e.0 (typing scope e.0) e.1)) in
      subst (λ z. PartsCome scope z (map kind_of) (fold collected found (map (typing scope) (exprs (e ∷ es))))) (append_assoc done (e.0 ∷ []) (exprs es))
      (list_more (done ++ e.0 ∷ []) (collected found (typing scope e.0)) next es)

  list_come : (es : List Shown) → PartsCome scope (exprs es) (map kind_of) (all (map (typing scope) (exprs es)))
  list_come es = list_more [] (Ok []) (no_parts scope (map kind_of) [] refl) es

  abbrev pairs : List (Shown × Shown) → List (Expr × Expr)
  pairs es = map (λ b. (b.0.0, b.1.0)) es

  branch_come : (c v : Shown) → PartsCome scope (c.0 ∷ v.0 ∷ []) branch_kinds (typed_branch scope (c.0, v.0))
  branch_come c v = made_come scope (c.0 ∷ v.0 ∷ []) (λ q. alone q.0 ++ alone q.1) branch_kinds (λ q. record { at = (parted scope c.0).start; condition = q.0; value = q.1 }) (both (typing scope c.0) (typing scope v.0)) (λ q. refl)
      (both_come scope (c.0 ∷ []) (v.0 ∷ []) alone alone (typing scope c.0) (typing scope v.0) (one_part scope c.0 (typing scope c.0) c.1) (one_part scope v.0 (typing scope v.0) v.1))

  branches_more : (done : List Expr) (found : Typing (List Branch)) → PartsCome scope done (flat_map branch_kinds) found → (es : List (Shown × Shown))
      → PartsCome scope (done ++ flat_map both_of (pairs es)) (flat_map branch_kinds) (fold collected found (map (typed_branch scope) (pairs es)))
  branches_more done found p [] = subst (λ z. PartsCome scope z (flat_map branch_kinds) found) (sym (append-nil done)) p
  branches_more done found p (b ∷ es) =
      let one = b.0.0 ∷ b.1.0 ∷ [] in
      let next = made_come scope (done ++ one) (λ q. flat_map branch_kinds q.0 ++ branch_kinds q.1) (flat_map branch_kinds) (λ q. q.0 ++ q.1 ∷ []) (both found (typed_branch scope (b.0.0, b.1.0))) (λ q. sym (flat_map-append branch_kinds q.0 (q.1 ∷ [])))
      (both_come scope done one (flat_map branch_kinds) branch_kinds found (typed_branch scope (b.0.0, b.1.0)) p (branch_come b.0 b.1)) in
      subst (λ z. PartsCome scope z (flat_map branch_kinds) (fold collected found (map (typed_branch scope) (pairs (b ∷ es))))) (append_assoc done one (flat_map both_of (pairs es)))
      (branches_more (done ++ one) (collected found (typed_branch scope (b.0.0, b.1.0))) next es)

  branches_come : (es : List (Shown × Shown)) → PartsCome scope (flat_map both_of (pairs es)) (flat_map branch_kinds) (all (map (typed_branch scope) (pairs es)))
  branches_come es = branches_more [] (Ok []) (no_parts scope (flat_map branch_kinds) [] refl) es

  last_come : (o : Option Shown) → PartsCome scope (listed (option_map (λ e. e.0) o)) last_kinds (typed_last scope (option_map (λ e. e.0) o))
  last_come None = no_parts scope last_kinds None refl
  last_come (Some e) = made_come scope (e.0 ∷ []) alone last_kinds (λ x. Some x) (typing scope e.0) (λ a. refl) (one_part scope e.0 (typing scope e.0) e.1)

  -- ---- each form

  one_form : (l : Layer) (e : Shown) (f : TypedExpr → Typing TypedExpr) → judging.parts_of l ≡ e.0 ∷ [] → ((t : TypedExpr) → Meets (judged scope l (alone t)) (f t)) → Comes scope (roll-Expr l) (typing scope e.0 >>= f)
  one_form l e f h m = layer_comes scope l alone (typing scope e.0) f (subst (λ z. PartsCome scope z alone (typing scope e.0)) (sym h) (one_part scope e.0 (typing scope e.0) e.1)) (λ a g. m a)

  pair_form : (l : Layer) (x y : Shown) (f : TypedExpr × TypedExpr → Typing TypedExpr) → judging.parts_of l ≡ x.0 ∷ y.0 ∷ []
      → ((t u : TypedExpr) → Meets (judged scope l (kind_of t ∷ kind_of u ∷ [])) (f (t, u))) → Comes scope (roll-Expr l) (both (typing scope x.0) (typing scope y.0) >>= f)
  pair_form l x y f h m = layer_comes scope l (λ p. alone p.0 ++ alone p.1) (both (typing scope x.0) (typing scope y.0)) f
      (subst (λ z. PartsCome scope z (λ p. alone p.0 ++ alone p.1) (both (typing scope x.0) (typing scope y.0))) (sym h)
      (both_come scope (x.0 ∷ []) (y.0 ∷ []) alone alone (typing scope x.0) (typing scope y.0) (one_part scope x.0 (typing scope x.0) x.1) (one_part scope y.0 (typing scope y.0) y.1)))
      (λ a g. m a.0 a.1)

  three_come : (x low high : Shown) → PartsCome scope (x.0 ∷ low.0 ∷ high.0 ∷ []) (λ p. alone p.0 ++ (alone p.1.0 ++ alone p.1.1)) (both (typing scope x.0) (both (typing scope low.0) (typing scope high.0)))
  three_come x low high = both_come scope (x.0 ∷ []) (low.0 ∷ high.0 ∷ []) alone (λ p. alone p.0 ++ alone p.1) (typing scope x.0) (both (typing scope low.0) (typing scope high.0)) (one_part scope x.0 (typing scope x.0) x.1)
      (both_come scope (low.0 ∷ []) (high.0 ∷ []) alone alone (typing scope low.0) (typing scope high.0) (one_part scope low.0 (typing scope low.0) low.1) (one_part scope high.0 (typing scope high.0) high.1))

  with_list_come : (x : Shown) (es : List Shown) → PartsCome scope (x.0 ∷ exprs es) (λ p. alone p.0 ++ map kind_of p.1) (both (typing scope x.0) (all (map (typing scope) (exprs es))))
  with_list_come x es = both_come scope (x.0 ∷ []) (exprs es) alone (map kind_of) (typing scope x.0) (all (map (typing scope) (exprs es))) (one_part scope x.0 (typing scope x.0) x.1) (list_come es)

  case_parts : (es : List (Shown × Shown)) (o : Option Shown) → Typing (List Branch × Option TypedExpr)
  case_parts es o = both (all (map (typed_branch scope) (pairs es))) (typed_last scope (option_map (λ e. e.0) o))

  case_come : (span place : Span) (es : List (Shown × Shown)) (o : Option Shown)
      → Comes scope (roll-Expr (Expr-F.Case span place (pairs es) (option_map (λ e. e.0) o))) (case_parts es o >>= λ p. form.choice place.start p.0 p.1)
  unfolding judged case_parts
  case_come span place es o =
      layer_comes scope (Expr-F.Case span place (pairs es) (option_map (λ e. e.0) o)) (λ p. flat_map branch_kinds p.0 ++ last_kinds p.1) (case_parts es o) (λ p. form.choice place.start p.0 p.1)
      (both_come scope (flat_map both_of (pairs es)) (listed (option_map (λ e. e.0) o)) (flat_map branch_kinds) last_kinds (all (map (typed_branch scope) (pairs es))) (typed_last scope (option_map (λ e. e.0) o)) (branches_come es) (last_come o))
      (λ p h.
      let at = all_at (pairs es) p.0 (both_first (all (map (typed_branch scope) (pairs es))) (typed_last scope (option_map (λ e. e.0) o)) p h) in
      subst (λ cs. Meets (judging.choice_type place.start cs (values_of (pairs es) (flat_map branch_kinds p.0 ++ last_kinds p.1))) (form.choice place.start p.0 p.1)) (sym (conditions_are (pairs es) p.0 (last_kinds p.1) at))
      (subst (λ vs. Meets (judging.choice_type place.start (map place_of p.0) vs) (form.choice place.start p.0 p.1)) (sym (values_are (pairs es) p.0 (last_kinds p.1) at))
      (choice_meets place.start p.0 p.1)))

  by_layer : (y : Expr-F Shown) → Comes scope (roll-Expr (map-Expr Shown Expr (λ e. e.0) y)) (form_of scope (map-Expr Expr Part (parted scope) (map-Expr Shown Expr (λ e. e.0) y)))
  unfolding judged case_parts
  by_layer (Expr-F.Literal span value) = layer_comes scope {A = Unit {0}} (Expr-F.Literal span value) (λ u. []) (Ok tt) (λ u. literal span value) (no_parts scope (λ u. []) tt refl) (λ a h. literal_meets span value)
  by_layer (Expr-F.Column span qualifier name) = layer_comes scope {A = Unit {0}} (Expr-F.Column span qualifier name) (λ u. []) (Ok tt) (λ u. column scope span qualifier name) (no_parts scope (λ u. []) tt refl) (λ a h. column_meets scope span qualifier name)
  by_layer (Expr-F.Group span x) = subst (Comes scope (roll-Expr (Expr-F.Group span x.0))) (bind_ok (typing scope x.0)) (one_form (Expr-F.Group span x.0) x (λ t. Ok t) refl (λ t. refl))
  by_layer (Expr-F.Unary span prefix place x) = one_form (Expr-F.Unary span prefix place x.0) x (form.unary prefix place) refl (unary_meets prefix place)
  by_layer (Expr-F.Binary span operator place x y) = pair_form (Expr-F.Binary span operator place x.0 y.0) x y (λ p. form.binary operator place p.0 p.1) refl (binary_meets operator place)
  by_layer (Expr-F.Is span truth denied place x) = one_form (Expr-F.Is span truth denied place x.0) x (form.is_test truth denied place) refl (is_meets truth denied place)
  by_layer (Expr-F.Between span denied place x low high) = layer_comes scope (Expr-F.Between span denied place x.0 low.0 high.0) (λ p. alone p.0 ++ (alone p.1.0 ++ alone p.1.1)) _ (λ p. form.between denied place p.0 p.1.0 p.1.1) (three_come x low high) (λ a h. between_meets denied place a.0 a.1.0 a.1.1)
  by_layer (Expr-F.In span denied place x items) =
      subst (λ ts. Comes scope (roll-Expr (Expr-F.In span denied place x.0 (exprs items))) (both (typing scope x.0) (all ts) >>= λ p. form.in_list denied place p.0 p.1)) (sym (typings_are scope (exprs items)))
      (layer_comes scope (Expr-F.In span denied place x.0 (exprs items)) (λ p. alone p.0 ++ map kind_of p.1) _ (λ p. form.in_list denied place p.0 p.1) (with_list_come x items) (λ a h. in_meets denied place a.0 a.1))
  by_layer (Expr-F.Case span place es None) =
      subst (λ ts. Comes scope (roll-Expr (Expr-F.Case span place (pairs es) (option_map {T = Shown} (λ e. e.0) None))) (both (all ts) (typed_last scope (option_map {T = Shown} (λ e. e.0) None)) >>= λ p. form.choice place.start p.0 p.1)) (sym (branches_are scope (pairs es)))
      (case_come span place es None)
  by_layer (Expr-F.Case span place es (Some x)) =
      subst (λ ts. Comes scope (roll-Expr (Expr-F.Case span place (pairs es) (option_map (λ e. e.0) (Some x)))) (both (all ts) (typed_last scope (option_map (λ e. e.0) (Some x))) >>= λ p. form.choice place.start p.0 p.1)) (sym (branches_are scope (pairs es)))
      (case_come span place es (Some x))
  by_layer (Expr-F.Cast span place x written) = one_form (Expr-F.Cast span place x.0 written) x (form.cast place written) refl (cast_meets place written)
  by_layer (Expr-F.Call span function arguments) =
      subst (λ ts. Comes scope (roll-Expr (Expr-F.Call span function (exprs arguments))) (all ts >>= form.call function (typing_spec.first_start (map (parted scope) (exprs arguments))))) (sym (typings_are scope (exprs arguments)))
      (subst (λ at. Comes scope (roll-Expr (Expr-F.Call span function (exprs arguments))) (all (map (typing scope) (exprs arguments)) >>= form.call function at)) (sym (first_starts scope (exprs arguments)))
      (layer_comes scope (Expr-F.Call span function (exprs arguments)) (map kind_of) _ (form.call function (first_at (exprs arguments))) (list_come arguments) (λ a h. call_meets function (first_at (exprs arguments)) a)))

pub comes : (scope : List ScopeColumn) (x : Expr) → Comes scope x (typing scope x)
comes scope = ind-Expr (Claim scope) (λ x y is.
    subst (Comes scope (roll-Expr x)) (sym (ap (λ p. p.typing) (fold-roll-Expr Part (part_of scope) x)))
    (subst (λ l. Comes scope (roll-Expr l) (form_of scope (map-Expr Expr Part (parted scope) l))) is (by_layer scope y)))
