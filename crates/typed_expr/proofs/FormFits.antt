-- Each form over parts that fit: the tree that it gives fits, and has a type that there is.
use Rattle.std.proofs.Common.{◌≡◌, ℕ, ◌^◌, ◌<◌, List, [], ◌∷◌, ◌++◌, map, Bool, true, false, Option, Some, None, pos, FitsSigned, refl, sym, ap, subst, ◌∙◌}
use Rattle.std.specs.Prelude.{◌&&◌, ◌||◌, not, nat_lt, if◌then◌else◌, codes, length, slice_get, option_map, IfOk, IfSome, Result, Ok, Err}
use Rattle.std.specs.Int.{w32, w64}
use Rattle.std.specs.List.{AllByRecursion, fold, flat_map, list_all, position}
use Rattle.std.proofs.lemmas.Bool.{and_parts, ltb-true}
use Rattle.std.proofs.lemmas.Option.{slice_get-map, slice_get_within, get_or_from_slice_get}
use Rattle.dm_types.specs.Ranges.{IsWellFormed, IsInRange, IsNullOrInRange}
use Rattle.dm_types.specs.declared.value.DataType.{DataType}
use Rattle.dm_types.specs.declared.value.DataType.TheVariants as kind
use Rattle.dm_types.specs.declared.value.Value.{Value}
use Rattle.dm_types.specs.declared.value.Value.TheVariants as value
use Rattle.dm_text.specs.Reading.{text_value}
use Rattle.sql_tree.specs.declared.token.Span.{Span}
use Rattle.sql_tree.specs.declared.tree.Literal.{Literal}
use Rattle.sql_tree.specs.declared.tree.Literal.TheVariants as l
use Rattle.sql_tree.specs.declared.tree.Name.{Name}
use Rattle.sql_tree.specs.declared.tree.Number.{Number}
use Rattle.sql_tree.specs.declared.tree.Operator.{Operator}
use Rattle.sql_tree.specs.declared.tree.Operator.TheVariants as o
use Rattle.sql_tree.specs.declared.tree.Prefix.{Prefix}
use Rattle.sql_tree.specs.declared.tree.Prefix.TheVariants as p
use Rattle.sql_tree.specs.declared.tree.Truth.{Truth}
use Rattle.sql_tree.specs.declared.tree.Truth.TheVariants as t
use Rattle.sql_tree.specs.declared.tree.WrittenKind.{WrittenKind}
use Rattle.sql_tree.specs.declared.tree.WrittenKind.TheVariants as w
use Rattle.sql_tree.specs.declared.tree.WrittenType.{WrittenType}
use Rattle.typed_expr.specs.declared.choice.Branch.{Branch}
use Rattle.typed_expr.specs.declared.scope.ScopeColumn.{ScopeColumn}
use Rattle.typed_expr.specs.declared.tree.DatePart.{DatePart}
use Rattle.typed_expr.specs.declared.tree.DatePart.TheVariants as part
use Rattle.typed_expr.specs.declared.tree.Op.{Op}
use Rattle.typed_expr.specs.declared.tree.Op.TheVariants as op
use Rattle.typed_expr.specs.declared.tree.TypedExpr.{TypedExpr, out-TypedExpr}
use Rattle.typed_expr.specs.declared.tree.TypedExpr.TheOpen.{TypedExpr-F}
use Rattle.typed_expr.specs.declared.tree.TypedExpr.TheVariants as e
use Rattle.typed_expr.specs.declared.tree.TypedExpr.TheVariants.{outs-Constant, outs-Column, outs-Negate, outs-Not, outs-Binary, outs-SameAs, outs-And, outs-Or, outs-Concat, outs-Is, outs-Between, outs-In, outs-Case, outs-Coalesce, outs-Cast, outs-Part, outs-Length}
use Rattle.typed_expr.specs.Columns as columns
use Rattle.typed_expr.specs.Fits.{Fits, AllFit, FitsNode, parts_of, listed, both_of, kinds_in, AreWellFormed, Has, IsBinary, IsBranch, ComparesWith, written}
use Rattle.typed_expr.specs.Forms as form
use Rattle.typed_expr.specs.Kinds.{TypedLayer, kind_of, kind_at}
use Rattle.typed_expr.specs.Literals as literals
use Rattle.typed_expr.specs.Rules as rules
use Rattle.typed_expr.specs.Rules.{Typing, both, all, collected, given, ◌>>=◌}
use Rattle.typed_expr.specs.Tables as table
use Rattle.typed_expr.proofs.FormTypes.{cast_kind, value_kinds, last_kinds, joint_kind}
use Rattle.typed_expr.proofs.TypesGiven.{Joins, AllJoined, joins_castable, common_joined, decimal_is, decimal_of, type_formed, assignable_castable, stands, condition_stands, dated_stands, string_stands, boolean_is, string_is, meets_stands, castable_stands, lines_formed, line_takes, wanted_formed}

-- what a text reads as is in the range of its type
abbrev pub Reads : Type 0
Reads = (k : DataType) (text : List ℕ) (v : Value) → IsWellFormed k → text_value k text ≡ Some v → IsInRange k v

-- ---- what forms come to

pub then_ok : {A B : Type 0} (P : A → Type 0) (Q : B → Type 0) (found : Typing A) (f : A → Typing B) → IfOk found P
    → ((a : A) → P a → IfOk (f a) Q) → IfOk (found >>= f) Q
then_ok P Q (Ok a) f h i = i a h
then_ok P Q (Err b) f h i = tt

given_ok : {A B : Type 0} (Q : B → Type 0) (rule at : ℕ) (found : Option A) (f : A → Typing B)
    → ((a : A) → found ≡ Some a → IfOk (f a) Q) → IfOk (given rule at found >>= f) Q
given_ok Q rule at None f h = tt
given_ok Q rule at (Some a) f h = h a refl

pub on_test : {A : Type 0} (P : A → Type 0) (test : Bool) (rule at : ℕ) (a : A) → (test ≡ true → P a)
    → IfOk (if test then Ok a else rules.breaks rule at) P
on_test P true rule at a h = h refl
on_test P false rule at a h = tt

if_ok : {A : Type 0} (P : A → Type 0) (test : Bool) (s t : Typing A) → IfOk s P → IfOk t P
    → IfOk (if test then s else t) P
if_ok P true s t h i = h
if_ok P false s t h i = i

pub both_ok : {A B : Type 0} (P : A → Type 0) (Q : B → Type 0) (s : Typing A) (t : Typing B) → IfOk s P → IfOk t Q
    → IfOk (both s t) (λ p. P p.0 × Q p.1)
both_ok P Q (Ok a) (Ok b) h i = (h, i)
both_ok P Q (Ok a) (Err e) h i = tt
both_ok P Q (Err d) (Ok b) h i = tt
both_ok P Q (Err d) (Err e) h i = tt

weaker : {A : Type 0} (P Q : A → Type 0) (found : Typing A) → IfOk found P → ((a : A) → P a → Q a) → IfOk found Q
weaker P Q (Ok a) h i = i a h
weaker P Q (Err b) h i = tt

all_append : {A : Type 0} (P : A → Type 0) (xs ys : List A) → AllByRecursion P xs → AllByRecursion P ys
    → AllByRecursion P (xs ++ ys)
all_append P [] ys h i = i
all_append P (x ∷ xs) ys h i = (h.0, all_append P xs ys h.1 i)

all_split : {A : Type 0} (P : A → Type 0) (xs ys : List A) → AllByRecursion P (xs ++ ys)
    → AllByRecursion P xs × AllByRecursion P ys
all_split P [] ys h = (tt, h)
all_split P (x ∷ xs) ys h = let rest = all_split P xs ys h.1 in ((h.0, rest.0), rest.1)

all_push : {A : Type 0} (P : A → Type 0) (xs : List A) (x : A) → AllByRecursion P xs → P x
    → AllByRecursion P (xs ++ x ∷ [])
all_push P [] x h p = (p, tt)
all_push P (y ∷ ys) x h p = (h.0, all_push P ys x h.1 p)

module _ {A : Type 0} (P : A → Type 0) where
  collected_ok : (found : Typing (List A)) (part : Typing A) → IfOk found (AllByRecursion P) → IfOk part P
      → IfOk (collected found part) (AllByRecursion P)
  collected_ok found part h i =
      then_ok (λ q. AllByRecursion P q.0 × P q.1) (AllByRecursion P) (both found part) _
      (both_ok (AllByRecursion P) P found part h i) (λ q g. all_push P q.0 q.1 g.0 g.1)

  fold_ok : (found : Typing (List A)) (parts : List (Typing A)) → IfOk found (AllByRecursion P)
      → AllByRecursion (λ part. IfOk part P) parts → IfOk (fold collected found parts) (AllByRecursion P)
  fold_ok found [] h i = h
  fold_ok found (part ∷ parts) h i = fold_ok (collected found part) parts (collected_ok found part h i.0) i.1

  pub all_ok : (parts : List (Typing A)) → AllByRecursion (λ part. IfOk part P) parts
      → IfOk (all parts) (AllByRecursion P)
  all_ok parts h = fold_ok (Ok []) parts tt h

-- ---- trees that fit

-- a tree that fits, of a type that there is
pub record IsSound (kinds : List DataType) (tree : TypedExpr) : Type 0 where
  pub fits : Fits kinds tree
  pub formed : IsWellFormed (kind_of tree)

module _ (kinds : List DataType) where
  abbrev Sound : TypedExpr → Type 0
  Sound tree = IsSound kinds tree

  abbrev AllSound : List TypedExpr → Type 0
  AllSound trees = AllByRecursion (IsSound kinds) trees

  abbrev Gives : Typing TypedExpr → Type 0
  Gives found = IfOk found (IsSound kinds)

  node : (layer : TypedLayer) (tree : TypedExpr) → out-TypedExpr tree ≡ layer → IsWellFormed (kind_at layer)
      → FitsNode kinds layer → AllFit kinds (parts_of layer) → Sound tree
  node layer tree is formed fits parts = record {
    fits = Fits.formed (subst (FitsNode kinds) (sym is) fits) (subst (λ x. AllFit kinds (parts_of x)) (sym is) parts);
    formed = subst (λ x. IsWellFormed (kind_at x)) (sym is) formed;
  }

  pub one_fits : (x : TypedExpr) → Fits kinds x → AllFit kinds (x ∷ [])
  one_fits x h = AllFit.more h AllFit.none

  alone : (x : TypedExpr) → Sound x → AllFit kinds (x ∷ [])
  alone x h = one_fits x h.fits

  pair : (x y : TypedExpr) → Sound x → Sound y → AllFit kinds (x ∷ y ∷ [])
  pair x y h i = AllFit.more h.fits (alone y i)

  all_fit : (xs : List TypedExpr) → AllSound xs → AllFit kinds xs
  all_fit [] h = AllFit.none
  all_fit (x ∷ xs) h = AllFit.more h.0.fits (all_fit xs h.1)

  pub fit_append : (xs ys : List TypedExpr) → AllFit kinds xs → AllFit kinds ys → AllFit kinds (xs ++ ys)
  fit_append _ ys AllFit.none q = q
  fit_append _ ys (AllFit.more {x} {xs} h p) q = AllFit.more h (fit_append xs ys p q)

  -- ---- casts, and NULL

  pub cast_sound : (k : DataType) (x : TypedExpr) → Sound x → IsWellFormed k → table.castable (kind_of x) k ≡ true
      → Sound (form.as_kind k x)
  cast_sound k x h formed allowed = by_test (table.is_same k (kind_of x))
    where
      by_test : (test : Bool) → Sound (if test then x else e.Cast k x)
      by_test true = h
      by_test false = node (TypedExpr-F.Cast k x) _ (outs-Cast k x) formed (formed, allowed) (alone x h)

  lifted_sound : (k : DataType) (x : TypedExpr) → Sound x → IsWellFormed k → Sound (form.unless_null k x)
  lifted_sound k x h formed =
      cast_sound (table.stands_for k (kind_of x)) x h (stands IsWellFormed k (kind_of x) formed h.formed)
      (castable_stands k (kind_of x))

  lifted_kind : (k : DataType) (x : TypedExpr) → kind_of (form.unless_null k x) ≡ table.stands_for k (kind_of x)
  lifted_kind k x = cast_kind (table.stands_for k (kind_of x)) x

  lifted_condition : (x : TypedExpr) → form.is_truth x ≡ true → Has kind.Boolean (form.unless_null kind.Boolean x)
  lifted_condition x h = lifted_kind kind.Boolean x ∙ condition_stands (kind_of x) h

  not_sound : (x : TypedExpr) → Sound x → Has kind.Boolean x → Sound (e.Not x)
  not_sound x h k = node (TypedExpr-F.Not x) _ (outs-Not x) tt k (alone x h)

  negated_sound : (denied : Bool) (x : TypedExpr) → Sound x → Has kind.Boolean x → Sound (form.negated denied x)
  negated_sound true x h k = not_sound x h k
  negated_sound false x h k = h

  -- ---- literals and columns

  constant_sound : (k : DataType) (v : Value) → IsWellFormed k → IsNullOrInRange k v → Sound (e.Constant k v)
  constant_sound k v formed ranged = node (TypedExpr-F.Constant k v) _ (outs-Constant k v) formed ranged AllFit.none

  decimal_sound : (at : ℕ) (n : Number) → Gives (literals.decimal_literal at n)
  decimal_sound at n =
      given_ok (IsSound kinds) 4 at (literals.decimal_kind n) _ (by_test (nat_lt n.unscaled (10 ^ n.precision)) refl)
    where
      of_type : (k : DataType) → n.unscaled < 10 ^ n.precision → kind.Decimal n.precision n.scale ≡ k → IsWellFormed k
          → Sound (literals.decimal_constant n k)
      of_type k small is formed =
          let here : IsWellFormed (kind.Decimal n.precision n.scale) = subst IsWellFormed (sym is) formed in
          subst (λ j. Sound (literals.decimal_constant n j)) is
          (constant_sound (kind.Decimal n.precision n.scale) _ here (here, refl, small))

      by_test : (test : Bool) → nat_lt n.unscaled (10 ^ n.precision) ≡ test → (k : DataType)
          → (if test then table.decimal n.precision n.scale else None) ≡ Some k → Sound (literals.decimal_constant n k)
      by_test true small k h =
          let found = decimal_is n.precision n.scale k h in
          of_type k (ltb-true _ _ small) (decimal_of n.precision n.scale k h) found.formed
      by_test false small k h = absurd (cc)

  integer_sound : (n : ℕ) → n < 2 ^ 31 → Sound (e.Constant kind.Integer (value.Int (pos n)))
  integer_sound n h = constant_sound kind.Integer _ tt (tt, record { sfits = h }, tt)

  long_sound : (n : ℕ) → n < 2 ^ 63 → Sound (e.Constant kind.Long (value.Int (pos n)))
  long_sound n h = constant_sound kind.Long _ tt (tt, record { sfits = h }, tt)

  whole_sound : (at : ℕ) (n : Number) → Gives (literals.whole_literal at n)
  whole_sound at n = by_small (nat_lt n.unscaled (2 ^ 31)) refl
    where
      by_large : (large : Bool) → nat_lt n.unscaled (2 ^ 63) ≡ large
          → Gives (if large then Ok (e.Constant kind.Long (value.Int (pos n.unscaled)))
          else literals.decimal_literal at n)
      by_large true h = long_sound n.unscaled (ltb-true _ _ h)
      by_large false h = decimal_sound at n

      by_small : (small : Bool) → nat_lt n.unscaled (2 ^ 31) ≡ small
          → Gives (if small then Ok (e.Constant kind.Integer (value.Int (pos n.unscaled)))
          else if nat_lt n.unscaled (2 ^ 63) then Ok (e.Constant kind.Long (value.Int (pos n.unscaled)))
          else literals.decimal_literal at n)
      by_small true h = integer_sound n.unscaled (ltb-true _ _ h)
      by_small false h = by_large (nat_lt n.unscaled (2 ^ 63)) refl

  null_or : (k : DataType) (v : Value) → IsInRange k v → IsNullOrInRange k v
  null_or k value.Null h = tt
  null_or k _ h = h

  dated_sound : Reads → (place : Span) (k : DataType) (text : List ℕ) → IsWellFormed k
      → Gives (literals.dated_literal place k text)
  dated_sound reads place k text formed =
      given_ok (IsSound kinds) 14 place.start (text_value k text) _
      (λ v h. constant_sound k v formed (null_or k v (reads k text v formed h)))

  pub literal_sound : Reads → (span : Span) (x : Literal) → Gives (literals.literal span x)
  literal_sound reads span l.Null = constant_sound kind.Void value.Null tt tt
  literal_sound reads span l.True = constant_sound kind.Boolean _ tt (tt, tt, tt)
  literal_sound reads span l.False = constant_sound kind.Boolean _ tt (tt, tt, tt)
  literal_sound reads span (l.Whole n) = whole_sound span.start n
  literal_sound reads span (l.Decimal n) = decimal_sound span.start n
  literal_sound reads span (l.Text text) = constant_sound kind.Str _ tt (tt, tt, tt)
  literal_sound reads span (l.Bytes bytes) = constant_sound kind.Binary _ tt (tt, tt, tt)
  literal_sound reads span (l.Date place text) = dated_sound reads place kind.Date text tt
  literal_sound reads span (l.Timestamp place text) = dated_sound reads place kind.Timestamp text tt

  -- ---- signs, operators and tests

  pub unary_sound : (prefix : Prefix) (place : Span) (x : TypedExpr) → Sound x → Gives (form.unary prefix place x)
  unary_sound p.Not place x h = on_test (IsSound kinds) (form.is_truth x) 3 place.start _
      (λ test. not_sound (form.unless_null kind.Boolean x) (lifted_sound kind.Boolean x h tt) (lifted_condition x test))
  unary_sound p.Minus place x h = on_test (IsSound kinds) (table.is_number (kind_of x)) 3 place.start _
      (λ test. node (TypedExpr-F.Negate (kind_of x) x) _ (outs-Negate (kind_of x) x) h.formed (h.formed, test, refl)
      (alone x h))
  unary_sound p.Plus place x h = on_test (IsSound kinds) (table.is_number (kind_of x)) 3 place.start _ (λ test. h)

  module _ (k : DataType) (x y : TypedExpr) (h : Sound x) (i : Sound y) where
    abbrev Typed : Operator → Type 0
    Typed operator = table.by_lines (table.lines_of operator) (kind_of x) (kind_of y) ≡ Ok k

    number_sound : (operator : Op) → IsBinary k operator x y → Sound (e.Binary k operator x y)
    number_sound operator typed =
        let formed = lines_formed (kind_of x) (kind_of y) h.formed i.formed (written operator) k typed in
        node (TypedExpr-F.Binary k operator x y) _ (outs-Binary k operator x y) formed (formed, typed) (pair x y h i)

    two_booleans : Typed o.And → Has kind.Boolean x × Has kind.Boolean y
    two_booleans typed =
        let two = and_parts (table.is_boolean (kind_of x)) (table.is_boolean (kind_of y))
        (line_takes table.are_booleans kind.Boolean k (kind_of x) (kind_of y) typed) in
        (boolean_is (kind_of x) two.0, boolean_is (kind_of y) two.1)

    two_strings : Typed o.Concat → Has kind.Str x × Has kind.Str y
    two_strings typed =
        let two = and_parts (table.is_string (kind_of x)) (table.is_string (kind_of y))
        (line_takes table.are_strings kind.Str k (kind_of x) (kind_of y) typed) in
        (string_is (kind_of x) two.0, string_is (kind_of y) two.1)

    tree_sound : (operator : Operator) → Typed operator → Sound (form.binary_tree operator k x y)
    tree_sound o.Or typed = node (TypedExpr-F.Or x y) _ (outs-Or x y) tt (two_booleans typed) (pair x y h i)
    tree_sound o.And typed = node (TypedExpr-F.And x y) _ (outs-And x y) tt (two_booleans typed) (pair x y h i)
    tree_sound o.Concat typed = node (TypedExpr-F.Concat x y) _ (outs-Concat x y) tt (two_strings typed) (pair x y h i)
    tree_sound o.SameAs typed = node (TypedExpr-F.SameAs x y) _ (outs-SameAs x y) tt
        (line_takes table.are_comparable kind.Boolean k (kind_of x) (kind_of y) typed) (pair x y h i)
    tree_sound o.Equal typed = number_sound op.Equal typed
    tree_sound o.NotEqual typed = number_sound op.Unequal typed
    tree_sound o.Less typed = number_sound op.Less typed
    tree_sound o.LessOrEqual typed = number_sound op.LessEqual typed
    tree_sound o.Greater typed = number_sound op.Greater typed
    tree_sound o.GreaterOrEqual typed = number_sound op.GreaterEqual typed
    tree_sound o.Plus typed = number_sound op.Add typed
    tree_sound o.Minus typed = number_sound op.Subtract typed
    tree_sound o.Times typed = number_sound op.Multiply typed
    tree_sound o.Remainder typed = number_sound op.Remainder typed
    tree_sound o.Divide typed = number_sound op.Quotient typed

  pub binary_sound : (operator : Operator) (place : Span) (x y : TypedExpr) → Sound x → Sound y
      → Gives (form.binary operator place x y)
  binary_sound operator place x y h i = by_found (form.binary_kind operator (kind_of x) (kind_of y)) refl
    where
      left : DataType
      left = table.wanted operator (kind_of y)

      right : DataType
      right = table.wanted operator (kind_of x)

      lines : DataType → DataType → Result DataType ℕ
      lines a b = table.by_lines (table.lines_of operator) a b

      typed : (k : DataType) → form.binary_kind operator (kind_of x) (kind_of y) ≡ Ok k
          → lines (kind_of (form.unless_null left x)) (kind_of (form.unless_null right y)) ≡ Ok k
      typed k found =
          ap (λ a. lines a (kind_of (form.unless_null right y))) (lifted_kind left x)
          ∙ ap (λ b. lines (table.stands_for left (kind_of x)) b) (lifted_kind right y) ∙ found

      by_found : (found : Result DataType ℕ) → form.binary_kind operator (kind_of x) (kind_of y) ≡ found
          → Gives (form.of_rule place.start found >>= λ k.
          Ok (form.binary_tree operator k (form.left_of operator x y) (form.right_of operator x y)))
      by_found (Ok k) is =
          tree_sound k (form.left_of operator x y) (form.right_of operator x y)
          (lifted_sound left x h (wanted_formed operator (kind_of y) i.formed))
          (lifted_sound right y i (wanted_formed operator (kind_of x) h.formed)) operator (typed k is)
      by_found (Err rule) is = tt

  tested_sound : (truth : Truth) (denied : Bool) (x : TypedExpr) → Sound x → Has kind.Boolean x
      → Sound (form.negated denied (e.Is truth x))
  tested_sound truth denied x h k =
      negated_sound denied _ (node (TypedExpr-F.Is truth x) _ (outs-Is truth x) tt (is_tested truth) (alone x h))
      (ap kind_at (outs-Is truth x))
    where
      is_tested : (truth : Truth) → FitsNode kinds (TypedExpr-F.Is truth x)
      is_tested t.Null = tt
      is_tested t.True = k
      is_tested t.False = k

  pub is_sound : (truth : Truth) (denied : Bool) (place : Span) (x : TypedExpr) → Sound x
      → Gives (form.is_test truth denied place x)
  is_sound t.Null denied place x h =
      negated_sound denied _ (node (TypedExpr-F.Is t.Null x) _ (outs-Is t.Null x) tt tt (alone x h))
      (ap kind_at (outs-Is t.Null x))
  is_sound t.True denied place x h = on_test (IsSound kinds) (form.is_truth x) 3 place.start _
      (λ test. tested_sound t.True denied (form.unless_null kind.Boolean x) (lifted_sound kind.Boolean x h tt)
      (lifted_condition x test))
  is_sound t.False denied place x h = on_test (IsSound kinds) (form.is_truth x) 3 place.start _
      (λ test. tested_sound t.False denied (form.unless_null kind.Boolean x) (lifted_sound kind.Boolean x h tt)
      (lifted_condition x test))

  lifted_compares : (x y : TypedExpr) → form.compares_with x y ≡ true → ComparesWith x (form.unless_null (kind_of x) y)
  lifted_compares x y h =
      subst (λ j. table.meets (kind_of x) j ≡ true) (sym (lifted_kind (kind_of x) y))
      (meets_stands (kind_of x) (kind_of y) h)

  pub between_sound : (denied : Bool) (place : Span) (x low high : TypedExpr) → Sound x → Sound low → Sound high
      → Gives (form.between denied place x low high)
  between_sound denied place x low high h i j =
      on_test (IsSound kinds) (form.compares_with x low && form.compares_with x high) 3 place.start _ (λ test.
      let two = and_parts (form.compares_with x low) (form.compares_with x high) test in
      let from = form.unless_null (kind_of x) low in
      let to = form.unless_null (kind_of x) high in
      negated_sound denied _ (node (TypedExpr-F.Between x from to) _ (outs-Between x from to) tt
      (lifted_compares x low two.0, lifted_compares x high two.1)
      (AllFit.more h.fits
      (pair from to (lifted_sound (kind_of x) low i h.formed) (lifted_sound (kind_of x) high j h.formed))))
      (ap kind_at (outs-Between x from to)))

  all_lifted : (k : DataType) (xs : List TypedExpr) → AllSound xs → IsWellFormed k
      → AllSound (map (form.unless_null k) xs)
  all_lifted k [] h formed = tt
  all_lifted k (x ∷ xs) h formed = (lifted_sound k x h.0 formed, all_lifted k xs h.1 formed)

  all_compare : (x : TypedExpr) (items : List TypedExpr) → list_all (form.compares_with x) items ≡ true
      → AllByRecursion (ComparesWith x) (map (form.unless_null (kind_of x)) items)
  all_compare x [] h = tt
  all_compare x (item ∷ items) h =
      let two = and_parts (form.compares_with x item) (list_all (form.compares_with x) items) h in
      (lifted_compares x item two.0, all_compare x items two.1)

  pub in_sound : (denied : Bool) (place : Span) (x : TypedExpr) (items : List TypedExpr) → Sound x → AllSound items
      → Gives (form.in_list denied place x items)
  in_sound denied place x items h i =
      on_test (IsSound kinds) (list_all (form.compares_with x) items) 3 place.start _ (λ test.
      let all = map (form.unless_null (kind_of x)) items in
      negated_sound denied _ (node (TypedExpr-F.In x all) _ (outs-In x all) tt (all_compare x items test)
      (AllFit.more h.fits (all_fit all (all_lifted (kind_of x) items i h.formed))))
      (ap kind_at (outs-In x all)))

  -- ---- casts

  pub cast_form_sound : (place : Span) (written : WrittenType) (x : TypedExpr) → Sound x
      → Gives (form.cast place written x)
  cast_form_sound place written x h = by_kind written.kind
    where
      by_test : (k : DataType) (test : Bool) → table.is_type k ≡ test
          → Gives (if test then form.cast_as place k x else rules.breaks 11 written.span.start)
      by_test k true is = on_test (IsSound kinds) (table.castable (kind_of x) k) 11 place.start _
          (λ allowed. cast_sound k x h (type_formed k is) allowed)
      by_test k false is = tt

      by_kind : (wanted : WrittenKind) → Gives (form.cast_to place written.span wanted x)
      by_kind (w.BadDecimal precision scale) = tt
      by_kind (w.Type k) = by_test k (table.is_type k) refl

  pub assignment_sound : (at : ℕ) (k : DataType) (x : TypedExpr) → Sound x → IsWellFormed k
      → Gives (form.assignment at k x)
  assignment_sound at k x h formed = on_test (IsSound kinds) (table.assignable (kind_of x) k) 6 at _
      (λ allowed. cast_sound k x h formed (assignable_castable (kind_of x) k allowed))

  -- ---- choices

  abbrev SoundBranch : Branch → Type 0
  SoundBranch b = IsSound kinds b.condition × IsSound kinds b.value

  -- the condition of a branch is one
  abbrev IsMet : Branch → Type 0
  IsMet b = form.is_truth b.condition ≡ true

  condition_met : (P : Type 0) (found : form.Found) (b : Branch) → IfOk found (λ u. P)
      → IfOk (form.with_condition found b) (λ u. P × IsMet b)
  condition_met P found b h =
      then_ok {B = Unit {0}} (λ q. P × IsMet b) (λ u. P × IsMet b) (both found (form.condition_holds b)) _
      (both_ok (λ u. P) (λ u. IsMet b) found (form.condition_holds b) h
      (on_test {A = Unit {0}} (λ u. IsMet b) (form.is_truth b.condition) 5 b.at tt (λ test. test))) (λ q g. g)

  conditions_met : (P : Type 0) (found : form.Found) (bs : List Branch) → IfOk found (λ u. P)
      → IfOk (fold form.with_condition found bs) (λ u. P × AllByRecursion IsMet bs)
  conditions_met P found [] h = weaker (λ u. P) (λ u. P × Unit {0}) found h (λ u g. (g, tt))
  conditions_met P found (b ∷ bs) h =
      weaker (λ u. (P × IsMet b) × AllByRecursion IsMet bs) (λ u. P × (IsMet b × AllByRecursion IsMet bs))
      (fold form.with_condition (form.with_condition found b) bs)
      (conditions_met (P × IsMet b) (form.with_condition found b) bs (condition_met P found b h))
      (λ u g. (g.0.0, (g.0.1, g.1)))

  branches_fit : (k : DataType) (bs : List Branch) → AllByRecursion SoundBranch bs
      → AllByRecursion (λ j. Joins j k) (value_kinds bs) → IsWellFormed k
      → AllFit kinds (flat_map both_of (map (form.typed_branch k) bs))
  branches_fit k [] h joins formed = AllFit.none
  branches_fit k (b ∷ bs) h joins formed =
      AllFit.more (lifted_sound kind.Boolean b.condition h.0.0 tt).fits
      (AllFit.more (cast_sound k b.value h.0.1 formed (joins_castable (kind_of b.value) k joins.0)).fits
      (branches_fit k bs h.1 joins.1 formed))

  last_fits : (k : DataType) (otherwise : Option TypedExpr) → IfSome otherwise (IsSound kinds)
      → AllByRecursion (λ j. Joins j k) (last_kinds otherwise) → IsWellFormed k
      → AllFit kinds (listed (option_map (form.as_kind k) otherwise))
  last_fits k None h joins formed = AllFit.none
  last_fits k (Some x) h joins formed =
      alone (form.as_kind k x) (cast_sound k x h formed (joins_castable (kind_of x) k joins.0))

  are_branches : (k : DataType) (bs : List Branch) → AllByRecursion IsMet bs
      → AllByRecursion (IsBranch k) (map (form.typed_branch k) bs)
  are_branches k [] h = tt
  are_branches k (b ∷ bs) h = ((lifted_condition b.condition h.0, cast_kind k b.value), are_branches k bs h.1)

  last_has : (k : DataType) (otherwise : Option TypedExpr) → IfSome (option_map (form.as_kind k) otherwise) (Has k)
  last_has k None = tt
  last_has k (Some x) = cast_kind k x

  values_formed : (bs : List Branch) → AllByRecursion SoundBranch bs → AllByRecursion IsWellFormed (value_kinds bs)
  values_formed [] h = tt
  values_formed (b ∷ bs) h = (h.0.1.formed, values_formed bs h.1)

  last_formed : (otherwise : Option TypedExpr) → IfSome otherwise (IsSound kinds)
      → AllByRecursion IsWellFormed (last_kinds otherwise)
  last_formed None h = tt
  last_formed (Some x) h = (h.formed, tt)

  case_sound : (k : DataType) (bs : List Branch) (otherwise : Option TypedExpr) → AllByRecursion SoundBranch bs
      → IfSome otherwise (IsSound kinds) → AllByRecursion IsMet bs → form.value_kind bs otherwise ≡ Some k
      → Sound (form.choice_of k bs otherwise)
  case_sound k bs otherwise h i met typed =
      let joined = common_joined (value_kinds bs ++ last_kinds otherwise) k (sym (joint_kind bs otherwise) ∙ typed) in
      let formed = joined.formed tt (all_append IsWellFormed (value_kinds bs) (last_kinds otherwise)
      (values_formed bs h) (last_formed otherwise i)) in
      let parts = all_split (λ j. Joins j k) (value_kinds bs) (last_kinds otherwise) joined.rest in
      let branches = map (form.typed_branch k) bs in
      let last = option_map (form.as_kind k) otherwise in
      node (TypedExpr-F.Case k branches last) _ (outs-Case k branches last) formed
      (are_branches k bs met, last_has k otherwise)
      (fit_append (flat_map both_of branches) (listed last) (branches_fit k bs h parts.0 formed)
      (last_fits k otherwise i parts.1 formed))

  pub choice_sound : (at : ℕ) (bs : List Branch) (otherwise : Option TypedExpr) → AllByRecursion SoundBranch bs
      → IfSome otherwise (IsSound kinds) → Gives (form.choice at bs otherwise)
  choice_sound at bs otherwise h i =
      by_parts (form.conditions bs) (conditions_met (Unit {0}) (Ok tt) bs tt) (form.value_kind bs otherwise) refl
    where
      by_parts : (met : form.Found) → IfOk met (λ u. Unit {0} × AllByRecursion IsMet bs) → (found : Option DataType)
          → form.value_kind bs otherwise ≡ found
          → Gives ((both met (given 3 at found) >>= λ q. Ok q.1) >>= λ k. Ok (form.choice_of k bs otherwise))
      by_parts (Ok u) m (Some k) is = case_sound k bs otherwise h i m.1 is
      by_parts (Ok u) m None is = tt
      by_parts (Err b) m (Some k) is = tt
      by_parts (Err b) m None is = tt

  -- ---- functions

  all_cast : (k : DataType) (xs : List TypedExpr) → AllSound xs → AllByRecursion (λ j. Joins j k) (map kind_of xs)
      → IsWellFormed k → AllFit kinds (map (form.as_kind k) xs)
  all_cast k [] h joins formed = AllFit.none
  all_cast k (x ∷ xs) h joins formed =
      AllFit.more (cast_sound k x h.0 formed (joins_castable (kind_of x) k joins.0)).fits
      (all_cast k xs h.1 joins.1 formed)

  all_have : (k : DataType) (xs : List TypedExpr) → AllByRecursion (Has k) (map (form.as_kind k) xs)
  all_have k [] = tt
  all_have k (x ∷ xs) = (cast_kind k x, all_have k xs)

  kinds_formed : (xs : List TypedExpr) → AllSound xs → AllByRecursion IsWellFormed (map kind_of xs)
  kinds_formed [] h = tt
  kinds_formed (x ∷ xs) h = (h.0.formed, kinds_formed xs h.1)

  coalesce_sound : (at : ℕ) (xs : List TypedExpr) → AllSound xs → Gives (form.coalesce at xs)
  coalesce_sound at xs h = given_ok (IsSound kinds) 3 at (table.common_of (map kind_of xs)) _ (λ k typed.
      let joined = common_joined (map kind_of xs) k typed in
      let formed = joined.formed tt (kinds_formed xs h) in
      let values = map (form.as_kind k) xs in
      node (TypedExpr-F.Coalesce k values) _ (outs-Coalesce k values) formed (all_have k xs)
      (all_cast k xs h joined.rest formed))

  if_sound : (at place : ℕ) (xs : List TypedExpr) → AllSound xs → Gives (form.call_if at place xs)
  if_sound at place [] h = tt
  if_sound at place (c ∷ []) h = tt
  if_sound at place (c ∷ a ∷ []) h = tt
  if_sound at place (c ∷ a ∷ b ∷ []) h =
      choice_sound at (record { at = place; condition = c; value = a } ∷ []) (Some b) ((h.0, h.1.0), tt) h.1.1.0
  if_sound at place (c ∷ a ∷ b ∷ d ∷ more) h = tt

  some_sound : (at : ℕ) (xs : List TypedExpr) → AllSound xs → Gives (form.call_coalesce at xs)
  some_sound at [] h = tt
  some_sound at (x ∷ xs) h = coalesce_sound at (x ∷ xs) h

  date_sound : (at : ℕ) (wanted : DatePart) (xs : List TypedExpr) → AllSound xs → Gives (form.call_part at wanted xs)
  date_sound at wanted [] h = tt
  date_sound at wanted (x ∷ []) h =
      on_test (IsSound kinds) (table.is_dated (kind_of x) || table.is_void (kind_of x)) 3 at _ (λ test.
      let lifted = form.unless_null kind.Date x in
      node (TypedExpr-F.Part wanted lifted) _ (outs-Part wanted lifted) tt
      (subst (λ j. table.is_dated j ≡ true) (sym (lifted_kind kind.Date x)) (dated_stands (kind_of x) test))
      (alone lifted (lifted_sound kind.Date x h.0 tt)))
  date_sound at wanted (x ∷ y ∷ more) h = tt

  length_sound : (at : ℕ) (xs : List TypedExpr) → AllSound xs → Gives (form.call_length at xs)
  length_sound at [] h = tt
  length_sound at (x ∷ []) h =
      on_test (IsSound kinds) (table.is_string (kind_of x) || table.is_void (kind_of x)) 3 at _ (λ test.
      let lifted = form.unless_null kind.Str x in
      node (TypedExpr-F.Length lifted) _ (outs-Length lifted) tt
      (lifted_kind kind.Str x ∙ string_stands (kind_of x) test)
      (alone lifted (lifted_sound kind.Str x h.0 tt)))
  length_sound at (x ∷ y ∷ more) h = tt

  pub call_sound : (name : Name) (place : ℕ) (xs : List TypedExpr) → AllSound xs → Gives (form.call name place xs)
  call_sound name place xs h =
      let at = name.span.start in
      if_ok (IsSound kinds) (form.is_function (codes "IF") name) _ _ (if_sound at place xs h)
      (if_ok (IsSound kinds) (form.is_function (codes "COALESCE") name) _ _ (some_sound at xs h)
      (if_ok (IsSound kinds) (form.is_function (codes "YEAR") name) _ _ (date_sound at part.Year xs h)
      (if_ok (IsSound kinds) (form.is_function (codes "MONTH") name) _ _ (date_sound at part.Month xs h)
      (if_ok (IsSound kinds) (form.is_function (codes "DAY") name) _ _ (date_sound at part.Day xs h)
      (if_ok (IsSound kinds) (form.is_function (codes "LENGTH") name) _ _ (length_sound at xs h) tt)))))

-- ---- columns

pub column_sound : (scope : List ScopeColumn) → AreWellFormed scope
    → (span : Span) (qualifier : Option Name) (name : Name)
    → IfOk (columns.column scope span qualifier name) (IsSound (kinds_in scope))
column_sound scope formed span qualifier name =
    given_ok (IsSound (kinds_in scope)) 1 span.start (position (columns.is_named qualifier name) scope) _ (λ place h.
    given_ok (IsSound (kinds_in scope)) 1 span.start (slice_get scope place) _ (λ first is.
    by_two place first is (columns.is_of_two qualifier scope first)))
  where
    by_two : (place : ℕ) (first : ScopeColumn) → slice_get scope place ≡ Some first → (two : Bool)
        → IfOk (if two then rules.breaks 2 span.start else Ok (e.Column first.kind place)) (IsSound (kinds_in scope))
    by_two place first is true = tt
    by_two place first is false =
        node (kinds_in scope) (TypedExpr-F.Column first.kind place) _ (outs-Column first.kind place)
        (subst (λ (c : ScopeColumn). IsWellFormed c.kind) (get_or_from_slice_get scope place first first is)
        (formed place first (slice_get_within scope place first is)))
        (slice_get-map (λ c. c.kind) scope place ∙ ap (option_map (λ c. c.kind)) is) AllFit.none
