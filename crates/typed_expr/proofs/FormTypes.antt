-- Each form over parts that have types: the tree that it gives has the type that its line of the tables says, and what
-- is broken is the soonest of what the line says.
use Rattle.std.proofs.Common.{◌≡◌, ℕ, zero, suc, ◌^◌, Bool, true, false, cond, List, [], ◌∷◌, ◌++◌, length, map, Option, Some, None, refl, sym, ap, subst, arith, ◌∙◌}
use Rattle.std.specs.Prelude.{◌&&◌, ◌||◌, not, nat_lt, ◌==◌, if◌then◌else◌, codes, slice_get, is_some, Result, Ok, Err}
use Rattle.std.specs.List.{Contains, fold, list_all, find, position_or_len}
use Rattle.std.specs.Option.{option_and_then}
use Rattle.std.proofs.lemmas.List.{append_assoc, append-nil}
use Rattle.std.proofs.lemmas.Bool.{eqb-true, ltb-false}
use Rattle.std.proofs.lemmas.Option.{slice_get_past}
use Rattle.std.proofs.lemmas.List.Folds.{find_at}
use Rattle.std.proofs.lemmas.List.Sums.{fold-append}
use Rattle.std.proofs.lemmas.List.Elements.{Contains-append_left, Contains-append_right, Contains-append_cases}
use Rattle.dm_types.specs.declared.value.DataType.{DataType}
use Rattle.dm_types.specs.declared.value.DataType.TheVariants as kind
use Rattle.dm_types.specs.declared.value.Value.{Value}
use Rattle.sql_tree.specs.declared.token.Span.{Span}
use Rattle.sql_tree.specs.declared.tree.Literal.{Literal}
use Rattle.sql_tree.specs.declared.tree.Literal.TheVariants as l
use Rattle.sql_tree.specs.declared.tree.Name.{Name}
use Rattle.sql_tree.specs.declared.tree.Operator.{Operator}
use Rattle.sql_tree.specs.declared.tree.Operator.TheVariants as o
use Rattle.sql_tree.specs.declared.tree.Prefix.{Prefix}
use Rattle.sql_tree.specs.declared.tree.Prefix.TheVariants as p
use Rattle.sql_tree.specs.declared.tree.Truth.{Truth}
use Rattle.sql_tree.specs.declared.tree.Truth.TheVariants as t
use Rattle.sql_tree.specs.declared.tree.WrittenKind.{WrittenKind}
use Rattle.sql_tree.specs.declared.tree.WrittenKind.TheVariants as w
use Rattle.sql_tree.specs.declared.tree.WrittenType.{WrittenType}
use Rattle.typed_expr.specs.declared.broken.Broken.{Broken}
use Rattle.typed_expr.specs.declared.choice.Branch.{Branch}
use Rattle.typed_expr.specs.declared.scope.ScopeColumn.{ScopeColumn}
use Rattle.typed_expr.specs.declared.tree.DatePart.{DatePart}
use Rattle.typed_expr.specs.declared.tree.DatePart.TheVariants as part
use Rattle.typed_expr.specs.declared.tree.TypedExpr.{TypedExpr}
use Rattle.typed_expr.specs.declared.tree.TypedExpr.TheVariants as e
use Rattle.typed_expr.specs.declared.tree.Op.{Op}
use Rattle.typed_expr.specs.declared.tree.TypedExpr.TheVariants.{outs-Constant, outs-Column, outs-Negate, outs-Not, outs-Binary, outs-SameAs, outs-And, outs-Or, outs-Concat, outs-Is, outs-Between, outs-In, outs-Case, outs-Coalesce, outs-Cast, outs-Part, outs-Length}
use Rattle.typed_expr.specs.Kinds.{kind_of, kind_at}
use Rattle.typed_expr.specs.Tables as table
use Rattle.typed_expr.specs.Rules as rules
use Rattle.typed_expr.specs.Rules.{Typing, both, comes_before, given, ◌>>=◌}
use Rattle.typed_expr.specs.Literals as literals
use Rattle.typed_expr.specs.Columns as columns
use Rattle.typed_expr.specs.Forms as form
use Rattle.typed_expr.specs.Judging as judging
use Rattle.typed_expr.specs.Judging.{Verdict, broken, asks, needs}
use Rattle.typed_expr.specs.HasType.{IsSoonest}
use Rattle.typed_expr.specs.Comes.{Soonest}
use Rattle.typed_expr.proofs.Soonest.{both_soonest, not_before_itself}
use Rattle.typed_expr.proofs.Parts.{Meets}

-- ---- one broken rule, and tests

the_one : (b c : Broken) → Contains (b ∷ []) c → b ≡ c
the_one b c (zero, h, e) = e
the_one b c (suc k, h, e) = absurd (omega (arith, h))

holds_it : (b : Broken) → Contains (b ∷ []) b
holds_it b = (0, omega arith, refl)

pub alone : (b : Broken) → IsSoonest (Contains (b ∷ [])) b
alone b = record { broke = holds_it b; least = λ c h. subst (λ x. comes_before x b ≡ false) (the_one b c h) (not_before_itself b) }

pub asks_meets : (test : Bool) (rule at : ℕ) (k : DataType) (tree : TypedExpr) → kind_of tree ≡ k → Meets (asks test rule at k) (if test then Ok tree else rules.breaks rule at)
asks_meets true rule at k tree e = e
asks_meets false rule at k tree e = alone (broken rule at)

pub needs_meets : (found : Option DataType) (rule at : ℕ) (f : DataType → TypedExpr) → ((k : DataType) → kind_of (f k) ≡ k) → Meets (needs found rule at) (given rule at found >>= λ k. Ok (f k))
needs_meets None rule at f e = alone (broken rule at)
needs_meets (Some k) rule at f e = e k

if_meets : (test : Bool) (v w : Verdict) (s t : Typing TypedExpr) → Meets v s → Meets w t → Meets (if test then v else w) (if test then s else t)
if_meets true v w s t m n = m
if_meets false v w s t m n = n

-- ---- the type of each node

constant_kind : (k : DataType) (v : Value) → kind_of (e.Constant k v) ≡ k
constant_kind k v = ap kind_at (outs-Constant k v)

column_kind : (k : DataType) (place : ℕ) → kind_of (e.Column k place) ≡ k
column_kind k place = ap kind_at (outs-Column k place)

negate_kind : (k : DataType) (x : TypedExpr) → kind_of (e.Negate k x) ≡ k
negate_kind k x = ap kind_at (outs-Negate k x)

not_kind : (x : TypedExpr) → kind_of (e.Not x) ≡ kind.Boolean
not_kind x = ap kind_at (outs-Not x)

binary_kind : (k : DataType) (operator : Op) (x y : TypedExpr) → kind_of (e.Binary k operator x y) ≡ k
binary_kind k operator x y = ap kind_at (outs-Binary k operator x y)

sameas_kind : (x y : TypedExpr) → kind_of (e.SameAs x y) ≡ kind.Boolean
sameas_kind x y = ap kind_at (outs-SameAs x y)

and_kind : (x y : TypedExpr) → kind_of (e.And x y) ≡ kind.Boolean
and_kind x y = ap kind_at (outs-And x y)

or_kind : (x y : TypedExpr) → kind_of (e.Or x y) ≡ kind.Boolean
or_kind x y = ap kind_at (outs-Or x y)

concat_kind : (x y : TypedExpr) → kind_of (e.Concat x y) ≡ kind.Str
concat_kind x y = ap kind_at (outs-Concat x y)

is_kind : (truth : Truth) (x : TypedExpr) → kind_of (e.Is truth x) ≡ kind.Boolean
is_kind truth x = ap kind_at (outs-Is truth x)

between_kind : (x low high : TypedExpr) → kind_of (e.Between x low high) ≡ kind.Boolean
between_kind x low high = ap kind_at (outs-Between x low high)

in_kind : (x : TypedExpr) (items : List TypedExpr) → kind_of (e.In x items) ≡ kind.Boolean
in_kind x items = ap kind_at (outs-In x items)

case_kind : (k : DataType) (branches : List (TypedExpr × TypedExpr)) (otherwise : Option TypedExpr) → kind_of (e.Case k branches otherwise) ≡ k
case_kind k branches otherwise = ap kind_at (outs-Case k branches otherwise)

coalesce_kind : (k : DataType) (xs : List TypedExpr) → kind_of (e.Coalesce k xs) ≡ k
coalesce_kind k xs = ap kind_at (outs-Coalesce k xs)

node_cast : (k : DataType) (x : TypedExpr) → kind_of (e.Cast k x) ≡ k
node_cast k x = ap kind_at (outs-Cast k x)

part_kind : (wanted : DatePart) (x : TypedExpr) → kind_of (e.Part wanted x) ≡ kind.Integer
part_kind wanted x = ap kind_at (outs-Part wanted x)

length_kind : (x : TypedExpr) → kind_of (e.Length x) ≡ kind.Integer
length_kind x = ap kind_at (outs-Length x)

-- ---- types of casts

same_decimals : (p s q r : ℕ) (t : Bool) → (p == q) ≡ t → (u : Bool) → (s == r) ≡ u → (t && u) ≡ true → kind.Decimal p s ≡ kind.Decimal q r
same_decimals p s q r true e true f h = ap (λ z. kind.Decimal z s) (eqb-true p q e) ∙ ap (λ z. kind.Decimal q z) (eqb-true s r f)
same_decimals p s q r true e false f h = absurd (cc)
same_decimals p s q r false e u f h = absurd (cc)

pub same_is : (a b : DataType) → table.is_same a b ≡ true → a ≡ b
same_is kind.Void kind.Void h = refl
same_is kind.Boolean kind.Boolean h = refl
same_is kind.Byte kind.Byte h = refl
same_is kind.Short kind.Short h = refl
same_is kind.Integer kind.Integer h = refl
same_is kind.Long kind.Long h = refl
same_is (kind.Decimal p s) (kind.Decimal q r) h = same_decimals p s q r (p == q) refl (s == r) refl h
same_is kind.Str kind.Str h = refl
same_is kind.Binary kind.Binary h = refl
same_is kind.Date kind.Date h = refl
same_is kind.Timestamp kind.Timestamp h = refl
same_is a b h = absurd (cc)

pub cast_kind : (k : DataType) (x : TypedExpr) → kind_of (form.as_kind k x) ≡ k
cast_kind k x = by_test (table.is_same k (kind_of x)) refl
  where
    by_test : (t : Bool) → table.is_same k (kind_of x) ≡ t → kind_of (if t then x else e.Cast k x) ≡ k
    by_test true h = sym (same_is k (kind_of x) h)
    by_test false h = node_cast k x

negated_kind : (denied : Bool) (x : TypedExpr) → kind_of x ≡ kind.Boolean → kind_of (form.negated denied x) ≡ kind.Boolean
negated_kind true x h = not_kind x
negated_kind false x h = h

-- ---- literals and columns

whole_meets : (small large : Bool) (found : Option DataType) (at : ℕ) (n m : Value) (f : DataType → TypedExpr) → ((k : DataType) → kind_of (f k) ≡ k)
    → Meets (needs (if small then Some kind.Integer else if large then Some kind.Long else found) 4 at)
    (if small then Ok (e.Constant kind.Integer n) else if large then Ok (e.Constant kind.Long m) else (given 4 at found >>= λ k. Ok (f k)))
whole_meets true large found at n m f h = constant_kind kind.Integer n
whole_meets false true found at n m f h = constant_kind kind.Long m
whole_meets false false found at n m f h = needs_meets found 4 at f h

dated_meets : (found : Option Value) (at : ℕ) (k : DataType) → Meets (asks (is_some found) 14 at k) (given 14 at found >>= λ v. Ok (e.Constant k v))
dated_meets None at k = alone (broken 14 at)
dated_meets (Some v) at k = constant_kind k v

pub literal_meets : (span : Span) (value : Literal) → Meets (judging.literal_type span.start value) (literals.literal span value)
literal_meets span l.Null = constant_kind _ _
literal_meets span l.True = constant_kind _ _
literal_meets span l.False = constant_kind _ _
literal_meets span (l.Whole n) = whole_meets (nat_lt n.unscaled (2 ^ 31)) (nat_lt n.unscaled (2 ^ 63)) (literals.decimal_kind n) span.start _ _ (literals.decimal_constant n) (λ k. constant_kind k _)
literal_meets span (l.Decimal n) = needs_meets (literals.decimal_kind n) 4 span.start (literals.decimal_constant n) (λ k. constant_kind k _)
literal_meets span (l.Text text) = constant_kind _ _
literal_meets span (l.Bytes bytes) = constant_kind _ _
literal_meets span (l.Date place text) = dated_meets _ place.start kind.Date
literal_meets span (l.Timestamp place text) = dated_meets _ place.start kind.Timestamp

-- ---- operators and tests

pub unary_meets : (prefix : Prefix) (place : Span) (x : TypedExpr) → Meets (judging.unary_type place.start prefix (kind_of x)) (form.unary prefix place x)
unary_meets p.Not place x = asks_meets (form.is_truth x) 3 place.start kind.Boolean _ (not_kind _)
unary_meets p.Minus place x = asks_meets (table.is_number (kind_of x)) 3 place.start (kind_of x) _ (negate_kind _ _)
unary_meets p.Plus place x = asks_meets (table.is_number (kind_of x)) 3 place.start (kind_of x) _ refl

-- a line that always gives one type
always_gives : (takes : DataType → DataType → Bool) (always k a b : DataType) → table.by_lines (table.line takes (table.always always) ∷ []) a b ≡ Ok k → always ≡ k
always_gives takes always k a b h = by_test (takes a b) h
  where
    by_test : (t : Bool) → ◌≡◌ {A = Result DataType ℕ} (if t then Ok always else Err 3) (Ok k) → always ≡ k
    by_test true f = cc
    by_test false f = absurd (cc)

tree_kind : (operator : Operator) (a b k : DataType) → table.by_lines (table.lines_of operator) a b ≡ Ok k → (x y : TypedExpr) → kind_of (form.binary_tree operator k x y) ≡ k
tree_kind o.Or a b k h x y = or_kind x y ∙ always_gives table.are_booleans kind.Boolean k a b h
tree_kind o.And a b k h x y = and_kind x y ∙ always_gives table.are_booleans kind.Boolean k a b h
tree_kind o.Concat a b k h x y = concat_kind x y ∙ always_gives table.are_strings kind.Str k a b h
tree_kind o.SameAs a b k h x y = sameas_kind x y ∙ always_gives table.are_comparable kind.Boolean k a b h
tree_kind o.Equal a b k h x y = binary_kind _ _ _ _
tree_kind o.NotEqual a b k h x y = binary_kind _ _ _ _
tree_kind o.Less a b k h x y = binary_kind _ _ _ _
tree_kind o.LessOrEqual a b k h x y = binary_kind _ _ _ _
tree_kind o.Greater a b k h x y = binary_kind _ _ _ _
tree_kind o.GreaterOrEqual a b k h x y = binary_kind _ _ _ _
tree_kind o.Plus a b k h x y = binary_kind _ _ _ _
tree_kind o.Minus a b k h x y = binary_kind _ _ _ _
tree_kind o.Times a b k h x y = binary_kind _ _ _ _
tree_kind o.Remainder a b k h x y = binary_kind _ _ _ _
tree_kind o.Divide a b k h x y = binary_kind _ _ _ _

pub binary_meets : (operator : Operator) (place : Span) (x y : TypedExpr) → Meets (judging.at_operator place.start (form.binary_kind operator (kind_of x) (kind_of y))) (form.binary operator place x y)
binary_meets operator place x y = by_found (form.binary_kind operator (kind_of x) (kind_of y)) refl
  where
    by_found : (found : Result DataType ℕ) → form.binary_kind operator (kind_of x) (kind_of y) ≡ found
        → Meets (judging.at_operator place.start found) (form.of_rule place.start found >>= λ k. Ok (form.binary_tree operator k (form.left_of operator x y) (form.right_of operator x y)))
    by_found (Ok k) h = tree_kind operator _ _ k h _ _
    by_found (Err rule) h = alone (broken rule place.start)

pub is_meets : (truth : Truth) (denied : Bool) (place : Span) (x : TypedExpr) → Meets (judging.test_type place.start truth (kind_of x)) (form.is_test truth denied place x)
is_meets t.Null denied place x = negated_kind denied _ (is_kind _ _)
is_meets t.True denied place x = asks_meets (form.is_truth x) 3 place.start kind.Boolean _ (negated_kind denied _ (is_kind _ _))
is_meets t.False denied place x = asks_meets (form.is_truth x) 3 place.start kind.Boolean _ (negated_kind denied _ (is_kind _ _))

pub between_meets : (denied : Bool) (place : Span) (x low high : TypedExpr)
    → Meets (asks (table.meets (kind_of x) (kind_of low) && table.meets (kind_of x) (kind_of high)) 3 place.start kind.Boolean) (form.between denied place x low high)
between_meets denied place x low high = asks_meets (form.compares_with x low && form.compares_with x high) 3 place.start kind.Boolean _ (negated_kind denied _ (between_kind _ _ _))

all_kinds : (test : DataType → Bool) (xs : List TypedExpr) → list_all test (map kind_of xs) ≡ list_all (λ x. test (kind_of x)) xs
all_kinds test [] = refl
all_kinds test (x ∷ xs) = ap (λ t. test (kind_of x) && t) (all_kinds test xs)

pub in_meets : (denied : Bool) (place : Span) (x : TypedExpr) (items : List TypedExpr) → Meets (asks (list_all (table.meets (kind_of x)) (map kind_of items)) 3 place.start kind.Boolean) (form.in_list denied place x items)
in_meets denied place x items =
    subst (λ test. Meets (asks test 3 place.start kind.Boolean) (form.in_list denied place x items)) (sym (all_kinds (table.meets (kind_of x)) items))
    (asks_meets (list_all (form.compares_with x) items) 3 place.start kind.Boolean _ (negated_kind denied _ (in_kind _ _)))

-- ---- casts

pub cast_meets : (place : Span) (written : WrittenType) (x : TypedExpr) → Meets (judging.cast_type place.start written.span.start written.kind (kind_of x)) (form.cast place written x)
cast_meets place written x = by_kind written.kind
  where
    by_kind : (wanted : WrittenKind) → Meets (judging.cast_type place.start written.span.start wanted (kind_of x)) (form.cast_to place written.span wanted x)
    by_kind (w.BadDecimal precision scale) = alone (broken 11 written.span.start)
    by_kind (w.Type k) = if_meets (table.is_type k) _ _ _ _ (asks_meets (table.castable (kind_of x) k) 11 place.start k _ (cast_kind k x)) (alone (broken 11 written.span.start))

-- ---- choices

-- what a form comes to, where its own test, and then a type, may break rules
with_meets : (unmet : List Broken) (met : form.Found) (found : Option DataType) (at : ℕ) (f : DataType → TypedExpr) → ((k : DataType) → kind_of (f k) ≡ k)
    → Soonest (Contains unmet) met → Meets (judging.with_unmet unmet (needs found 3 at)) (((both met (given 3 at found)) >>= λ p. Ok p.1) >>= λ k. Ok (f k))
with_meets [] (Ok u) (Some k) at f e h = e k
with_meets [] (Ok u) None at f e h = alone (broken 3 at)
with_meets [] (Err b) found at f e h = absurd (nothing b h.broke)
  where
    nothing : (b : Broken) → Contains [] b → ⊥
    nothing b (k, lt, same) = omega (arith, lt)
with_meets (b ∷ bs) (Ok u) found at f e h = absurd (h b (0, omega arith, refl))
with_meets (b ∷ bs) (Err d) (Some k) at f e h = h
with_meets (b ∷ bs) (Err d) None at f e h =
    both_soonest (Contains (b ∷ bs)) (Contains (broken 3 at ∷ [])) (Contains (b ∷ bs ++ broken 3 at ∷ []))
    (Contains-append_cases (b ∷ bs) (broken 3 at ∷ [])) (Contains-append_left (b ∷ bs) (broken 3 at ∷ [])) (Contains-append_right (b ∷ bs) (broken 3 at ∷ []))
    {A = Unit {0}} {B = DataType} (Err d) (Err (broken 3 at)) h (alone (broken 3 at))

-- a condition, and where it stands
abbrev pub place_of : Branch → ℕ × DataType
place_of b = (b.at, kind_of b.condition)

then_nothing : {A : Type 0} (P : Broken → Type 0) (found : Typing A) → Soonest P found → Soonest {A = Unit {0}} P (◌>>=◌ {B = Unit {0}} found (λ _. Ok tt))
then_nothing P (Ok a) h = h
then_nothing P (Err b) h = h

with_met : (P : Broken → Type 0) (found : form.Found) → Soonest P found → Soonest {A = Unit {0} × Unit {0}} P (both {B = Unit {0}} found (Ok tt))
with_met P (Ok a) h = h
with_met P (Err b) h = h

abbrev SoonestUnmet : List Broken → form.Found → List Branch → Type 0
SoonestUnmet done found bs = Soonest (Contains (done ++ judging.unmet (map place_of bs))) (fold form.with_condition found bs)

-- one more condition
one_condition : (done : List Broken) (found : form.Found) → Soonest (Contains done) found → (b : Branch) (bs : List Branch)
    → ((more : List Broken) (next : form.Found) → Soonest (Contains more) next → SoonestUnmet more next bs) → SoonestUnmet done found (b ∷ bs)
one_condition done found h b bs rest = by_test (form.is_truth b.condition)
  where
    by_test : (t : Bool) → Soonest (Contains (done ++ (if t then judging.unmet (map place_of bs) else broken 5 b.at ∷ judging.unmet (map place_of bs))))
        (fold form.with_condition (◌>>=◌ {B = Unit {0}} (both {B = Unit {0}} found (if t then Ok (tt {0}) else rules.breaks 5 b.at)) (λ _. Ok (tt {0}))) bs)
    by_test true = rest done _ (then_nothing (Contains done) _ (with_met (Contains done) found h))
    by_test false =
        let one = broken 5 b.at ∷ [] in
        let next = both_soonest (Contains done) (Contains one) (Contains (done ++ one)) (Contains-append_cases done one) (Contains-append_left done one) (Contains-append_right done one) {A = Unit {0}} {B = Unit {0}} found (Err (broken 5 b.at)) h (alone (broken 5 b.at)) in
        let all = rest (done ++ one) _ (then_nothing (Contains (done ++ one)) (both {B = Unit {0}} found (Err (broken 5 b.at))) next) in
        subst (λ z. Soonest (Contains z) (fold form.with_condition (◌>>=◌ {B = Unit {0}} (both {B = Unit {0}} found (rules.breaks 5 b.at)) (λ _. Ok (tt {0}))) bs)) (append_assoc done one (judging.unmet (map place_of bs))) all

fold_conditions : (done : List Broken) (found : form.Found) → Soonest (Contains done) found → (bs : List Branch) → SoonestUnmet done found bs
fold_conditions done found h [] = subst (λ z. Soonest (Contains z) found) (sym (append-nil done)) h
fold_conditions done found h (b ∷ bs) = one_condition done found h b bs (λ more next g. fold_conditions more next g bs)

conditions_soonest : (bs : List Branch) → Soonest (Contains (judging.unmet (map place_of bs))) (form.conditions bs)
conditions_soonest bs = fold_conditions [] (Ok tt) (λ b h. nothing b h) bs
  where
    nothing : (b : Broken) → Contains [] b → ⊥
    nothing b (k, lt, same) = omega (arith, lt)

abbrev pub last_kinds : Option TypedExpr → List DataType
last_kinds None = []
last_kinds (Some x) = kind_of x ∷ []

abbrev pub value_kinds : List Branch → List DataType
value_kinds bs = map (λ b. kind_of b.value) bs

and_then_some : (k : Option DataType) → option_and_then (λ j. Some j) k ≡ k
and_then_some None = refl
and_then_some (Some k) = refl

pub joint_kind : (bs : List Branch) (otherwise : Option TypedExpr) → form.value_kind bs otherwise ≡ table.common_of (value_kinds bs ++ last_kinds otherwise)
joint_kind bs None = and_then_some (table.common_of (value_kinds bs)) ∙ ap table.common_of (sym (append-nil (value_kinds bs)))
joint_kind bs (Some x) = sym (fold-append table.with_kind (Some kind.Void) (value_kinds bs) (kind_of x ∷ []))

pub choice_meets : (at : ℕ) (bs : List Branch) (otherwise : Option TypedExpr)
    → Meets (judging.choice_type at (map place_of bs) (value_kinds bs ++ last_kinds otherwise)) (form.choice at bs otherwise)
choice_meets at bs otherwise =
    subst (λ k. Meets (judging.with_unmet (judging.unmet (map place_of bs)) (needs k 3 at)) (form.choice at bs otherwise)) (joint_kind bs otherwise)
    (with_meets (judging.unmet (map place_of bs)) (form.conditions bs) (form.value_kind bs otherwise) at (λ k. form.choice_of k bs otherwise) (λ k. case_kind k _ _) (conditions_soonest bs))

-- ---- columns

pub column_meets : (scope : List ScopeColumn) (span : Span) (qualifier : Option Name) (name : Name)
    → Meets (judging.column_type span.start scope qualifier (find (columns.is_named qualifier name) scope)) (columns.column scope span qualifier name)
column_meets scope span qualifier name = by_place (nat_lt (position_or_len test scope) (length scope)) refl
  where
    test : ScopeColumn → Bool
    test = columns.is_named qualifier name

    over : ℕ → ScopeColumn → Typing TypedExpr
    over place first = if columns.is_of_two qualifier scope first then rules.breaks 2 span.start else Ok (e.Column first.kind place)

    by_found : (place : ℕ) (found : Option ScopeColumn) → Meets (judging.column_type span.start scope qualifier found) (given 1 span.start found >>= over place)
    by_found place None = alone (broken 1 span.start)
    by_found place (Some first) = by_two (columns.is_of_two qualifier scope first)
      where
        by_two : (t : Bool) → Meets (asks (not t) 2 span.start first.kind) (if t then rules.breaks 2 span.start else Ok (e.Column first.kind place))
        by_two true = alone (broken 2 span.start)
        by_two false = column_kind first.kind place

    by_place : (t : Bool) → nat_lt (position_or_len test scope) (length scope) ≡ t
        → Meets (judging.column_type span.start scope qualifier (find test scope)) (given 1 span.start (cond t (Some (position_or_len test scope)) None) >>= columns.column_at scope span.start qualifier)
    by_place true h = subst (λ found. Meets (judging.column_type span.start scope qualifier found) (given 1 span.start (slice_get scope (position_or_len test scope)) >>= over (position_or_len test scope))) (sym (find_at test scope)) (by_found (position_or_len test scope) (slice_get scope (position_or_len test scope)))
    by_place false h =
        let past = find_at test scope ∙ slice_get_past scope (position_or_len test scope) (ltb-false (position_or_len test scope) (length scope) h) in
        subst (λ found. Meets (judging.column_type span.start scope qualifier found) (rules.breaks 1 span.start)) (sym past) (alone (broken 1 span.start))

-- ---- functions

pub if_form_meets : (at place : ℕ) (xs : List TypedExpr) → Meets (judging.if_type at place (map kind_of xs)) (form.call_if at place xs)
if_form_meets at place [] = alone (broken 13 at)
if_form_meets at place (c ∷ []) = alone (broken 13 at)
if_form_meets at place (c ∷ a ∷ []) = alone (broken 13 at)
if_form_meets at place (c ∷ a ∷ b ∷ []) = choice_meets at (record { at = place; condition = c; value = a } ∷ []) (Some b)
if_form_meets at place (c ∷ a ∷ b ∷ d ∷ more) = alone (broken 13 at)

coalesce_meets : (at : ℕ) (xs : List TypedExpr) → Meets (judging.coalesce_type at (map kind_of xs)) (form.call_coalesce at xs)
coalesce_meets at [] = alone (broken 13 at)
coalesce_meets at (x ∷ xs) = needs_meets (table.common_of (map kind_of (x ∷ xs))) 3 at (λ k. e.Coalesce k (map (form.as_kind k) (x ∷ xs))) (λ k. coalesce_kind k _)

date_meets : (at : ℕ) (wanted : DatePart) (xs : List TypedExpr) → Meets (judging.part_type at (map kind_of xs)) (form.call_part at wanted xs)
date_meets at wanted [] = alone (broken 13 at)
date_meets at wanted (x ∷ []) = asks_meets (table.is_dated (kind_of x) || table.is_void (kind_of x)) 3 at kind.Integer _ (part_kind _ _)
date_meets at wanted (x ∷ y ∷ more) = alone (broken 13 at)

length_meets : (at : ℕ) (xs : List TypedExpr) → Meets (judging.length_type at (map kind_of xs)) (form.call_length at xs)
length_meets at [] = alone (broken 13 at)
length_meets at (x ∷ []) = asks_meets (table.is_string (kind_of x) || table.is_void (kind_of x)) 3 at kind.Integer _ (length_kind _)
length_meets at (x ∷ y ∷ more) = alone (broken 13 at)

pub call_meets : (name : Name) (place : ℕ) (xs : List TypedExpr) → Meets (judging.call_type name.span.start name place (map kind_of xs)) (form.call name place xs)
call_meets name place xs =
    let at = name.span.start in
    if_meets (form.is_function (codes "IF") name) _ _ _ _ (if_form_meets at place xs)
    (if_meets (form.is_function (codes "COALESCE") name) _ _ _ _ (coalesce_meets at xs)
    (if_meets (form.is_function (codes "YEAR") name) _ _ _ _ (date_meets at part.Year xs)
    (if_meets (form.is_function (codes "MONTH") name) _ _ _ _ (date_meets at part.Month xs)
    (if_meets (form.is_function (codes "DAY") name) _ _ _ _ (date_meets at part.Day xs)
    (if_meets (form.is_function (codes "LENGTH") name) _ _ _ _ (length_meets at xs) (alone (broken 13 at)))))))
