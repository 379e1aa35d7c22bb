-- What a form gives over the types of its parts: a type, or the rules that it breaks, each where it is broken. The
-- tables of the language, a line for each form.
use Rattle.std.specs.Prelude.{ℕ, ◌^◌, Bool, not, ◌&&◌, ◌||◌, nat_lt, if◌then◌else◌, codes, List, [], ◌∷◌, ◌++◌, Option, Some, None, is_some, Result, Ok, Err}
use Rattle.std.specs.List.{list_all, find, flat_map}
use Rattle.dm_types.specs.declared.value.DataType.{DataType}
use Rattle.dm_types.specs.declared.value.DataType.TheVariants as kind
use Rattle.dm_text.specs.Reading.{text_value}
use Rattle.sql_tree.specs.Spans.{Layer, span_of}
use Rattle.sql_tree.specs.declared.tree.Expr.{Expr}
use Rattle.sql_tree.specs.declared.tree.Expr.TheOpen.{Expr-F}
use Rattle.sql_tree.specs.declared.tree.Literal.{Literal}
use Rattle.sql_tree.specs.declared.tree.Literal.TheVariants as l
use Rattle.sql_tree.specs.declared.tree.Name.{Name}
use Rattle.sql_tree.specs.declared.tree.Number.{Number}
use Rattle.sql_tree.specs.declared.tree.Prefix.{Prefix}
use Rattle.sql_tree.specs.declared.tree.Prefix.TheVariants as p
use Rattle.sql_tree.specs.declared.tree.Truth.{Truth}
use Rattle.sql_tree.specs.declared.tree.Truth.TheVariants as t
use Rattle.sql_tree.specs.declared.tree.WrittenKind.{WrittenKind}
use Rattle.sql_tree.specs.declared.tree.WrittenKind.TheVariants as w
use Rattle.typed_expr.specs.declared.broken.Broken.{Broken}
use Rattle.typed_expr.specs.declared.scope.ScopeColumn.{ScopeColumn}
use Rattle.typed_expr.specs.Tables.{is_void, is_condition, is_number, is_string, is_dated, meets, is_type, castable, common_of}
use Rattle.typed_expr.specs.Literals.{decimal_kind}
use Rattle.typed_expr.specs.Columns.{is_named, is_of_two}
use Rattle.typed_expr.specs.Forms.{is_function, binary_kind}

-- a type, or what is broken
abbrev pub Verdict : Type 0
Verdict = Result DataType (List Broken)

abbrev pub broken : ℕ → ℕ → Broken
broken rule at = record { rule = rule; at = at }

abbrev pub breaks : ℕ → ℕ → Verdict
breaks rule at = Err (broken rule at ∷ [])

-- a type where a test holds
abbrev pub asks : Bool → ℕ → ℕ → DataType → Verdict
asks test rule at k = if test then Ok k else breaks rule at

-- a type that is there
abbrev pub needs : Option DataType → ℕ → ℕ → Verdict
needs None rule at = breaks rule at
needs (Some k) rule at = Ok k

-- ---- literals and columns

-- INT up to 2147483647, BIGINT up to 2^63 - 1, else a DECIMAL
abbrev pub whole_type : Number → Option DataType
whole_type n =
    if nat_lt n.unscaled (2 ^ 31) then Some kind.Integer
    else if nat_lt n.unscaled (2 ^ 63) then Some kind.Long
    else decimal_kind n

abbrev pub literal_type : ℕ → Literal → Verdict
literal_type at l.Null = Ok kind.Void
literal_type at l.True = Ok kind.Boolean
literal_type at l.False = Ok kind.Boolean
literal_type at (l.Whole n) = needs (whole_type n) 4 at
literal_type at (l.Decimal n) = needs (decimal_kind n) 4 at
literal_type at (l.Text text) = Ok kind.Str
literal_type at (l.Bytes bytes) = Ok kind.Binary
literal_type at (l.Date place text) = asks (is_some (text_value kind.Date text)) 14 place.start kind.Date
literal_type at (l.Timestamp place text) = asks (is_some (text_value kind.Timestamp text)) 14 place.start kind.Timestamp

-- the first column that a name may mean
abbrev pub column_type : ℕ → List ScopeColumn → Option Name → Option ScopeColumn → Verdict
column_type at scope qualifier None = breaks 1 at
column_type at scope qualifier (Some column) = asks (not (is_of_two qualifier scope column)) 2 at column.kind

-- ---- operators and tests

abbrev pub unary_type : ℕ → Prefix → DataType → Verdict
unary_type at p.Not a = asks (is_condition a) 3 at kind.Boolean
unary_type at p.Minus a = asks (is_number a) 3 at a
unary_type at p.Plus a = asks (is_number a) 3 at a

-- by the lines of the operator
abbrev pub at_operator : ℕ → Result DataType ℕ → Verdict
at_operator at (Ok k) = Ok k
at_operator at (Err rule) = breaks rule at

abbrev pub test_type : ℕ → Truth → DataType → Verdict
test_type at t.Null a = Ok kind.Boolean
test_type at truth a = asks (is_condition a) 3 at kind.Boolean

-- ---- choices

-- conditions, each with the place where it stands
abbrev pub unmet : List (ℕ × DataType) → List Broken
unmet [] = []
unmet (c ∷ cs) = if is_condition c.1 then unmet cs else broken 5 c.0 ∷ unmet cs

abbrev pub with_unmet : List Broken → Verdict → Verdict
with_unmet [] verdict = verdict
with_unmet (b ∷ bs) (Ok k) = Err (b ∷ bs)
with_unmet (b ∷ bs) (Err cs) = Err (b ∷ bs ++ cs)

abbrev pub choice_type : ℕ → List (ℕ × DataType) → List DataType → Verdict
choice_type at conditions values = with_unmet (unmet conditions) (needs (common_of values) 3 at)

-- of the types of the parts of CASE, from the left, those of the conditions
abbrev pub conditions_of : List (Expr × Expr) → List DataType → List (ℕ × DataType)
conditions_of [] kinds = []
conditions_of (b ∷ bs) [] = []
conditions_of (b ∷ bs) (c ∷ []) = []
conditions_of (b ∷ bs) (c ∷ v ∷ kinds) = ((span_of b.0).start, c) ∷ conditions_of bs kinds

-- .. and those of the values, with that behind ELSE
abbrev pub values_of : List (Expr × Expr) → List DataType → List DataType
values_of [] kinds = kinds
values_of (b ∷ bs) [] = []
values_of (b ∷ bs) (c ∷ []) = []
values_of (b ∷ bs) (c ∷ v ∷ kinds) = v ∷ values_of bs kinds

-- ---- casts and functions

abbrev pub cast_type : ℕ → ℕ → WrittenKind → DataType → Verdict
cast_type at type_at (w.BadDecimal precision scale) a = breaks 11 type_at
cast_type at type_at (w.Type k) a = if is_type k then asks (castable a k) 11 at k else breaks 11 type_at

abbrev pub if_type : ℕ → ℕ → List DataType → Verdict
if_type at first (c ∷ a ∷ b ∷ []) = choice_type at ((first, c) ∷ []) (a ∷ b ∷ [])
if_type at first kinds = breaks 13 at

abbrev pub coalesce_type : ℕ → List DataType → Verdict
coalesce_type at [] = breaks 13 at
coalesce_type at (a ∷ more) = needs (common_of (a ∷ more)) 3 at

abbrev pub part_type : ℕ → List DataType → Verdict
part_type at (a ∷ []) = asks (is_dated a || is_void a) 3 at kind.Integer
part_type at kinds = breaks 13 at

abbrev pub length_type : ℕ → List DataType → Verdict
length_type at (a ∷ []) = asks (is_string a || is_void a) 3 at kind.Integer
length_type at kinds = breaks 13 at

abbrev pub call_type : ℕ → Name → ℕ → List DataType → Verdict
call_type at name first kinds =
    if is_function (codes "IF") name then if_type at first kinds
    else if is_function (codes "COALESCE") name then coalesce_type at kinds
    else if is_function (codes "YEAR") name then part_type at kinds
    else if is_function (codes "MONTH") name then part_type at kinds
    else if is_function (codes "DAY") name then part_type at kinds
    else if is_function (codes "LENGTH") name then length_type at kinds
    else breaks 13 at

-- ---- all forms

-- where the first argument begins
abbrev pub first_at : List Expr → ℕ
first_at [] = 0
first_at (x ∷ xs) = (span_of x).start

abbrev pub listed : Option Expr → List Expr
listed None = []
listed (Some x) = x ∷ []

-- a condition, and the value behind it
abbrev pub both_of : Expr × Expr → List Expr
both_of branch = branch.0 ∷ branch.1 ∷ []

-- the parts of an expression, from the left
abbrev pub parts_of : Layer → List Expr
parts_of (Expr-F.Literal span value) = []
parts_of (Expr-F.Column span qualifier name) = []
parts_of (Expr-F.Group span inner) = inner ∷ []
parts_of (Expr-F.Unary span prefix place x) = x ∷ []
parts_of (Expr-F.Binary span operator place x y) = x ∷ y ∷ []
parts_of (Expr-F.Is span truth not place x) = x ∷ []
parts_of (Expr-F.Between span not place x low high) = x ∷ low ∷ high ∷ []
parts_of (Expr-F.In span not place x items) = x ∷ items
parts_of (Expr-F.Case span place branches otherwise) = flat_map both_of branches ++ listed otherwise
parts_of (Expr-F.Cast span place x written) = x ∷ []
parts_of (Expr-F.Call span function arguments) = arguments

-- the form over the types of these parts
unfoldable pub judged : List ScopeColumn → Layer → List DataType → Verdict
judged scope (Expr-F.Literal span value) [] = literal_type span.start value
judged scope (Expr-F.Column span qualifier name) [] =
    column_type span.start scope qualifier (find (is_named qualifier name) scope)
judged scope (Expr-F.Group span inner) (a ∷ []) = Ok a
judged scope (Expr-F.Unary span prefix place x) (a ∷ []) = unary_type place.start prefix a
judged scope (Expr-F.Binary span operator place x y) (a ∷ b ∷ []) = at_operator place.start (binary_kind operator a b)
judged scope (Expr-F.Is span truth not place x) (a ∷ []) = test_type place.start truth a
judged scope (Expr-F.Between span not place x low high) (a ∷ b ∷ c ∷ []) =
    asks (meets a b && meets a c) 3 place.start kind.Boolean
judged scope (Expr-F.In span not place x items) (a ∷ kinds) = asks (list_all (meets a) kinds) 3 place.start kind.Boolean
judged scope (Expr-F.Case span place branches otherwise) kinds =
    choice_type place.start (conditions_of branches kinds) (values_of branches kinds)
judged scope (Expr-F.Cast span place x written) (a ∷ []) = cast_type place.start written.span.start written.kind a
judged scope (Expr-F.Call span function arguments) kinds =
    call_type function.span.start function (first_at arguments) kinds
-- other numbers of parts never come
judged scope layer kinds = Err []
