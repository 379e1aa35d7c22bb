-- What the elements of a new table are.
use Rattle.std.specs.Prelude.{ℕ, List, [], ◌∷◌, ◌++◌, map, Bool, Option, Some, None}
use Rattle.std.specs.List.{filter_map, list_any}
use Rattle.std.specs.Str.{str_eq_ignore_ascii_case}
use Rattle.sql_statements.specs.declared.CheckElement.{CheckElement}
use Rattle.sql_statements.specs.declared.ColumnElement.{ColumnElement}
use Rattle.sql_statements.specs.declared.Element.{Element}
use Rattle.sql_statements.specs.declared.Element.TheVariants as element
use Rattle.sql_tree.specs.declared.tree.Name.{Name}

-- ---- one behind the other

-- each, with those before it; some stand before all
abbrev pub each_behind : {A : Type 0} → List A → List A → List (List A × A)
each_behind before [] = []
each_behind before (a ∷ more) = (before, a) ∷ each_behind (before ++ a ∷ []) more

-- each, with those before it
abbrev pub with_before : {A : Type 0} → List A → List (List A × A)
with_before all = each_behind [] all

-- ---- names

-- two names are equal up to the case of ASCII letters, as the names of columns are told apart (PROTOCOL.md, "Schema
-- Serialization Format")
abbrev pub is_same : Name → Name → Bool
is_same name other = str_eq_ignore_ascii_case name.text other.text

-- the name is one of these
abbrev pub is_among : List Name → Name → Bool
is_among names name = list_any (is_same name) names

-- an element of some sort, and whether its name is that of an earlier one
abbrev pub told : {A : Type 0} → (A → Name) → List A × A → A × Bool
told name_of (before, a) = (a, is_among (map name_of before) (name_of a))

-- ---- elements

abbrev pub column_in : Element → Option ColumnElement
column_in (element.Column column) = Some column
column_in (element.Check check) = None

abbrev pub check_in : Element → Option CheckElement
check_in (element.Column column) = None
check_in (element.Check check) = Some check

abbrev pub column_name : ColumnElement → Name
column_name column = column.name

abbrev pub check_name : CheckElement → Name
check_name check = check.name

-- a column stands at its name, a constraint at the word CONSTRAINT
abbrev pub place_of : Element → ℕ
place_of (element.Column column) = column.name.span.start
place_of (element.Check check) = check.place.start

-- the columns, and whether an earlier column has their name
abbrev pub columns : List Element → List (ColumnElement × Bool)
columns elements = map (told column_name) (with_before (filter_map column_in elements))

-- the constraints, and whether an earlier constraint has their name
abbrev pub checks : List Element → List (CheckElement × Bool)
checks elements = map (told check_name) (with_before (filter_map check_in elements))
