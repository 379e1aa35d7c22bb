-- What the steps of looking for faults answer.
use Rattle.std.specs.Prelude.{ℕ, min, Bool, true, Option, Some, None, nat_lt, String, string_bytes}
use Rattle.std.specs.BTreeSet.{BTreeSet}
use Rattle.std.specs.Cmp.Lexicographic.{slice_cmp}
use Rattle.std.specs.List.{list_any}
use Rattle.std.specs.Ordering.{is_eq, nat_cmp}
use Rattle.std.specs.Str.{str_to_ascii_lowercase}
use Rattle.sql_tree.specs.declared.tree.Name.{Name}
use Rattle.sql_statements.specs.declared.CheckElement.{CheckElement}
use Rattle.sql_statements.specs.declared.ColumnElement.{ColumnElement}
use Rattle.table_make.specs.declared.elements.Check.{Check}
use Rattle.table_make.specs.declared.elements.Column.{Column}

-- the lesser of two places, where there are any
abbrev pub earlier : Option ℕ → Option ℕ → Option ℕ
earlier None other = other
earlier (Some place) None = Some place
earlier (Some place) (Some other) = Some (min place other)

-- a column that is lent
abbrev pub column_at : Column → ColumnElement × Bool
column_at column = (column.element.now, column.doubled)

-- a constraint that is lent
abbrev pub check_at : Check → CheckElement × Bool
check_at check = (check.element.now, check.doubled)

-- a name is in a set of names in lower case
abbrev pub is_held : {Z : Type 0} → BTreeSet (String Z) → Name → Bool
is_held names name =
    list_any (λ key. is_eq (slice_cmp nat_cmp (str_to_ascii_lowercase name.text) (string_bytes key))) names.keys

-- a fault at the place would be earlier than what was found
abbrev pub is_before : ℕ → Option ℕ → Bool
is_before place None = true
is_before place (Some found) = nat_lt place found
