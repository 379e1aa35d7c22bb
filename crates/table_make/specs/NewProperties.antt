-- The properties of a new table.
use Rattle.std.specs.Prelude.{ℕ, List, [], ◌∷◌, ◌++◌, map, Bool, Option, Some, None, codes, if◌then◌else◌}
use Rattle.std.specs.BTreeMap.{insert_entry}
use Rattle.std.specs.Cmp.Lexicographic.{slice_cmp}
use Rattle.std.specs.Fmt.{decimal}
use Rattle.std.specs.List.{filter_map}
use Rattle.std.specs.Ordering.{nat_cmp}
use Rattle.sql_statements.specs.declared.CheckElement.{CheckElement}
use Rattle.sql_statements.specs.declared.Element.{Element}
use Rattle.sql_statements.specs.declared.Element.TheVariants as element
use Rattle.sql_statements.specs.declared.Property.{Property}

-- texts under names
abbrev pub Pairs : Type 0
Pairs = List (List ℕ × List ℕ)

-- ---- what a statement says

abbrev pub given : List Property → Pairs
given properties = map (λ property. (property.key, property.value)) properties

-- PROTOCOL.md, "CHECK Constraints": what stands between the parentheses, under the constraint's name
abbrev pub check_pair : CheckElement → List ℕ × List ℕ
check_pair check = (codes "delta.constraints." ++ check.name.text, check.rule.text)

abbrev pub check_of : Element → Option (List ℕ × List ℕ)
check_of (element.Column column) = None
check_of (element.Check check) = Some (check_pair check)

abbrev pub checks_of : List Element → Pairs
checks_of elements = filter_map check_of elements

-- ---- what each new table has

-- PROTOCOL.md, "Row Tracking": rows have ids, and rewritten files have columns for them, named by the table's id
abbrev pub tracking_of : List ℕ → Pairs
tracking_of id =
    (codes "delta.enableRowTracking", codes "true")
    ∷ (codes "delta.rowTracking.materializedRowIdColumnName", codes "_row-id-col-" ++ id)
    ∷ (codes "delta.rowTracking.materializedRowCommitVersionColumnName", codes "_row-commit-version-col-" ++ id)
    ∷ []

-- PROTOCOL.md, "Column Mapping": the greatest id of a column, which is the number of columns
abbrev pub mapping_of : Bool → ℕ → Pairs
mapping_of mapped count = if mapped then (codes "delta.columnMapping.maxColumnId", decimal count) ∷ [] else []

-- ---- all of them

-- pairs put in one after another, each at its place in byte order of the names; of equal names the last text stays
unfoldable pub with_pairs : Pairs → Pairs → Pairs
with_pairs found [] = found
with_pairs found (pair ∷ more) = with_pairs (insert_entry (slice_cmp nat_cmp) found pair.0 pair.1) more

-- by the elements, the properties that are given, whether the columns are mapped, the number of columns, and the id
unfoldable pub configuration_of : List Element → Pairs → Bool → ℕ → List ℕ → Pairs
configuration_of elements properties mapped count id =
    with_pairs [] (properties ++ checks_of elements ++ tracking_of id ++ mapping_of mapped count)
