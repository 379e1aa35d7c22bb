use Rattle.std.proofs.Common.{◌≡◌, drop, map}
use Rattle.std.specs.List.{filter_map}
use Rattle.sql_tree.specs.declared.tree.Name.{Name}
use Rattle.table_make.specs.Elements.{columns, column_in, column_name, is_among}
use Rattle.table_make.specs.Steps.{column_at, is_held}
use Rattle.table_make.proofs.Told.{names, with_left}
use Rattle.table_make.proofs.elements.columns_of.Given as goal

-- what is told and what is left are all of them, and the set has the names of those that are told
abbrev pub invariant-loop-element : goal.invariant-loop-element
invariant-loop-element l =
    (columns l.elements ≡ with_left column_name (map column_at l.columns) (filter_map column_in (drop l.element-index l.elements)))
    × ((name : Name) → is_held l.names name ≡ is_among (names column_name (map column_at l.columns)) name)
