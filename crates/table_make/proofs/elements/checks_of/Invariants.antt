use Rattle.std.proofs.Common.{◌≡◌, drop, map}
use Rattle.std.specs.List.{filter_map}
use Rattle.sql_tree.specs.declared.tree.Name.{Name}
use Rattle.table_make.specs.Elements.{checks, check_in, check_name, is_among}
use Rattle.table_make.specs.Steps.{check_at, is_held}
use Rattle.table_make.proofs.Told.{names, with_left}
use Rattle.table_make.proofs.elements.checks_of.Given as goal

-- what is told and what is left are all of them, and the set has the names of those that are told
abbrev pub invariant-loop-element : goal.invariant-loop-element
invariant-loop-element l =
    (checks l.elements ≡ with_left check_name (map check_at l.checks) (filter_map check_in (drop l.element-index l.elements)))
    × ((name : Name) → is_held l.names name ≡ is_among (names check_name (map check_at l.checks)) name)
