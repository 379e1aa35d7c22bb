-- The least of all faults, found kind by kind.
use Rattle.std.proofs.Common.{◌≡◌, ℕ, min, List, ◌++◌, map, Bool, Option, sym, ap, ◌∙◌}
use Rattle.std.specs.List.{filter_map, reduce}
use Rattle.sql_statements.specs.declared.CheckElement.{CheckElement}
use Rattle.sql_statements.specs.declared.ColumnElement.{ColumnElement}
use Rattle.sql_statements.specs.declared.CreateStmt.{CreateStmt}
use Rattle.table_make.specs.Elements.{check_name, checks, columns, with_before}
use Rattle.table_make.specs.Faults.{column_faults, columnless, double, faults, first_fault, improper, is_mapped, rule_faults, unparted}
use Rattle.table_make.specs.Steps.{check_at, column_at, earlier}
use Rattle.table_make.specs.declared.elements.Check.{Check}
use Rattle.table_make.specs.declared.elements.Column.{Column}
use Rattle.table_make.proofs.Least.{six}
use Rattle.table_make.proofs.Lent.{filter_map_map}

-- all faults, where the columns and the constraints are told
abbrev told_faults : CreateStmt → List (ColumnElement × Bool) → List (CheckElement × Bool) → List ℕ
told_faults stmt all rules =
    column_faults (is_mapped stmt.properties) all
    ++ columnless all stmt.elements
    ++ filter_map (double check_name) rules
    ++ rule_faults all rules
    ++ filter_map (unparted all) (with_before stmt.partitions)
    ++ filter_map improper (with_before stmt.properties)

module _ (stmt : CreateStmt) (all : List Column) (rules : List Check) where
  abbrev pub of_columns : Option ℕ
  of_columns = reduce min (column_faults (is_mapped stmt.properties) (map column_at all))

  abbrev pub of_lack : Option ℕ
  of_lack = reduce min (columnless (map column_at all) stmt.elements)

  abbrev pub of_names : Option ℕ
  of_names = reduce min (filter_map (λ (check : Check). double check_name (check_at check)) rules)

  abbrev pub of_rules : Option ℕ
  of_rules = reduce min (rule_faults (map column_at all) (map check_at rules))

  abbrev pub of_partitions : Option ℕ
  of_partitions = reduce min (filter_map (unparted (map column_at all)) (with_before stmt.partitions))

  abbrev pub of_properties : Option ℕ
  of_properties = reduce min (filter_map improper (with_before stmt.properties))

  pub least : map column_at all ≡ columns stmt.elements → map check_at rules ≡ checks stmt.elements
      → earlier (earlier (earlier (earlier (earlier of_columns of_lack) of_names) of_rules) of_partitions) of_properties ≡ first_fault stmt
  unfolding faults first_fault
  least all_is rules_is =
      ap (λ (places : List ℕ). earlier (earlier (earlier (earlier (earlier of_columns of_lack) (reduce min places)) of_rules) of_partitions) of_properties)
      (sym (filter_map_map (double check_name) check_at rules))
      ∙ six (column_faults (is_mapped stmt.properties) (map column_at all)) (columnless (map column_at all) stmt.elements)
      (filter_map (double check_name) (map check_at rules)) (rule_faults (map column_at all) (map check_at rules))
      (filter_map (unparted (map column_at all)) (with_before stmt.partitions)) (filter_map improper (with_before stmt.properties))
      ∙ ap (λ (told : List (ColumnElement × Bool)). reduce min (told_faults stmt told (map check_at rules))) all_is
      ∙ ap (λ (told : List (CheckElement × Bool)). reduce min (told_faults stmt (columns stmt.elements) told)) rules_is
