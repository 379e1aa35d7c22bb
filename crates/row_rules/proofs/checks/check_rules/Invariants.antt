use Rattle.std.proofs.Common.{◌≡◌, [], drop}
use Rattle.std.specs.List.{filter_map}
use Rattle.row_rules.specs.Rules.{check_rule, constraint_of, each}
use Rattle.row_rules.specs.Texts.{seen_by_checks}
use Rattle.row_rules.proofs.checks.check_rules.Given as goal

abbrev pub invariant-loop-property : goal.invariant-loop-property
invariant-loop-property l = each (check_rule (seen_by_checks l.columns)) [] (filter_map constraint_of l.configuration) ≡ each (check_rule (seen_by_checks l.columns)) l.rules (filter_map constraint_of (drop l.property-index l.configuration))
