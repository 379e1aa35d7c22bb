use Rattle.std.proofs.Common.{◌≡◌, [], drop}
use Rattle.row_rules.specs.Rules.{column_rule, each}
use Rattle.row_rules.specs.Texts.{seen_by_generations}
use Rattle.row_rules.proofs.columns.column_rules.Given as goal

abbrev pub invariant-loop-column : goal.invariant-loop-column
invariant-loop-column l = each (column_rule l.feed l.mode (seen_by_generations l.columns)) [] l.columns ≡ each (column_rule l.feed l.mode (seen_by_generations l.columns)) l.rules (drop l.column-index l.columns)
