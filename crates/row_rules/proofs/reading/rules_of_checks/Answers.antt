use Rattle.std.proofs.Common.{rules, ◌≡◌, List, ap, sym, Ok, [], ◌∙◌}
use Rattle.row_rules.specs.Rules.{each}
use Rattle.row_rules.proofs.reading.rules_of_checks.Goals as goal

pub returns-in-None : goal.returns-in-None
unfolding each
returns-in-None c = rw (c.in-None.is) (search rules)
