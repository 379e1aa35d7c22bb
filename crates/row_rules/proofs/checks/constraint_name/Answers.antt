use Rattle.std.proofs.Common.{rules, ◌≡◌, ap, ◌∙◌}
use Rattle.delta_schema.specs.Types.{behind}
use Rattle.row_rules.specs.Rules.{constraint_prefix}
use Rattle.row_rules.proofs.Prefix.{found_behind}
use Rattle.row_rules.proofs.checks.constraint_name.Goals as goal

pub returns : goal.returns
returns c =
    let same : c.as_str.result.now ≡ c.args.property.now = search rules in
    found_behind constraint_prefix c.as_str.result.now c.strip_prefix.result c.strip_prefix.ensures.cases ∙ ap (behind constraint_prefix) same
