use Rattle.std.proofs.Common.{rules, ℕ, List, [], Some}
use Rattle.std.specs.List.{filter_map}
use Rattle.row_rules.specs.Rules.{check_rule, constraint_of, each}
use Rattle.row_rules.specs.Texts.{seen_by_checks}
use Rattle.row_rules.proofs.Each.{all_made, handed, kept, unkept}
use Rattle.row_rules.proofs.Prefix.{constraint_so}
use Rattle.row_rules.proofs.checks.check_rules.Goals as goal

pub returns-in_err-rule : goal.returns-in_err-rule
returns-in_err-rule c =
    let rule = check_rule (seen_by_checks c.args.columns.now) in
    let all = each rule [] (filter_map constraint_of c.args.configuration.now) in
    let check : List ℕ × List ℕ = (c.in-Some.name.now, c.property-item.result.1) in
    handed (rule check) all c.in_err-rule.field-0.0 _ (search rules)
    (λ name e. unkept constraint_of rule c.loop-property.rules all c.args.configuration.now c.loop-property.property-index c.loop-property.invariant c.property-item.result (search rules) (search rules) check (constraint_so c.property-item.result (Some c.in-Some.name.now) (search rules)) name e) (search rules)

pub loop-property-preserved : goal.loop-property-preserved
loop-property-preserved c =
    let rule = check_rule (seen_by_checks c.args.columns.now) in
    let all = each rule [] (filter_map constraint_of c.args.configuration.now) in
    let check : List ℕ × List ℕ = (c.in-Some.name.now, c.property-item.result.1) in
    kept constraint_of rule c.loop-property.rules all c.args.configuration.now c.loop-property.property-index c.loop-property.invariant c.property-item.result (search rules) (search rules) check (constraint_so c.property-item.result (Some c.in-Some.name.now) (search rules)) c.in_ok-rule.rule _ (search rules) (search rules)

pub returns : goal.returns
returns c =
    let rule = check_rule (seen_by_checks c.args.columns.now) in
    all_made constraint_of rule c.loop-property.rules (each rule [] (filter_map constraint_of c.args.configuration.now)) c.args.configuration.now c.loop-property.property-index c.loop-property.invariant (search rules)
