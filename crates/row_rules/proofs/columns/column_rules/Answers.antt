use Rattle.std.proofs.Common.{rules, refl, [], ◌≡◌}
use Rattle.row_rules.specs.Rules.{column_rule, each}
use Rattle.row_rules.specs.Texts.{seen_by_generations}
use Rattle.row_rules.proofs.Each.{at_end, handed, no_further, onward}
use Rattle.row_rules.proofs.columns.column_rules.Goals as goal

pub returns-in_err-rule : goal.returns-in_err-rule
returns-in_err-rule c =
    let rule = column_rule c.args.feed c.args.mode (seen_by_generations c.args.columns.now) in
    let all = each rule [] c.args.columns.now in
    handed (rule c.column-item.result) all c.in_err-rule.field-0.0 _ (search rules)
    (λ name e. no_further rule c.loop-column.rules all c.args.columns.now c.loop-column.column-index c.column-item.result name c.loop-column.invariant (search rules) (search rules) e) (search rules)

pub loop-column-preserved : goal.loop-column-preserved
loop-column-preserved c =
    let rule = column_rule c.args.feed c.args.mode (seen_by_generations c.args.columns.now) in
    onward rule c.loop-column.rules (each rule [] c.args.columns.now) c.args.columns.now c.loop-column.column-index c.column-item.result c.in_ok-rule.rule _ c.loop-column.invariant (search rules) (search rules) (search rules) (search rules)

pub returns : goal.returns
returns c =
    let rule = column_rule c.args.feed c.args.mode (seen_by_generations c.args.columns.now) in
    at_end rule c.loop-column.rules (each rule [] c.args.columns.now) c.args.columns.now c.loop-column.column-index c.loop-column.invariant (search rules)
