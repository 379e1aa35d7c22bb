use Rattle.std.proofs.Common.{rules}
use Rattle.row_rules.specs.Rules.{check_rules, column_rules, rules_of, tracking}
use Rattle.row_rules.proofs.Each.{handed}
use Rattle.row_rules.proofs.Whole.{checks_fail, columns_fail, tracking_fails, whole}
use Rattle.row_rules.proofs.reading.read_rules.Goals as goal

pub returns-in_err-columns : goal.returns-in_err-columns
returns-in_err-columns c = record { rules = handed (column_rules c.args.head.now) (rules_of c.args.head.now) c.in_err-columns.field-0.0 _ (search rules) (columns_fail c.args.head.now) c.in_err-columns.ensures }

pub returns-in_err-checks : goal.returns-in_err-checks
returns-in_err-checks c = record { rules = handed (check_rules c.args.head.now) (rules_of c.args.head.now) c.in_err-checks.field-0.0 _ (search rules) (checks_fail c.args.head.now c.in_ok-columns.columns c.in_ok-columns.ensures) c.in_err-checks.ensures }

pub returns-in_err-check_tracking : goal.returns-in_err-check_tracking
returns-in_err-check_tracking c = record { rules = handed (tracking c.args.head.now) (rules_of c.args.head.now) c.in_err-check_tracking.field-0.0 _ (search rules) (tracking_fails c.args.head.now c.in_ok-columns.columns c.in_ok-checks.checks c.in_ok-columns.ensures c.in_ok-checks.ensures) c.in_err-check_tracking.ensures }

pub returns : goal.returns
returns c = record { rules = whole c.args.head.now c.in_ok-columns.columns c.in_ok-checks.checks c.in_ok-columns.ensures c.in_ok-checks.ensures c.in_ok-check_tracking.ensures }
