use Rattle.std.proofs.Common.{rules}
use Rattle.table_write.proofs.Deleting.{head_passes, not_changeable, rules_refused}
use Rattle.table_write.proofs.delete.check_head.Goals as goal

pub returns-in_err-read_rules : goal.returns-in_err-read_rules
returns-in_err-read_rules c = rules_refused c.args.head.now c.in_err-read_rules.field-0.0 c.from_residual.result c.from_residual.ensures.1 c.in_err-read_rules.ensures.rules

pub returns-in_err-check_changeable : goal.returns-in_err-check_changeable
returns-in_err-check_changeable c = not_changeable c.args.head.now c.in_ok-read_rules.field-0 c.in_err-check_changeable.field-0.0 c.from_residual-in_err-check_changeable.result c.from_residual-in_err-check_changeable.ensures.1 c.in_ok-read_rules.ensures.rules (search rules)

pub returns : goal.returns
returns c = head_passes c.args.head.now c.in_ok-read_rules.field-0 c.in_ok-read_rules.ensures.rules (search rules)
