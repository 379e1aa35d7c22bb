use Rattle.std.proofs.Common.{rules, Ok, Err}
use Rattle.table_load.proofs.Checking.{readable_by}
use Rattle.table_load.proofs.Heads.{headed, no_state, unreadable}
use Rattle.table_load.proofs.head.head_of.Goals as goal

pub returns-in_err-snapshot-clause-head : goal.returns-in_err-snapshot-clause-head
returns-in_err-snapshot-clause-head c = no_state c.args.commits.now c.in_err-snapshot.field-0.0 _ (search rules) c.in_err-snapshot.ensures

pub returns-in_err-permit-clause-head : goal.returns-in_err-permit-clause-head
returns-in_err-permit-clause-head c = unreadable c.args.commits.now c.in_ok-snapshot.snapshot c.in_err-permit.field-0.0 _ (search rules) c.in_ok-snapshot.ensures (readable_by c.in_ok-snapshot.snapshot c.check_read.result (Err c.in_err-permit.field-0.0) c.check_read.ensures.named c.in_err-permit.ensures)

pub returns-clause-head : goal.returns-clause-head
returns-clause-head c = headed c.args.commits.now c.in_ok-snapshot.snapshot c.with_columns.result c.in_ok-snapshot.ensures (readable_by c.in_ok-snapshot.snapshot c.check_read.result (Ok tt) c.check_read.ensures.named c.in_ok-permit.ensures) c.with_columns.ensures.head
