use Rattle.std.proofs.Common.{rules, Ok, Err}
use Rattle.table_load.proofs.Checking.{permitted, unwritten, full, by_rules}
use Rattle.table_load.proofs.opened_for_writing.check_writable.Goals as goal

pub returns-in_err-permit-clause-answer : goal.returns-in_err-permit-clause-answer
returns-in_err-permit-clause-answer c = unwritten c.args.table.now c.in_err-permit.field-0.0 c.from_residual.result (search rules) (permitted c.args.table.now c.check_write.result (Err c.in_err-permit.field-0.0) c.check_write.ensures.named c.in_err-permit.ensures)

pub returns-in_err-check_room-clause-answer : goal.returns-in_err-check_room-clause-answer
returns-in_err-check_room-clause-answer c = full c.args.table.now c.in_err-check_room.field-0.0 c.from_residual-in_err-check_room.result (search rules) (permitted c.args.table.now c.check_write.result (Ok tt) c.check_write.ensures.named c.in_ok-permit.ensures) c.in_err-check_room.ensures.answer

pub returns-clause-answer : goal.returns-clause-answer
returns-clause-answer c = by_rules c.args.table.now c.check_rules.result (permitted c.args.table.now c.check_write.result (Ok tt) c.check_write.ensures.named c.in_ok-permit.ensures) (search rules) c.check_rules.ensures
