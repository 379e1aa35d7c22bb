use Rattle.std.proofs.Common.{rules}
use Rattle.table_load.proofs.Heads.{has_columns, no_columns, no_mode}
use Rattle.table_load.proofs.head.with_columns.Goals as goal

pub returns-in_err-schema-clause-head : goal.returns-in_err-schema-clause-head
returns-in_err-schema-clause-head c = no_columns c.args.snapshot c.in_err-schema.field-0.0 _ (search rules) c.in_err-schema.ensures.columns

pub returns-in_err-mode-clause-head : goal.returns-in_err-mode-clause-head
returns-in_err-mode-clause-head c = no_mode c.args.snapshot c.in_ok-schema.schema c.in_err-mode.field-0.0 _ (search rules) c.in_ok-schema.ensures.columns c.in_err-mode.ensures

pub returns-clause-head : goal.returns-clause-head
returns-clause-head c = has_columns c.args.snapshot c.in_ok-schema.schema c.in_ok-mode.mode c.in_ok-schema.ensures.columns c.in_ok-mode.ensures
