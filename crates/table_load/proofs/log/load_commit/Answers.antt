use Rattle.std.proofs.Common.{rules, Ok}
use Rattle.table_load.proofs.Reading.{commit_read}
use Rattle.table_load.proofs.log.load_commit.Goals as goal

pub returns-in-Ok-read_commit-clause-commit : goal.returns-in-Ok-read_commit-clause-commit
returns-in-Ok-read_commit-clause-commit g c =
    commit_read _ c.args.table.now c.args.version c.as_slice.result.now (Ok c.in-Ok-read_commit.actions) (search rules) (search rules)
