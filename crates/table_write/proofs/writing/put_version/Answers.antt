use Rattle.std.proofs.Common.{rules, refl}
use Rattle.commit_log.specs.Commits.{stop_of}
use Rattle.table_write.proofs.Written.{line_unmade, not_committed}
use Rattle.table_write.proofs.writing.put_version.Goals as goal

pub returns-in_err-text-clause-puts : goal.returns-in_err-text-clause-puts
returns-in_err-text-clause-puts g c = line_unmade c.args.fresh.now _ _ _ (search rules)

pub returns-in_err-commit-clause-puts : goal.returns-in_err-commit-clause-puts
returns-in_err-commit-clause-puts g c = not_committed c.args.fresh.now _ _ _ _ c.in_err-commit.field-0.0 (stop_of c.in_err-commit.field-0.0) _ (search rules) refl c.in_err-commit.ensures.files c.in_err-commit.ensures.built c.in_err-commit.ensures.taken
