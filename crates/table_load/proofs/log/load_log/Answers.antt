use Rattle.std.proofs.Common.{rules}
use Rattle.table_load.proofs.Reading.{log_refused, log_read}
use Rattle.table_load.proofs.log.load_log.Goals as goal

pub returns-in_err-last-clause-commits : goal.returns-in_err-last-clause-commits
returns-in_err-last-clause-commits g c =
    log_refused c.members_decide.ensures (g.S.Store.files c.args.store.now) c.args.version c.args.table.now c.in_ok-versions.versions.keys c.in_err-last.field-0.0 _ (search rules) c.in_ok-versions.ensures.versions c.in_err-last.ensures.version

pub returns-clause-commits : goal.returns-clause-commits
returns-clause-commits g c =
    log_read c.members_decide.ensures (g.S.Store.files c.args.store.now) _ c.args.version c.args.table.now c.in_ok-versions.versions.keys c.in_ok-last.last c.read_commits.result c.in_ok-versions.ensures.kept c.in_ok-versions.ensures.versions c.in_ok-last.ensures.version c.read_commits.ensures.commits
