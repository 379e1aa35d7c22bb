use Rattle.std.proofs.Common.{rules}
use Rattle.table_log.specs.Listed.{IsVersion}
use Rattle.table_load.proofs.Member.{member_has}
use Rattle.table_load.proofs.log.newest_version.Goals as goal

pub returns-in-Ok-clause-small : goal.returns-in-Ok-clause-small
returns-in-Ok-clause-small c = member_has IsVersion c.in-Ok.newest c.args.versions.now.keys c.requires (search rules)
