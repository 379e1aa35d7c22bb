use Rattle.std.proofs.Common.{rules}
use Rattle.table_log.proofs.Found.{version_read}
use Rattle.table_log.proofs.files.read_version.Goals as goal

pub returns-clause-bytes : goal.returns-clause-bytes
returns-clause-bytes g c = version_read (g.S.Store.files c.args.store.now) c.args.table.now c.args.version c.as_str.result.now c.read.result c.requires (search rules) (search rules)
