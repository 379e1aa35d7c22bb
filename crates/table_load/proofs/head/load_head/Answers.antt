use Rattle.std.proofs.Common.{rules}
use Rattle.table_load.proofs.Heads.{head_stops, head_follows}
use Rattle.table_load.proofs.head.load_head.Goals as goal

pub returns-in_err-commits-clause-head : goal.returns-in_err-commits-clause-head
returns-in_err-commits-clause-head g c = head_stops (g.S.Store.files c.args.store.now) c.args.table.now c.args.version c.in_err-commits.field-0.0 _ (search rules) c.in_err-commits.ensures.commits

pub returns-clause-head : goal.returns-clause-head
returns-clause-head g c = head_follows (g.S.Store.files c.args.store.now) c.args.table.now c.args.version c.in_ok-commits.commits c.head_of.result c.in_ok-commits.ensures.commits c.head_of.ensures.head
