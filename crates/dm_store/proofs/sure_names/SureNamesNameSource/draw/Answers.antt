use Rattle.std.proofs.Common.{rules, [], refl}
use Rattle.dm_store.proofs.Told.{names_gave}
use Rattle.dm_store.proofs.sure_names.SureNamesNameSource.draw.Goals as goal

pub returns-clause-given : goal.returns-clause-given
returns-clause-given c = names_gave c.args.self.now.names [] c.args.self.now.draws c.saturating_add-self.result _ (search rules) refl (search rules)
