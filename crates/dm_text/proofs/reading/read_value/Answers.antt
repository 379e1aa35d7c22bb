use Rattle.dm_text.proofs.InRange.{ranged}
use Rattle.dm_text.proofs.reading.read_value.Goals as goal

pub returns-clause-range : goal.returns-clause-range
returns-clause-range c = ranged c.args.kind.now c.args.text.now c.read_form.result c.requires c.read_form.ensures
