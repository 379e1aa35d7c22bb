use Rattle.std.proofs.Common.{sym}
use Rattle.delta_schema.proofs.Naming.{halves_at}
use Rattle.delta_schema.proofs.types.halves.Goals as goal

pub returns : goal.returns
returns c = halves_at c.args.text.now c.in_ok-comma.comma (sym c.in_ok-comma.ensures.place)
