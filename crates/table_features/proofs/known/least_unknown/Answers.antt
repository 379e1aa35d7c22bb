use Rattle.std.proofs.Common.{rules}
use Rattle.table_features.proofs.Least.{least_new, least_stays}
use Rattle.table_features.proofs.known.least_unknown.Goals.{then-is_less, else-is_less}
use Rattle.table_features.proofs.known.least_unknown.Goals as goal

pub loop-place-preserved : goal.loop-place-preserved
loop-place-preserved g c = elim c.if-is_less.branch [
  | then-is_less w ↦ rw w.least-is (least_new g.K.Known.knows c.args.names.now c.loop-place.least c.loop-place.place c.loop-place.invariant (search rules))
  | else-is_less w ↦ rw w.least-is (least_stays g.K.Known.knows c.args.names.now c.loop-place.least c.loop-place.place c.loop-place.invariant (search rules))
]
