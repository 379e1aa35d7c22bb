use Rattle.table_features.specs.Features.{IsLeastOf}
use Rattle.table_features.proofs.known.least_unknown.Given as goal

abbrev pub invariant-loop-place : goal.invariant-loop-place
invariant-loop-place g l = IsLeastOf g.K.Known.knows l.names l.place l.least
