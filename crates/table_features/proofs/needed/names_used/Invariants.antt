use Rattle.std.proofs.Common.{◌≡◌, map, take}
use Rattle.table_features.specs.Needed.{names_used as names_used_of}
use Rattle.table_features.proofs.needed.names_used.Given as goal

abbrev pub invariant-loop-name : goal.invariant-loop-name
invariant-loop-name l = l.names ≡ names_used_of (map (λ it. (it.0.now, it.1)) (take l.name-index l.features))
