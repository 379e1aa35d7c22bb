use Rattle.std.proofs.Common.{◌≡◌, map, drop}
use Rattle.vector_eval.specs.Batches.{has_kind}
use Rattle.vector_eval.proofs.batches.has_kind.Given as goal

abbrev pub invariant-loop-fault : goal.invariant-loop-fault
invariant-loop-fault l = has_kind l.kind (map (λ fault. fault.1) l.faults) ≡ has_kind l.kind (map (λ fault. fault.1) (drop l.fault-index l.faults))
