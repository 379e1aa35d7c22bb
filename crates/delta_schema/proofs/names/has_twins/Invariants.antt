use Rattle.std.proofs.Common.{◌≡◌, drop}
use Rattle.std.specs.Prelude.{string_bytes}
use Rattle.delta_schema.specs.Names.{has_twins}
use Rattle.delta_schema.proofs.Held.{clashes}
use Rattle.delta_schema.proofs.names.has_twins.Given as goal

abbrev pub invariant-loop-name : goal.invariant-loop-name
invariant-loop-name l = has_twins l.names ≡ clashes (λ key. string_bytes key) l.seen.keys (drop l.name-index l.names)
