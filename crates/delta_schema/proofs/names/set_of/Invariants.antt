use Rattle.std.proofs.Common.{◌≡◌, ℕ, List, ◌||◌, drop}
use Rattle.delta_schema.specs.Names.{is_among}
use Rattle.delta_schema.specs.StepsReading.{is_held}
use Rattle.delta_schema.proofs.names.set_of.Given as goal

abbrev pub invariant-loop-name : goal.invariant-loop-name
invariant-loop-name l = (name : List ℕ) → (is_held l.set.keys name || is_among (drop l.name-index l.names) name) ≡ is_among l.names name
