use Rattle.std.proofs.Common.{◌≡◌, ℕ, ℤ, Option, map, take}
use Rattle.row_tracking.proofs.order.places_of.Given as goal

abbrev pub invariant-loop-key : goal.invariant-loop-key
invariant-loop-key l = l.places.items ≡ map (λ (key : Option ℤ × ℕ). key.1) (take l.key-index l.keys)
