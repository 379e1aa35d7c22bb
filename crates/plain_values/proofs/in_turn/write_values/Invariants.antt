use Rattle.std.proofs.Common.{◌≡◌, ◌++◌, ℕ, take}
use Rattle.std.specs.List.{All, flat_map}
use Rattle.plain_values.proofs.in_turn.write_values.Given as goal

abbrev pub invariant-loop-value : goal.invariant-loop-value
invariant-loop-value g l = record {
  written : l.out ≡ l.fn.out ++ flat_map g.P.InTurn.spelled (take l.value-index l.values);
  are : (length : ℕ) → All (g.P.InTurn.has_length length) l.values → All (g.P.InTurn.is length) (take l.value-index l.values);
}
