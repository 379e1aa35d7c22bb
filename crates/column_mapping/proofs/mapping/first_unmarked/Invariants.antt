use Rattle.std.proofs.Common.{◌≡◌, ℕ, ◌<◌, false}
use Rattle.column_mapping.specs.declared.mode.Mode.TheVariants as mode
use Rattle.column_mapping.specs.Mapping.{breaks_at}
use Rattle.column_mapping.proofs.mapping.first_unmarked.Given as goal

abbrev pub invariant-loop-at : goal.invariant-loop-at
invariant-loop-at l = (k : ℕ) → k < l.at → breaks_at mode.ById l.columns k ≡ false
