use Rattle.std.proofs.Common.{◌≡◌, take}
use Rattle.row_rules.specs.Texts.{seen_by_generations}
use Rattle.row_rules.proofs.texts.seen_by_generations.Given as goal

abbrev pub invariant-loop-column : goal.invariant-loop-column
invariant-loop-column l = l.scope ≡ seen_by_generations (take l.column-index l.columns)
