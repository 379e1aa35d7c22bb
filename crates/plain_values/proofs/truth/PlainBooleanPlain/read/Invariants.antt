use Rattle.std.proofs.Common.{◌≡◌}
use Rattle.plain_values.specs.Flags.{flags_in}
use Rattle.plain_values.proofs.truth.PlainBooleanPlain.read.Given as goal

abbrev pub invariant-loop-place : goal.invariant-loop-place
invariant-loop-place l = l.flags ≡ flags_in l.bytes l.place
