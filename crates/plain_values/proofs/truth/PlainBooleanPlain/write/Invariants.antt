use Rattle.std.proofs.Common.{◌≡◌, ◌++◌, map}
use Rattle.std.specs.List.{range_with_len}
use Rattle.plain_values.specs.Flags.{flag_byte}
use Rattle.plain_values.proofs.truth.PlainBooleanPlain.write.Given as goal

abbrev pub invariant-loop-at : goal.invariant-loop-at
invariant-loop-at l = l.out ≡ l.fn.out ++ map (flag_byte l.flags) (range_with_len 0 l.at)
