use Rattle.std.proofs.Common.{◌^◌, ◌<◌}
use Rattle.std.specs.List.{All}
use Rattle.format_tests.proofs.tests.runs.sample.Given as goal

abbrev pub invariant-loop-place : goal.invariant-loop-place
invariant-loop-place l = All (λ number. number < 2 ^ l.width) l.numbers

abbrev pub invariant-loop : goal.invariant-loop
invariant-loop l = record {
  fit : All (λ number. number < 2 ^ l.width) l.numbers;
  narrow : l.number < 2 ^ l.width;
}
