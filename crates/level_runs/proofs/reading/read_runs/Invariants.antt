use Rattle.std.proofs.Common.{◌≡◌, ◌-◌, ◌≤◌, length}
use Rattle.level_runs.specs.Reading.{with_numbers, runs_at}
use Rattle.level_runs.proofs.reading.read_runs.Given as goal

abbrev pub invariant-loop-numbers : goal.invariant-loop-numbers
invariant-loop-numbers l = record {
  behind : length l.rest ≤ length l.bytes;
  narrow : l.width ≤ 32;
  left : runs_at (length l.bytes) l.width l.count l.bytes ≡ with_numbers l.numbers (runs_at (length l.rest) l.width (l.count - length l.numbers) l.rest);
}

abbrev pub decreases-loop-numbers : goal.decreases-loop-numbers
decreases-loop-numbers l = length l.rest
