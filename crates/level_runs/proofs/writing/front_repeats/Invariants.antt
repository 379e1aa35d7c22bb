use Rattle.std.proofs.Common.{◌≡◌, take, replicate}
use Rattle.level_runs.proofs.writing.front_repeats.Given as goal

abbrev pub invariant-loop-place : goal.invariant-loop-place
invariant-loop-place l = take l.place l.numbers ≡ replicate l.place l.first
