use Rattle.std.proofs.Common.{length, ◌^◌, ◌<◌}
use Rattle.std.specs.List.{All}
use Rattle.level_runs.proofs.Cutting.{Completes}
use Rattle.level_runs.proofs.writing.write_runs.Given as goal

abbrev pub invariant-loop-rest : goal.invariant-loop-rest
invariant-loop-rest l = record {
  completes : Completes l.width l.numbers l.rest l.written;
  fit : All (λ number. number < 2 ^ l.width) l.rest;
}

abbrev pub decreases-loop-rest : goal.decreases-loop-rest
decreases-loop-rest l = length l.rest
