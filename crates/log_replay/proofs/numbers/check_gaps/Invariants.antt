use Rattle.std.proofs.Common.{◌≡◌, ◌+◌, length}
use Rattle.log_replay.proofs.Counting.{IsCounted}
use Rattle.log_replay.proofs.numbers.check_gaps.Given as goal

abbrev pub invariant-loop-number : goal.invariant-loop-number
invariant-loop-number l = record {
  next : l.next + length l.rest ≡ length l.sorted;
  counted : IsCounted l.sorted l.next l.rest;
}

abbrev pub decreases-loop-number : goal.decreases-loop-number
decreases-loop-number l = length l.rest
