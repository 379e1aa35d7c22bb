use Rattle.std.proofs.Common.{◌-◌, ◌+◌, ◌*◌, ◌<◌, length}
use Rattle.level_runs.proofs.writing.packed_groups.Given as goal

abbrev pub invariant-loop-groups : goal.invariant-loop-groups
invariant-loop-groups l = record {
  some : 0 < l.groups;
  within : 8 * l.groups < length l.numbers + 8;
}

abbrev pub decreases-loop-groups : goal.decreases-loop-groups
decreases-loop-groups l = length l.numbers - 8 * l.groups
