use Rattle.log_replay.proofs.Counting.{too_many, few_enough}
use Rattle.log_replay.proofs.numbers.check_numbers.Goals as goal

pub returns-then-sorted-gt-MAX_COMMITS-clause-newest : goal.returns-then-sorted-gt-MAX_COMMITS-clause-newest
returns-then-sorted-gt-MAX_COMMITS-clause-newest c = too_many c.args.sorted.now c.requires c.if-sorted-gt-MAX_COMMITS.true

pub returns-clause-newest : goal.returns-clause-newest
returns-clause-newest c = few_enough c.args.sorted.now c.check_gaps.result c.requires c.if-sorted-gt-MAX_COMMITS.false c.check_gaps.ensures.newest
