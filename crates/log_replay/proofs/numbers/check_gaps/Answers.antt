use Rattle.std.proofs.Common.{rules}
use Rattle.log_replay.proofs.Counting.{counted_none, counted_more, counted_gap, counted_nothing, counted_all, counted_last}
use Rattle.log_replay.proofs.numbers.check_gaps.Goals as goal

pub loop-number-init : goal.loop-number-init
loop-number-init c = record { next = search rules; counted = counted_none c.args.sorted.now c.requires }

pub returns-then-number-next-clause-newest : goal.returns-then-number-next-clause-newest
returns-then-number-next-clause-newest c = counted_gap c.args.sorted.now c.loop-number.rest.now c.loop-number.next c.in-Some.number.now c.in-Some.more.now c.loop-number.invariant.counted (search rules) c.if-number-next.true

pub loop-number-preserved : goal.loop-number-preserved
loop-number-preserved c = record {
  next = search rules;
  counted = counted_more c.args.sorted.now c.loop-number.rest.now c.loop-number.next c.in-Some.number.now c.in-Some.more.now c.loop-number.invariant.counted (search rules) (search rules);
}

pub returns-in-0-clause-newest : goal.returns-in-0-clause-newest
returns-in-0-clause-newest c = counted_nothing c.args.sorted.now c.loop-number.rest.now c.loop-number.next c.loop-number.invariant.counted c.in_default.ensures.cases (search rules)

pub returns-in_default-next-clause-newest : goal.returns-in_default-next-clause-newest
returns-in_default-next-clause-newest c = counted_all c.args.sorted.now c.loop-number.rest.now c.loop-number.next c.loop-number.invariant.counted c.in_default.ensures.cases (search rules)

pub returns-in_default-next-clause-member : goal.returns-in_default-next-clause-member
returns-in_default-next-clause-member c = counted_last c.args.sorted.now c.loop-number.rest.now c.loop-number.next c.loop-number.invariant.counted (search rules)
