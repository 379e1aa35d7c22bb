use Rattle.std.proofs.lemmas.List.{take_rest}
use Rattle.level_runs.proofs.Cutting.{packed_taken, repeated_taken}
use Rattle.level_runs.proofs.writing.push_run.Goals as goal

pub returns : goal.returns
returns c =
    packed_taken c.args.width c.packed_groups-groups.result c.min-taken.result c.args.numbers.now _ c.args.out.now c.push_packed.new.out c.packed_groups-groups.ensures.some c.packed_groups-groups.ensures.within
    c.requires.some c.min-taken.ensures (take_rest c.args.numbers.now c.min-taken.result) c.in_ok-push_packed.ensures

pub returns-then-repeats-ge-GROUP : goal.returns-then-repeats-ge-GROUP
returns-then-repeats-ge-GROUP c =
    repeated_taken c.args.width c.front_repeats-repeats.result c.args.numbers.now _ c.args.out.now c.push_repeated.new.out c.front_repeats-repeats.ensures.some c.front_repeats-repeats.ensures.within c.front_repeats-repeats.ensures.equal
    (take_rest c.args.numbers.now c.front_repeats-repeats.result) c.in_ok-push_repeated.ensures
