use Rattle.std.proofs.Common.{◌≡◌, ◌-◌, get_or, pos, arith, rules, w64, FitsSigned}
use Rattle.std.proofs.lemmas.Int.{to_z-of_z}
use Rattle.row_tracking.proofs.Neighbours.{repeated_here, repeated_nowhere}
use Rattle.row_tracking.proofs.checking.least_repeated.Goals as goal

pub returns-then-sorted-place : goal.returns-then-sorted-place
returns-then-sorted-place c =
    let xs = c.args.sorted.now in
    let here : FitsSigned w64 (get_or xs c.loop-place.place (pos 0)) = search rules in
    let same : get_or xs (c.loop-place.place - 1) (pos 0) ≡ get_or xs c.loop-place.place (pos 0) = search (rules, c.if-sorted-place.true) in
    rw (to_z-of_z w64 _ here) (repeated_here xs c.requires c.loop-place.place (search (rules, c.loop-place.auto.place)) c.loop-place-test.true c.loop-place.invariant same)

pub returns : goal.returns
returns c =
    let xs = c.args.sorted.now in
    repeated_nowhere xs c.requires (λ k below. c.loop-place.invariant k (let past = c.loop-place-test.false in omega arith))
