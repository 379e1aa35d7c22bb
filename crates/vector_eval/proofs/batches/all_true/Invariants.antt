use Rattle.std.proofs.Common.{◌≡◌, map, drop}
use Rattle.vector_eval.specs.Batches.{all_true}
use Rattle.vector_eval.specs.Steps.{line}
use Rattle.vector_eval.specs.Values.{value_of}
use Rattle.vector_eval.proofs.batches.all_true.Given as goal

abbrev pub invariant-loop-conjunct : goal.invariant-loop-conjunct
invariant-loop-conjunct l =
    all_true (map value_of l.conjuncts) (line l.row) ≡ all_true (map value_of (drop l.conjunct-index l.conjuncts)) (line l.row)
