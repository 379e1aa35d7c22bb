use Rattle.std.proofs.Common.{◌≡◌, ◌++◌, map, drop, false}
use Rattle.vector_eval.specs.Batches.{on_rows, found_or, faults_from, truths_on, all_true}
use Rattle.vector_eval.specs.Values.{value_of}
use Rattle.vector_eval.proofs.batches.holds.Given as goal

-- what was found so far, and what the rows that are left come to
abbrev pub invariant-loop-row : goal.invariant-loop-row
invariant-loop-row l = record {
  kept : l.kept ++ map (found_or false) (on_rows false (all_true (map value_of l.conjuncts)) l.batch.columns l.row (drop l.row l.selection))
      ≡ map (found_or false) (truths_on l.conjuncts l.batch.columns l.selection);
  faults : l.faults ++ faults_from l.row (on_rows false (all_true (map value_of l.conjuncts)) l.batch.columns l.row (drop l.row l.selection))
      ≡ faults_from 0 (truths_on l.conjuncts l.batch.columns l.selection);
}
