use Rattle.std.proofs.Common.{◌≡◌, ◌∙◌, ap, false, map, arith, length, ◌<◌}
use Rattle.vector_eval.specs.Batches.{all_true, at_row}
use Rattle.vector_eval.specs.Values.{value_of}
use Rattle.vector_eval.proofs.RowByRow.{found_more, faults_more}
use Rattle.vector_eval.proofs.batches.holds.Goals as goal

pub loop-row-preserved : goal.loop-row-preserved
loop-row-preserved c =
    let f = all_true (map value_of c.args.conjuncts.now) in
    let columns = c.args.batch.now.columns in
    let less : c.loop-row.row < length c.args.selection.now = omega (arith, c.len-row-end.ensures) in
    let is : c.in_ok-outcome.outcome ≡ at_row false f columns c.loop-row.row c.test.result =
    c.in_ok-outcome.ensures
    ∙ ap (λ xs. at_row false (all_true (map value_of xs)) c.as_slice-columns.result.now c.loop-row.row c.test.result) c.as_slice.ensures
    ∙ ap (λ cs. at_row false f cs c.loop-row.row c.test.result) c.as_slice-columns.ensures in
    record {
      kept = found_more false f columns c.args.selection.now c.loop-row.row c.test.result less c.test.ensures c.in_ok-outcome.outcome is _ _ _ c.in_ok-push_truth.ensures c.loop-row.invariant.kept;
      faults = faults_more false f columns c.args.selection.now c.loop-row.row c.test.result less c.test.ensures c.in_ok-outcome.outcome is _ _ _ c.in_ok-push_fault.ensures c.loop-row.invariant.faults;
    }
