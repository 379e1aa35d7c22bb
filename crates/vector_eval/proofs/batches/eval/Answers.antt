use Rattle.std.proofs.Common.{◌≡◌, ◌∙◌, ap, map, subst, arith, length, ◌<◌}
use Rattle.dm_types.specs.declared.value.Value.TheVariants.{Null}
use Rattle.vector_eval.specs.Batches.{at_row, found_or, values_on}
use Rattle.vector_eval.specs.Steps.{AreTyped}
use Rattle.vector_eval.specs.Values.{value_of}
use Rattle.vector_eval.proofs.RowByRow.{found_more, faults_more, row_typed, ranged_column, at_end}
use Rattle.vector_eval.proofs.batches.eval.Goals as goal

pub push_value-requires : goal.push_value-requires
push_value-requires c =
    let typed = subst AreTyped c.as_slice-columns.ensures c.are_typed.ensures in
    let is : c.in_ok-outcome.outcome ≡ at_row Null (value_of c.args.expr.now) c.args.batch.now.columns c.loop-row.row c.test.result =
    c.in_ok-outcome.ensures ∙ ap (λ cs. at_row Null (value_of c.args.expr.now) cs c.loop-row.row c.test.result) c.as_slice-columns.ensures in
    row_typed c.args.batch.now.columns c.args.expr.now c.loop-row.row c.test.result c.in_ok-outcome.outcome _ c.requires typed c.what_reads_is_in_range.ensures is c.loop-row.invariant.kind

pub loop-row-preserved : goal.loop-row-preserved
loop-row-preserved c =
    let f = value_of c.args.expr.now in
    let columns = c.args.batch.now.columns in
    let less : c.loop-row.row < length c.args.selection.now = omega (arith, c.len-row-end.ensures) in
    let is : c.in_ok-outcome.outcome ≡ at_row Null f columns c.loop-row.row c.test.result =
    c.in_ok-outcome.ensures ∙ ap (λ cs. at_row Null f cs c.loop-row.row c.test.result) c.as_slice-columns.ensures in
    record {
      kind = c.in_ok-push_value.ensures.kind ∙ c.loop-row.invariant.kind;
      values = found_more Null f columns c.args.selection.now c.loop-row.row c.test.result less c.test.ensures c.in_ok-outcome.outcome is _ _ _ c.in_ok-push_value.ensures.ok c.loop-row.invariant.values;
      faults = faults_more Null f columns c.args.selection.now c.loop-row.row c.test.result less c.test.ensures c.in_ok-outcome.outcome is _ _ _ c.in_ok-push_fault.ensures c.loop-row.invariant.faults;
    }

pub returns-clause-range : goal.returns-clause-range
returns-clause-range c = λ ranged.
    let values : c.loop-row.column.values ≡ map (found_or Null) (values_on c.args.expr.now c.args.batch.now.columns c.args.selection.now)
    = at_end Null (value_of c.args.expr.now) c.args.batch.now.columns c.args.selection.now c.loop-row.row _ _ (omega (arith, c.len-row-end.ensures)) c.loop-row.invariant.values in
    ranged_column c.args.batch.now.columns c.args.expr.now c.args.selection.now c.loop-row.column c.requires ranged c.what_reads_is_in_range.ensures c.loop-row.invariant.kind values
