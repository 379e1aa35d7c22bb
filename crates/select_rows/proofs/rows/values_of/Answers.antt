use Rattle.std.proofs.Common.{rules, ◌∙◌, ap, sym, map, take, arith}
use Rattle.std.specs.List.{flat_map}
use Rattle.std.proofs.lemmas.List.{take_all}
use Rattle.select_rows.specs.Rows.{column_of, errors_in}
use Rattle.select_rows.specs.declared.query.QueryItem.{QueryItem}
use Rattle.typed_expr.specs.declared.tree.TypedExpr.{TypedExpr}
use Rattle.vector_eval.specs.Batches.{values_on}
use Rattle.select_rows.proofs.Valued.{column_long, columns_found, columns_more, columns_refused, errors_more, ranged_more, taken_more}
use Rattle.select_rows.proofs.rows.values_of.Goals as goal

pub push-requires : goal.push-requires
push-requires c =
    column_long c.item-item.result.value c.args.batch.now.columns c.args.kept.now c.in_ok-outcome.outcome.column.values c.loop-item.found.rows c.in_ok-outcome.ensures.values (c.requires.flags ∙ sym c.loop-item.invariant.rows)

pub loop-item-preserved : goal.loop-item-preserved
loop-item-preserved c =
    let columns = c.args.batch.now.columns in
    let kept = c.args.kept.now in
    let x = c.item-item.result.value in
    let xs = map (λ (it : QueryItem). it.value) (take c.loop-item.item-index c.args.items.now) in
    let more = taken_more c.args.items.now c.loop-item.item-index c.item-item.result c.loop-item-test.true c.item-item.is in
    record {
      rows = c.in_ok-push.ensures.rows ∙ c.loop-item.invariant.rows;
      columns = columns_more columns kept xs x c.loop-item.found.columns _ c.in_ok-outcome.outcome.column c.in_ok-push.ensures.ok c.in_ok-outcome.ensures.kind c.in_ok-outcome.ensures.values c.loop-item.invariant.columns
          ∙ ap (map (column_of columns kept)) (sym more);
      faults = errors_more columns kept xs x c.loop-item.faults _ c.as_slice.result.now c.in_ok-extend_from_slice.ensures.ok (search rules) c.loop-item.invariant.faults
          ∙ ap (flat_map (λ (y : TypedExpr). errors_in (values_on y columns kept))) (sym more);
      ranges = λ ranged. ranged_more c.loop-item.found.columns _ c.in_ok-outcome.outcome.column c.in_ok-push.ensures.ok (c.in_ok-outcome.ensures.range ranged) (c.loop-item.invariant.ranges ranged);
    }

pub returns-in-Ok-clause-columns : goal.returns-in-Ok-clause-columns
returns-in-Ok-clause-columns c =
    let all = ap (map (λ (it : QueryItem). it.value)) (take_all c.loop-item.item-index c.args.items.now (omega arith)) in
    let columns = c.args.batch.now.columns in
    let kept = c.args.kept.now in
    columns_found columns kept (map (λ (it : QueryItem). it.value) c.args.items.now) c.loop-item.faults (c.loop-item.invariant.faults ∙ ap (flat_map (λ (y : TypedExpr). errors_in (values_on y columns kept))) all) c.loop-item.found.columns c.in-Ok.field-0
    (c.loop-item.invariant.columns ∙ ap (map (column_of columns kept)) all) (sym c.unless_error.ensures ∙ c.in-Ok.is)

pub returns-in-Err-clause-columns : goal.returns-in-Err-clause-columns
returns-in-Err-clause-columns c =
    let all = ap (map (λ (it : QueryItem). it.value)) (take_all c.loop-item.item-index c.args.items.now (omega arith)) in
    let columns = c.args.batch.now.columns in
    let kept = c.args.kept.now in
    columns_refused columns kept (map (λ (it : QueryItem). it.value) c.args.items.now) c.loop-item.faults (c.loop-item.invariant.faults ∙ ap (flat_map (λ (y : TypedExpr). errors_in (values_on y columns kept))) all) c.in-Err.refusal (sym c.unless_error.ensures ∙ c.in-Err.is)
