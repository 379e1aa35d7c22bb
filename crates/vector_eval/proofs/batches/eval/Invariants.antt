use Rattle.std.proofs.Common.{◌≡◌, ◌++◌, map, drop}
use Rattle.dm_types.specs.declared.value.Value.TheVariants.{Null}
use Rattle.typed_expr.specs.Kinds.{kind_of}
use Rattle.vector_eval.specs.Batches.{on_rows, found_or, faults_from, values_on}
use Rattle.vector_eval.specs.Values.{value_of}
use Rattle.vector_eval.proofs.batches.eval.Given as goal

-- what was found so far, and what the rows that are left come to
abbrev pub invariant-loop-row : goal.invariant-loop-row
invariant-loop-row l = record {
  kind : l.column.kind ≡ kind_of l.expr;
  values : l.column.values ++ map (found_or Null) (on_rows Null (value_of l.expr) l.batch.columns l.row (drop l.row l.selection))
      ≡ map (found_or Null) (values_on l.expr l.batch.columns l.selection);
  faults : l.faults ++ faults_from l.row (on_rows Null (value_of l.expr) l.batch.columns l.row (drop l.row l.selection))
      ≡ faults_from 0 (values_on l.expr l.batch.columns l.selection);
}
