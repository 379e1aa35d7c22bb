use Rattle.std.proofs.Common.{◌∙◌, ◌+◌, ℕ, List, [], ◌∷◌, ◌++◌, drop, length, length-append, map, sym, ap, rules}
use Rattle.column_mapping.specs.Places.{place_of}
use Rattle.column_vectors.specs.Cells.{Cells}
use Rattle.column_vectors.specs.declared.batch.Batch.{Batch}
use Rattle.delta_schema.specs.declared.schema.ColumnDef.{ColumnDef}
use Rattle.parquet_meta.specs.declared.metadata.LeafSchema.{LeafSchema}
use Rattle.data_file.specs.Table.{columns_from, table_column}
use Rattle.data_file.proofs.Begun.{fails, goes_on}
use Rattle.data_file.proofs.ColumnByColumn.{columns-last, columns-next, place_at, sought_at}
use Rattle.data_file.proofs.table.columns_from.Goals as goal

pub returns-in_err-read-clause-found : goal.returns-in_err-read-clause-found
returns-in_err-read-clause-found c =
    let it = c.args.file.now in
    let mode = c.args.columns.now.mode in
    let constants = c.args.constants.now in
    let columns = c.as_slice-column-items.result.now in
    let column = c.column-item.result in
    let at = c.loop-at.at in
    let read = c.loop-at.batch.columns in
    let are = c.in_ok-places.ensures.places ∙ ap (λ (xs : List LeafSchema). map (place_of mode xs) c.args.columns.now.schema.now) c.leaves.ensures ∙ ap (λ (xs : List ColumnDef). map (place_of mode it.footer.leaves) xs) (sym c.as_slice-column-items.ensures) in
    let place = place_at c.in_ok-places.places (place_of mode it.footer.leaves) columns at column c.get.result.now are c.loop-at-test.true c.column-item.is c.get.ensures in
    let one = ap (sought_at at column) place in
    let next = columns-next it mode constants columns at column c.get-in-loop-at.result.now (sought_at at column c.get.result.now) read c.loop-at.left c.loop-at-test.true c.column-item.is c.loop-at.invariant.counted c.get-in-loop-at.ensures one in
    let known = table_column it (sought_at at column c.get.result.now) c.get-in-loop-at.result.now c.loop-at.left in
    let step = λ (found : Cells × ℕ). columns_from it mode constants (drop (at + 1) columns) (read ++ found.0 ∷ [], found.1) in
    let whole = sym (ap (λ (xs : List ColumnDef). columns_from it mode constants xs ([], c.args.left)) c.as_slice-column-items.ensures) in
    fails (Cells × ℕ) (Batch × ℕ) (λ found. found) (λ found. (found.0.columns, found.1)) known step (columns_from it mode constants c.args.columns.now.schema.now ([], c.args.left)) c.in_err-read.field-0.0 c.from_residual-in_err-read.result
    (whole ∙ c.loop-at.invariant.same ∙ next) c.in_err-read.ensures.found (search rules)

pub loop-at-preserved : goal.loop-at-preserved
loop-at-preserved c =
    let it = c.args.file.now in
    let mode = c.args.columns.now.mode in
    let constants = c.args.constants.now in
    let columns = c.as_slice-column-items.result.now in
    let column = c.column-item.result in
    let at = c.loop-at.at in
    let read = c.loop-at.batch.columns in
    let are = c.in_ok-places.ensures.places ∙ ap (λ (xs : List LeafSchema). map (place_of mode xs) c.args.columns.now.schema.now) c.leaves.ensures ∙ ap (λ (xs : List ColumnDef). map (place_of mode it.footer.leaves) xs) (sym c.as_slice-column-items.ensures) in
    let place = place_at c.in_ok-places.places (place_of mode it.footer.leaves) columns at column c.get.result.now are c.loop-at-test.true c.column-item.is c.get.ensures in
    let one = ap (sought_at at column) place in
    let next = columns-next it mode constants columns at column c.get-in-loop-at.result.now (sought_at at column c.get.result.now) read c.loop-at.left c.loop-at-test.true c.column-item.is c.loop-at.invariant.counted c.get-in-loop-at.ensures one in
    let known = table_column it (sought_at at column c.get.result.now) c.get-in-loop-at.result.now c.loop-at.left in
    let step = λ (found : Cells × ℕ). columns_from it mode constants (drop (at + 1) columns) (read ++ found.0 ∷ [], found.1) in
    let on = goes_on known step (c.in_ok-read.read, c.in_ok-read.behind) c.in_ok-read.ensures.found in
    record {
      same = c.loop-at.invariant.same ∙ next ∙ on ∙ ap (λ (xs : List Cells). columns_from it mode constants (drop (at + 1) columns) (xs, c.in_ok-read.behind)) (sym c.in_ok-push.ensures.ok);
      counted = ap length c.in_ok-push.ensures.ok ∙ length-append read (c.in_ok-read.read ∷ []) ∙ ap (λ n. n + 1) c.loop-at.invariant.counted;
      rows = c.in_ok-push.ensures.rows ∙ c.loop-at.invariant.rows;
    }

pub returns-clause-found : goal.returns-clause-found
returns-clause-found c =
    let it = c.args.file.now in
    let mode = c.args.columns.now.mode in
    let constants = c.args.constants.now in
    let whole = sym (ap (λ (xs : List ColumnDef). columns_from it mode constants xs ([], c.args.left)) c.as_slice-column-items.ensures) in
    whole ∙ c.loop-at.invariant.same ∙ columns-last it mode constants c.as_slice-column-items.result.now c.loop-at.at (c.loop-at.batch.columns, c.loop-at.left) c.loop-at-test.false
