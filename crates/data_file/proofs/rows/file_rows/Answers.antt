use Rattle.std.proofs.Common.{◌∙◌, ◌*◌, ℕ, List, sym, ap, rules}
use Rattle.column_vectors.specs.Cells.{Cells}
use Rattle.column_vectors.specs.declared.batch.Batch.{Batch}
use Rattle.dm_types.specs.Then.{go}
use Rattle.parquet_file.specs.File.{Opened, opened}
use Rattle.data_file.specs.Room.{less, or_else}
use Rattle.data_file.specs.Rows.{part_of, rows_of, seen}
use Rattle.data_file.specs.Stored.{rows_in}
use Rattle.data_file.specs.Table.{table_of}
use Rattle.dm_types.specs.declared.refusal.Counted.TheVariants as counted
use Rattle.data_file.specs.declared.fault.PartFault.TheVariants as fault
use Rattle.data_file.specs.declared.rows.PartRows.{PartRows}
use Rattle.data_file.specs.Wanted.{wanted}
use Rattle.data_file.proofs.Begun.{fails, gives_same, goes_on}
use Rattle.data_file.proofs.LeavesRead.{rows-are}
use Rattle.data_file.proofs.Steps.{rows_is, with_cells, with_file}
use Rattle.data_file.proofs.rows.file_rows.Goals as goal

pub returns-in_err-file-clause-part : goal.returns-in_err-file-clause-part
returns-in_err-file-clause-part c =
    let columns = wanted c.args.columns.now in
    let values = c.args.values.now in
    let room = c.args.room.now in
    let file_known = or_else fault.BadParquet (opened c.args.bytes.now) in
    let first = rows_is columns values c.args.bytes.now room in
    fails Opened PartRows (λ file. file) seen file_known (with_file columns values room) (rows_of columns values c.args.bytes.now room) c.in_err-file.field-0.0 c.from_residual.result first c.in_err-file.ensures (search rules)

pub returns-in_err-cells-clause-part : goal.returns-in_err-cells-clause-part
returns-in_err-cells-clause-part c =
    let columns = wanted c.args.columns.now in
    let values = c.args.values.now in
    let room = c.args.room.now in
    let file_known = or_else fault.BadParquet (opened c.args.bytes.now) in
    let first = rows_is columns values c.args.bytes.now room in
    let it = c.in_ok-file.file in
    let cells_known = less counted.Cells (c.len-width.result * c.rows.result) room.cells in
    let size = ap (λ (n : ℕ). go (less counted.Cells (n * rows_in it) room.cells) (with_cells columns values room it)) (sym c.len-width.ensures) ∙ ap (λ (n : ℕ). go (less counted.Cells (c.len-width.result * n) room.cells) (with_cells columns values room it)) (sym (rows-are it c.rows.result c.rows.ensures)) in
    let second = first ∙ goes_on file_known (with_file columns values room) it c.in_ok-file.ensures ∙ size in
    fails ℕ PartRows (λ left. left) seen cells_known (with_cells columns values room it) (rows_of columns values c.args.bytes.now room) c.in_err-cells.field-0.0 c.from_residual-in_err-cells.result second c.in_err-cells.ensures (search rules)

pub returns-in_err-batch-clause-part : goal.returns-in_err-batch-clause-part
returns-in_err-batch-clause-part c =
    let columns = wanted c.args.columns.now in
    let values = c.args.values.now in
    let room = c.args.room.now in
    let file_known = or_else fault.BadParquet (opened c.args.bytes.now) in
    let first = rows_is columns values c.args.bytes.now room in
    let it = c.in_ok-file.file in
    let cells_known = less counted.Cells (c.len-width.result * c.rows.result) room.cells in
    let size = ap (λ (n : ℕ). go (less counted.Cells (n * rows_in it) room.cells) (with_cells columns values room it)) (sym c.len-width.ensures) ∙ ap (λ (n : ℕ). go (less counted.Cells (c.len-width.result * n) room.cells) (with_cells columns values room it)) (sym (rows-are it c.rows.result c.rows.ensures)) in
    let second = first ∙ goes_on file_known (with_file columns values room) it c.in_ok-file.ensures ∙ size in
    let cells = c.in_ok-cells.cells in
    let table_known = table_of it columns values room.text in
    let third = second ∙ goes_on cells_known (with_cells columns values room it) cells c.in_ok-cells.ensures in
    fails (Batch × ℕ) PartRows (λ found. (found.0.columns, found.1)) seen table_known (part_of it columns cells) (rows_of columns values c.args.bytes.now room) c.in_err-batch.field-0.0 c.from_residual-in_err-batch.result third c.in_err-batch.ensures.found (search rules)

pub returns-clause-part : goal.returns-clause-part
returns-clause-part c =
    let columns = wanted c.args.columns.now in
    let values = c.args.values.now in
    let room = c.args.room.now in
    let file_known = or_else fault.BadParquet (opened c.args.bytes.now) in
    let first = rows_is columns values c.args.bytes.now room in
    let it = c.in_ok-file.file in
    let cells_known = less counted.Cells (c.len-width.result * c.rows.result) room.cells in
    let size = ap (λ (n : ℕ). go (less counted.Cells (n * rows_in it) room.cells) (with_cells columns values room it)) (sym c.len-width.ensures) ∙ ap (λ (n : ℕ). go (less counted.Cells (c.len-width.result * n) room.cells) (with_cells columns values room it)) (sym (rows-are it c.rows.result c.rows.ensures)) in
    let second = first ∙ goes_on file_known (with_file columns values room) it c.in_ok-file.ensures ∙ size in
    let cells = c.in_ok-cells.cells in
    let table_known = table_of it columns values room.text in
    let third = second ∙ goes_on cells_known (with_cells columns values room it) cells c.in_ok-cells.ensures in
    let table : List Cells × ℕ = (c.in_ok-batch.batch.columns, c.in_ok-batch.text) in
    let last = third ∙ goes_on table_known (part_of it columns cells) table c.in_ok-batch.ensures.found in
    let whole = gives_same PartRows seen (part_of it columns cells table) (rows_of columns values c.args.bytes.now room) c.part_of.result last c.part_of.ensures.part in
    whole
