use Rattle.std.proofs.Common.{◌≡◌, ◌++◌, List, subst}
use Rattle.std.specs.Prelude.{OnOk}
use Rattle.column_vectors.specs.Cells.{Cells}
use Rattle.script_run.specs.StepsRows.{cells_text}
use Rattle.script_run.proofs.RowText.{row_added}
use Rattle.script_run.proofs.row_lines.print_row.Goals as goal

pub returns : goal.returns
returns c =
    row_added c.print_cells.result c.args.columns.now c.args.ids.now c.args.place c.get.result.now c.args.out.now c.print_numbers.new.out c.print_cells.new.out c.get.ensures c.in_ok-print_numbers.ensures
    (subst (λ (columns : List Cells). OnOk c.print_cells.result (c.print_cells.new.out ≡ c.print_numbers.new.out ++ cells_text columns c.args.place)) c.as_slice.ensures c.print_cells.ensures)
