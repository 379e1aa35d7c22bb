use Rattle.std.proofs.Common.{rules}
use Rattle.script_run.proofs.ValueLines.{values_added}
use Rattle.script_run.proofs.value_lines.print_values.Goals as goal

pub returns-in_ok-print_cells : goal.returns-in_ok-print_cells
returns-in_ok-print_cells c =
    values_added c.args.out.now c.print_value.new.out c.print_cells.new.out c.in-Some.first.now c.in-Some.others.now c.args.columns.now c.args.place (search rules) c.in_ok-print_value.ensures c.in_ok-print_cells.ensures
