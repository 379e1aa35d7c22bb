use Rattle.std.proofs.Common.{◌∙◌}
use Rattle.script_run.proofs.ValueLines.{kept_cells}
use Rattle.script_run.proofs.selected.query_text.Goals as goal

pub print_value_lines-requires : goal.print_value_lines-requires
print_value_lines-requires c =
    kept_cells c.args.columns.now c.args.loaded.now.ids c.args.kept.now c.as_slice-then-tracks_rows.result.now c.requires.columns (c.as_slice-then-tracks_rows.ensures ∙ c.in_ok-places.ensures)

pub value_lines-requires : goal.value_lines-requires
value_lines-requires c =
    kept_cells c.args.columns.now c.args.loaded.now.ids c.args.kept.now c.as_slice-else-tracks_rows.result.now c.requires.columns (c.as_slice-else-tracks_rows.ensures ∙ c.in_ok-places.ensures)
