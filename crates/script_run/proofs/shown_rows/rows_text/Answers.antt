use Rattle.std.proofs.Common.{List, ℕ, ◌++◌, ◌∷◌, [], ◌∙◌, ap, map}
use Rattle.delta_schema.specs.declared.schema.ColumnDef.{ColumnDef}
use Rattle.row_tracking.specs.Order.{in_id_order}
use Rattle.script_run.specs.RowLines.{lines_text}
use Rattle.script_run.specs.ShownRows.{head_line, in_line_order}
use Rattle.script_run.specs.StepsRows.{line_at}
use Rattle.table_load.specs.Loaded.{seen}
use Rattle.table_load.specs.Properties.{tracks_rows}
use Rattle.script_run.proofs.ShowingRows.{text_of}
use Rattle.script_run.proofs.shown_rows.rows_text.Goals as goal

pub returns : goal.returns
returns c =
    let loaded = c.args.loaded.now in
    let lines : List ℕ = lines_text (in_line_order (tracks_rows loaded.head.snapshot) (map (line_at loaded.batch.columns loaded.ids) (in_id_order loaded.ids))) in
    text_of (seen loaded) c.print_rows.new.out
    (c.in_ok-print_rows.ensures ∙ ap (λ (t : List ℕ). t ++ lines) (c.in_ok-print_head.ensures ∙ ap (λ (columns : List ColumnDef). c.new-text.result ++ lines_text (head_line columns ∷ [])) c.as_slice.ensures ∙ ap (λ (t : List ℕ). t ++ lines_text (head_line loaded.head.schema ∷ [])) c.new-text.ensures))
