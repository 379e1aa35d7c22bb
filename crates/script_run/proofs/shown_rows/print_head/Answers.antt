use Rattle.script_run.proofs.ShowingRows.{head_added}
use Rattle.script_run.proofs.shown_rows.print_head.Goals as goal

pub returns : goal.returns
returns c = head_added c.push.result c.args.out.now c.extend_from_slice.new.self c.print_names.new.out c.push.new.self c.args.columns.now c.in_ok-extend_from_slice.ensures.ok c.in_ok-print_names.ensures c.push.ensures.ok
