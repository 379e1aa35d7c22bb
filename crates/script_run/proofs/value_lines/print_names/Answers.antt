use Rattle.std.proofs.Common.{rules}
use Rattle.script_run.proofs.ValueLines.{names_added}
use Rattle.script_run.proofs.value_lines.print_names.Goals as goal

pub returns-in_ok-print_more_names : goal.returns-in_ok-print_more_names
returns-in_ok-print_more_names c =
    names_added c.args.out.now c.print_name.new.out c.print_more_names.new.out c.in-Some.first.now c.in-Some.others.now c.args.names.now (search rules) c.in_ok-print_name.ensures c.in_ok-print_more_names.ensures
