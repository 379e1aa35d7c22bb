use Rattle.std.proofs.Common.{◌∙◌, ap}
use Rattle.std.specs.Str.{str_to_ascii_lowercase}
use Rattle.table_make.proofs.Set.{one_more}
use Rattle.table_make.proofs.names.hold.Goals as goal

pub returns-clause-held : goal.returns-clause-held
returns-clause-held c other =
    one_more c.args.names.now c.insert.new.self c.in_ok-lower.lower c.args.name.now other
    (c.in_ok-lower.ensures.ok ∙ ap str_to_ascii_lowercase c.as_str.ensures) c.in_ok-added.ensures.keys
