use Rattle.std.proofs.Common.{◌∙◌}
use Rattle.sql_reader.proofs.Behind.{by_default_so}
use Rattle.sql_reader.proofs.create.by_default.Goals as goal

pub returns : goal.returns
returns c =
    by_default_so c.args.source.now c.args.generated c.args.tokens.now c.take.new.self c.take-2.new.self c.take-3.new.self c.in_ok-take.field-0 c.in_ok-take-2.field-0 c.in_ok-take-3.field-0 c.in_ok-take.ensures c.in_ok-take-2.ensures c.in_ok-take-3.ensures
    ∙ c.in_ok-made.ensures
