use Rattle.std.proofs.Common.{◌∙◌}
use Rattle.delta_schema.proofs.Collecting.{same_names}
use Rattle.delta_schema.proofs.names.are_all_among.Goals as goal

pub returns : goal.returns
returns c = c.are_all_held.ensures ∙ same_names c.in_ok-set.set.keys c.args.others.now c.args.names.now c.in_ok-set.ensures
