use Rattle.std.proofs.Common.{◌∙◌, length, sym, ap}
use Rattle.plain_values.proofs.Cut.{arrays_counted}
use Rattle.plain_values.proofs.fixed.FixedArrays.len.Goals as goal

pub returns : goal.returns
returns c = sym (arrays_counted c.self.inside.size c.self.inside.count c.self.inside.bytes.now) ∙ ap length c.self.view_is
