use Rattle.std.proofs.Common.{◌∙◌, ap, sym, length}
use Rattle.column_vectors.proofs.Tested.{length-flags_of}
use Rattle.column_vectors.proofs.selection.Selection.len.Goals as goal

pub returns : goal.returns
returns c = sym (length-flags_of c.self.inside.rows _) ∙ ap length c.self.view_is
