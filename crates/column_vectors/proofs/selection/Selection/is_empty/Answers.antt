use Rattle.std.proofs.Common.{◌≡◌, ◌∙◌, ap, sym, length, arith}
use Rattle.std.proofs.lemmas.Grind.{common_steps}
use Rattle.column_vectors.proofs.Tested.{length-flags_of}
use Rattle.column_vectors.proofs.selection.Selection.is_empty.Goals as goal

pub returns : goal.returns
returns c =
    let long : length c.args.self.now ≡ c.self.inside.rows = ap length (sym c.self.view_is) ∙ length-flags_of c.self.inside.rows _ in
    grind (arith, common_steps, long)
