use Rattle.std.proofs.Common.{◌≡◌, ◌∙◌, ap, sym, length, slice_get, List, Bool, arith}
use Rattle.column_vectors.proofs.Bits.{row_tested}
use Rattle.column_vectors.proofs.Tested.{length-flags_of}
use Rattle.column_vectors.proofs.selection.Selection.test.Goals as goal

pub index-block-requires : goal.index-block-requires
index-block-requires c =
    let long : length c.args.self.now ≡ c.self.inside.rows = ap length (sym c.self.view_is) ∙ length-flags_of c.self.inside.rows _ in
    omega (arith, long, c.self.invariant.enough)

pub returns : goal.returns
returns c =
    let long : length c.args.self.now ≡ c.self.inside.rows = ap length (sym c.self.view_is) ∙ length-flags_of c.self.inside.rows _ in
    ap (λ (flags : List Bool). slice_get flags c.args.row) (sym c.self.view_is)
    ∙ row_tested c.self.inside.blocks.items c.self.inside.rows c.self.inside.count c.args.row c.index-block.result.now c.self.invariant (omega (arith, long)) c.index-block.ensures
