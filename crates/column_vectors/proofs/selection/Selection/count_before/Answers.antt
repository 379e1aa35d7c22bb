use Rattle.std.proofs.Common.{◌≡◌, ◌∙◌, ◌<◌, ap, sym, length, take, List, Bool, arith}
use Rattle.column_vectors.proofs.Bits.{row_counted}
use Rattle.column_vectors.proofs.Tested.{length-flags_of, take-flags_of, count_of-flags_of-le}
use Rattle.column_vectors.specs.Blocks.{flag_at}
use Rattle.column_vectors.specs.Flags.{count_of}
use Rattle.column_vectors.proofs.selection.Selection.count_before.Goals as goal

pub index-block-requires : goal.index-block-requires
index-block-requires c =
    let long : length c.args.self.now ≡ c.self.inside.rows = ap length (sym c.self.view_is) ∙ length-flags_of c.self.inside.rows _ in
    omega (arith, long, c.self.invariant.enough)

pub overflow_add-result : goal.overflow_add-result
overflow_add-result c =
    let long : length c.args.self.now ≡ c.self.inside.rows = ap length (sym c.self.view_is) ∙ length-flags_of c.self.inside.rows _ in
    let low : c.args.row < c.self.inside.rows = omega (arith, long) in
    omega (
      arith,
      row_counted c.self.inside.blocks.items c.self.inside.rows c.self.inside.count c.args.row c.index-block.result.now c.self.invariant low c.index-block.ensures,
      ap count_of (take-flags_of c.self.inside.rows c.args.row (flag_at c.self.inside.blocks.items) (omega (arith, low))),
      count_of-flags_of-le c.args.row (flag_at c.self.inside.blocks.items),
    )

pub returns : goal.returns
returns c =
    let long : length c.args.self.now ≡ c.self.inside.rows = ap length (sym c.self.view_is) ∙ length-flags_of c.self.inside.rows _ in
    row_counted c.self.inside.blocks.items c.self.inside.rows c.self.inside.count c.args.row c.index-block.result.now c.self.invariant (omega (arith, long)) c.index-block.ensures
    ∙ ap (λ (flags : List Bool). count_of (take c.args.row flags)) c.self.view_is
