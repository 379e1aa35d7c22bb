use Rattle.std.proofs.Common.{rules, ◌∙◌, ◌≤◌, ap, FitsSigned, arith}
use Rattle.std.proofs.lemmas.Int.{to_z-of_z}
use Rattle.std.specs.Int.{w128}
use Rattle.std.specs.Ordering.{ordering_reverse}
use Rattle.dm_types.proofs.Scales.{lower_scales, decimal_cmp-turned}
use Rattle.dm_types.proofs.comparison.compare_decimals.Goals as goal

pub returns-then-a-b : goal.returns-then-a-b
returns-then-a-b c =
    let a-fits : FitsSigned w128 c.args.a.now.unscaled = search rules in
    let b-fits : FitsSigned w128 c.args.b.now.unscaled = search rules in
    simp to_z-of_z at c.compare_scaled.ensures ∙ lower_scales c.args.a.now.unscaled c.args.b.now.unscaled c.args.a.now.scale c.args.b.now.scale c.if-a-b.true

pub returns-else-a-b : goal.returns-else-a-b
returns-else-a-b c =
    let a-fits : FitsSigned w128 c.args.a.now.unscaled = search rules in
    let b-fits : FitsSigned w128 c.args.b.now.unscaled = search rules in
    let le : c.args.b.now.scale ≤ c.args.a.now.scale = omega arith in
    c.reverse.ensures
    ∙ ap ordering_reverse (simp to_z-of_z at c.compare_scaled-else-a-b.ensures ∙ lower_scales c.args.b.now.unscaled c.args.a.now.unscaled c.args.b.now.scale c.args.a.now.scale le)
    ∙ decimal_cmp-turned c.args.a.now c.args.b.now
