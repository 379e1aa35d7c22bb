use Rattle.std.proofs.Common.{◌≡◌, ◌∙◌, ◌^◌, ap, ℤ, ◌*ℤ◌, pos, None, FitsSigned, to_z, of_z}
use Rattle.std.proofs.lemmas.Int.{to_z-of_z}
use Rattle.std.specs.Int.{w128}
use Rattle.dm_types.proofs.Scales.{unfit_on, next_power}
use Rattle.dm_types.proofs.comparison.scaled.Goals as goal

pub returns-in_err-product : goal.returns-in_err-product
returns-in_err-product c =
    let none : c.from_residual.result ≡ None = c.from_residual.ensures in
    let fits : FitsSigned w128 c.args.number = c.ranges.number in
    let sofar : to_z w128 c.loop.product-bits ≡ c.args.number *ℤ pos (10 ^ c.loop.counter) = c.loop.invariant ∙ ap (λ (z : ℤ). z *ℤ pos (10 ^ c.loop.counter)) (to_z-of_z w128 c.args.number fits) in
    rw none (unfit_on c.args.number _ c.loop.counter c.args.places sofar c.loop-test.true (c.in_err-product.ensures))

pub loop-preserved : goal.loop-preserved
loop-preserved c =
    let fits : FitsSigned w128 c.args.number = c.ranges.number in
    let step = c.in_ok-product.ensures in
    ap (to_z w128) (ap (of_z w128) step.1) ∙ to_z-of_z w128 _ step.0 ∙ ap (λ (z : ℤ). z *ℤ pos 10) c.loop.invariant ∙ next_power _ c.loop.counter
