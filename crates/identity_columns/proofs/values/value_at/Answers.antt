use Rattle.std.proofs.Common.{rules, ◌≡◌, None}
use Rattle.std.specs.Int.{w128, cast_signed, cast_unsigned}
use Rattle.std.proofs.lemmas.Int.{to_z-of_z}
use Rattle.identity_columns.proofs.Ranges.{wide_way, wide}
use Rattle.identity_columns.proofs.values.value_at.Goals as goal

pub returns-in_err-way : goal.returns-in_err-way
returns-in_err-way c =
    let none : c.from_residual.result ≡ None = c.from_residual.ensures in
    let step : cast_signed w128 (cast_unsigned w128 c.from.result) ≡ c.args.rule.now.step = search (rules, wide) in
    let place : cast_signed w128 (cast_unsigned w128 c.args.place) ≡ c.args.place = to_z-of_z w128 _ c.ranges.place in
    rw none (λ fits. c.in_err-way.ensures (rw (step, place) (wide_way _ _ (search rules) fits)))
