use Rattle.std.proofs.Common.{rules, arith, FitsSigned}
use Rattle.std.proofs.lemmas.Int.{ints}
use Rattle.std.specs.Int.{w128}
use Rattle.vector_eval.proofs.Exact.{truncated_fits, truncated_is, power_small}
use Rattle.vector_eval.proofs.casts.truncated.Goals as goal

pub overflow_cast-result : goal.overflow_cast-result
overflow_cast-result c = omega (arith, ints, c.ten_to.ensures, power_small c.args.number.now.scale c.requires)

pub nonzero_div-result : goal.nonzero_div-result
nonzero_div-result c =
    let fits : FitsSigned w128 c.args.number.now.unscaled = search rules in
    let small = power_small c.args.number.now.scale c.requires in
    (omega (arith, c.ten_to.ensures, small), truncated_fits c.args.number.now.unscaled c.ten_to.result _ fits c.ten_to.ensures small.0 small.1)

pub returns : goal.returns
returns c =
    let fits : FitsSigned w128 c.args.number.now.unscaled = search rules in
    let small = power_small c.args.number.now.scale c.requires in
    truncated_is c.args.number.now.unscaled c.ten_to.result _ fits c.ten_to.ensures small.0 small.1
