use Rattle.std.proofs.Common.{◌∙◌, FitsSigned, rules}
use Rattle.std.proofs.lemmas.Int.{to_z-of_z}
use Rattle.std.specs.Int.{w128}
use Rattle.vector_eval.proofs.Exact.{quotient_is}
use Rattle.vector_eval.proofs.numbers.quotient.Goals as goal

pub returns : goal.returns
returns c =
    let a : FitsSigned w128 c.args.a.now.unscaled = search rules in
    let b : FitsSigned w128 c.args.b.now.unscaled = search rules in
    c.counted.ensures ∙ quotient_is c.args.kind.now c.args.a.now c.args.b.now _ c.if-b-eq0.false (simp to_z-of_z at c.checked_div.ensures)
