use Rattle.std.proofs.Common.{arith, ◌∙◌}
use Rattle.std.proofs.Math.Nat.{one-le-pow}
use Rattle.std.proofs.lemmas.List.{take_rest}
use Rattle.sql_lex.specs.Numbers.{unscaled}
use Rattle.sql_lex.proofs.Digits.{zeros_spell_nothing}
use Rattle.sql_lex.proofs.numbers.unscaled.Goals as goal

pub spelled_from-requires-clause-below : goal.spelled_from-requires-clause-below
spelled_from-requires-clause-below c = one-le-pow _ 10 (omega arith)

pub returns-clause-value : goal.returns-clause-value
unfolding unscaled
returns-clause-value c =
    let e = rw (take_rest c.args.number.now c.run.result) at c.spelled_from.ensures.value in
    let behind = rw c.run.ensures.value at e in
    behind ∙ zeros_spell_nothing c.args.number.now
