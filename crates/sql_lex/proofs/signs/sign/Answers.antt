use Rattle.std.proofs.Common.{◌≡◌, rules, arith}
use Rattle.std.proofs.lemmas.Grind.{common_steps}
use Rattle.sql_lex.specs.Signs.{sign, signs}
use Rattle.sql_lex.proofs.SignLengths.{sign_lasts}
use Rattle.sql_lex.proofs.signs.sign.Goals as goal

pub returns : goal.returns
unfolding sign signs
returns c =
    let value : c.sign_in.result ≡ sign c.args.bytes.now = first_of (search rules, grind (arith, common_steps)) in
    record { value = value; within = (rw value (sign_lasts c.args.bytes.now), c.sign_in.ensures.within) }
