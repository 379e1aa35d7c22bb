use Rattle.std.proofs.Common.{◌^◌, ◌≤◌, arith, sym, ◌∙◌}
use Rattle.std.proofs.Math.Pow.{pow_mono}
use Rattle.std.proofs.lemmas.Bool.{lt-ltb, le-leb}
use Rattle.thrift_compact.proofs.header.is_below.Goals as goal

pub returns-then-width-ge7 : goal.returns-then-width-ge7
returns-then-width-ge7 c =
    let wide : 7 ≤ c.args.width = omega arith in
    let room : 2 ^ 7 ≤ 2 ^ c.args.width = pow_mono wide in
    le-leb _ _ wide ∙ sym (lt-ltb _ _ (omega (arith, room)))
