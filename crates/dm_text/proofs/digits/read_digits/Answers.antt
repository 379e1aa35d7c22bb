use Rattle.std.proofs.Common.{◌≡◌, ◌∙◌, true, rules}
use Rattle.std.specs.Str.{all_ascii_digits}
use Rattle.dm_text.proofs.Numerals.{parsed, digits_utf8}
use Rattle.dm_text.proofs.digits.read_digits.Goals as goal

pub returns-in-Ok : goal.returns-in-Ok
returns-in-Ok c =
    let all : all_ascii_digits c.args.text.now ≡ true = search rules in
    let text = c.in-Ok.ensures.cases.0 in
    c.ok.ensures.value ∙ parsed c.args.text.now c.parse.result all (rw text at c.parse.ensures.value.0)

pub returns-in-Err : goal.returns-in-Err
returns-in-Err c =
    let all : all_ascii_digits c.args.text.now ≡ true = search rules in
    absurd (c.in-Err.ensures.cases.0 (digits_utf8 c.args.text.now all))
