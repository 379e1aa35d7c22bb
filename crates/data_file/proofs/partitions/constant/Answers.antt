use Rattle.std.proofs.Common.{◌≡◌, ◌∙◌, ℕ, List, true, ap, rules}
use Rattle.data_file.specs.Partitions.{given_text, key_of, text_under}
use Rattle.data_file.proofs.GivenValues.{constant-bad, constant-ok}
use Rattle.data_file.proofs.partitions.constant.Goals as goal

pub returns-in-Ok-clause-value : goal.returns-in-Ok-clause-value
returns-in-Ok-clause-value c =
    let column = c.args.column.now in
    let parted : column.partition ≡ true = search rules in
    let text : c.given_text.result.now ≡ text_under c.args.values.now (key_of c.args.mode column) = c.given_text.ensures ∙ ap given_text c.given_under.ensures ∙ ap (λ (k : List ℕ). text_under c.args.values.now k) c.key.ensures in
    constant-ok c.args.at column c.args.mode c.args.values.now c.given_text.result.now c.in-Ok.value parted text c.in-Ok.ensures.value

pub returns-in-Err-BadText-clause-value : goal.returns-in-Err-BadText-clause-value
returns-in-Err-BadText-clause-value c =
    let column = c.args.column.now in
    let parted : column.partition ≡ true = search rules in
    let text : c.given_text.result.now ≡ text_under c.args.values.now (key_of c.args.mode column) = c.given_text.ensures ∙ ap given_text c.given_under.ensures ∙ ap (λ (k : List ℕ). text_under c.args.values.now k) c.key.ensures in
    constant-bad c.args.at column c.args.mode c.args.values.now c.given_text.result.now parted text (rw c.in-Err-BadText.field-0-is at c.in-Err-BadText.ensures.value)
