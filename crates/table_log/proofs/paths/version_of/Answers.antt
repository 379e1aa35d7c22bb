use Rattle.std.proofs.Common.{rules, ◌∙◌, sym, None, Some}
use Rattle.table_log.proofs.Naming.{version_of-uncut, version_of-other_end, version_of-other_front, version_of-parsed, bounded-large, bounded-small}
use Rattle.table_log.proofs.paths.version_of.Goals.{then-ne-via-then-ne, then-ne-via-else-ne+then-not-are_digits}
use Rattle.table_log.proofs.paths.version_of.Goals as goal

pub returns-in_err-digits : goal.returns-in_err-digits
returns-in_err-digits c = c.from_residual.ensures ∙ sym (version_of-uncut c.args.name.now (search (rules, c.in_err-digits.ensures)))

pub returns-then-ne : goal.returns-then-ne
returns-then-ne c = elim c.then-ne.branch [
  | then-ne-via-then-ne w ↦ sym (version_of-other_end c.args.name.now c.in_ok-digits.rest.now (search rules) (search rules))
  | then-ne-via-else-ne+then-not-are_digits w ↦ sym (version_of-other_front c.args.name.now c.in_ok-digits.digits.now (search rules) (search rules))
]

pub returns-in_err-version : goal.returns-in_err-version
returns-in_err-version c = c.from_residual-in_err-version.ensures
    ∙ sym (version_of-parsed c.args.name.now c.in_ok-digits.digits.now c.in_ok-digits.rest.now c.parse.result None (search rules) (search rules) (search rules) (search rules) (search rules) (search rules) (search rules))

pub returns-then-version : goal.returns-then-version
returns-then-version c =
    let found = version_of-parsed c.args.name.now c.in_ok-digits.digits.now c.in_ok-digits.rest.now c.parse.result (Some c.in_ok-version.version) (search rules) (search rules) (search rules) (search rules) (search rules) (search rules) (search rules) in
    sym (found ∙ bounded-large c.in_ok-version.version (search rules))

pub returns : goal.returns
returns c =
    let found = version_of-parsed c.args.name.now c.in_ok-digits.digits.now c.in_ok-digits.rest.now c.parse.result (Some c.in_ok-version.version) (search rules) (search rules) (search rules) (search rules) (search rules) (search rules) (search rules) in
    sym (found ∙ bounded-small c.in_ok-version.version (search rules))
