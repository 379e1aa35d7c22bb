use Rattle.std.proofs.Common.{ap, sym, ◌∙◌}
use Rattle.delta_schema.specs.Types.{decimal_of}
use Rattle.delta_schema.proofs.Naming.{other_kind}
use Rattle.delta_schema.proofs.types.kind.Goals as goal

pub returns-in_default : goal.returns-in_default
returns-in_default c =
    let other = c.in_default in
    c.decimal.ensures ∙ ap decimal_of c.as_bytes.ensures.value
    ∙ sym (other_kind c.args.name.now other.not-string other.not-long other.not-integer other.not-short other.not-byte other.not-boolean other.not-binary other.not-date other.not-timestamp)
