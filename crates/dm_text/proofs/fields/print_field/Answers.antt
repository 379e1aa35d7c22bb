use Rattle.dm_text.proofs.Plain.{field_printed}
use Rattle.dm_text.proofs.fields.print_field.Goals as goal

pub returns-in_default : goal.returns-in_default
returns-in_default c =
    let is = field_printed c.args.kind.now c.args.value.now c.requires c.in_default.not-Null c.in_default.not-Text in
    rw is c.print_value.ensures
