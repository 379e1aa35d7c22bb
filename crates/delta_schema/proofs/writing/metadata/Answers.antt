use Rattle.std.proofs.Common.{sym, ap, ◌∙◌}
use Rattle.serde_json.specs.Data.{object, no_members}
use Rattle.serde_json.proofs.Views.{view-Object}
use Rattle.delta_actions.specs.Written.{members_onto}
use Rattle.delta_schema.specs.Written.{other_fields, own_fields}
use Rattle.delta_schema.proofs.Onto.{onto_both}
use Rattle.delta_schema.proofs.writing.metadata.Goals as goal

pub returns : goal.returns
returns c =
    let column = c.args.column.now in
    view-Object c.put_own.new.members
    ∙ ap object (c.in_ok-put_own.ensures
    ∙ ap (λ ms. members_onto ms (own_fields column)) (c.in_ok-members.ensures ∙ ap (λ others. members_onto no_members (other_fields others)) c.as_slice.ensures)
    ∙ sym (onto_both no_members (other_fields column.other) (own_fields column)))
