use Rattle.std.proofs.Common.{◌≡◌, drop}
use Rattle.serde_json.specs.Data.{no_members}
use Rattle.serde_json.specs.View.{members_view}
use Rattle.delta_actions.specs.Written.{members_onto}
use Rattle.delta_schema.specs.Written.{other_fields}
use Rattle.delta_schema.proofs.writing.other_members.Given as goal

abbrev pub invariant-loop-name : goal.invariant-loop-name
invariant-loop-name l =
    members_onto no_members (other_fields l.others) ≡ members_onto (members_view l.members.entries) (other_fields (drop l.name-index l.others))
