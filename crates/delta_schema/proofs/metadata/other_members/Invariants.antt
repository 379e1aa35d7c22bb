use Rattle.std.proofs.Common.{◌≡◌, ◌++◌, true}
use Rattle.serde_json.specs.View.{members_view}
use Rattle.delta_schema.specs.Metadata.{are_whole_members, other_members}
use Rattle.delta_schema.proofs.metadata.other_members.Given as goal

abbrev pub invariant-loop-name : goal.invariant-loop-name
invariant-loop-name l = record {
  found : other_members l.identity (members_view l.members.entries) ≡ l.others ++ other_members l.identity (members_view l.name-iterator);
  whole : are_whole_members (members_view l.name-iterator) ≡ true;
}
