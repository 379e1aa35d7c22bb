use Rattle.std.proofs.Common.{◌≡◌, drop}
use Rattle.serde_json.specs.Data.{no_members}
use Rattle.serde_json.specs.View.{members_view}
use Rattle.delta_actions.specs.Written.{pairs_onto}
use Rattle.delta_actions.proofs.building.ItemsTuple2TextWritten.write.Given as goal

abbrev pub invariant-loop-pair : goal.invariant-loop-pair
invariant-loop-pair g l = pairs_onto g.T.Written.written no_members l.self ≡ pairs_onto g.T.Written.written (members_view l.members.entries) (drop l.pair-index l.self)
