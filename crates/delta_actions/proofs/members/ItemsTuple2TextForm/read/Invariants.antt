use Rattle.std.proofs.Common.{◌≡◌}
use Rattle.serde_json.specs.View.{view, members_view}
use Rattle.delta_actions.specs.Forms.{each_member, pairs}
use Rattle.delta_actions.proofs.Collecting.{after}
use Rattle.delta_actions.proofs.members.ItemsTuple2TextForm.read.Given as goal

abbrev pub invariant-loop-key : goal.invariant-loop-key
invariant-loop-key g l = pairs g.T.Form.form (view l.value) ≡ after l.pairs (each_member g.T.Form.form (members_view l.key-iterator))
