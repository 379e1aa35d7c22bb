use Rattle.std.proofs.Common.{rules}
use Rattle.std.specs.Prelude.{string_bytes}
use Rattle.serde_json.specs.View.{view, members_view}
use Rattle.delta_actions.proofs.Collecting.{collected}
use Rattle.delta_actions.proofs.members.ItemsTuple2TextForm.read.Goals as goal

pub loop-key-preserved : goal.loop-key-preserved
loop-key-preserved g c = collected g.T.Form.form (string_bytes c.in-Some-2.key.now) (view c.in-Some-2.member.now) (members_view c.next.new.self) c.in_ok-read.field-0 _ c.loop-key.pairs c.push.new.self (search (rules, c.loop-key.invariant)) (search rules) (search rules)
