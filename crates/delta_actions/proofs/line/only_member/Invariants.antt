use Rattle.std.proofs.Common.{◌≡◌, option_map}
use Rattle.std.specs.List.{cons_option}
use Rattle.serde_json.specs.View.{view, members_view}
use Rattle.delta_actions.specs.Meaning.{some_members, only, only_member}
use Rattle.delta_actions.proofs.line.only_member.Given as goal

abbrev pub invariant-loop-key : goal.invariant-loop-key
invariant-loop-key l = only_member (view l.value) ≡ only (cons_option (option_map (λ m. (m.0.now, view m.1.now)) l.found) (some_members (members_view l.key-iterator)))
