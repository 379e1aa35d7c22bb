use Rattle.std.proofs.Common.{◌≡◌, Bool, List, ℕ, length}
use Rattle.std.specs.List.{list_any}
use Rattle.std.specs.Str.{bytes_eq}
use Rattle.delta_schema.specs.Metadata.{identity_names}
use Rattle.row_rules.proofs.columns.has_identity_member.Given as goal

abbrev is_of_identity : List ℕ × List ℕ → Bool
is_of_identity member = list_any (bytes_eq member.0) identity_names

abbrev pub invariant-loop-member : goal.invariant-loop-member
invariant-loop-member l = list_any is_of_identity l.members ≡ list_any is_of_identity l.rest

abbrev pub decreases-loop-member : goal.decreases-loop-member
decreases-loop-member l = length l.rest
