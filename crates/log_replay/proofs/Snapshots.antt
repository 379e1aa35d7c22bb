-- The state that a log says.
use Rattle.std.proofs.Common.{◌≡◌, ℕ, ℤ, List, [], ◌∷◌, map, Option, Some, None, refl, ap, ◌∙◌}
use Rattle.delta_actions.specs.declared.action.AddAction.{AddAction}
use Rattle.delta_actions.specs.declared.action.MetadataAction.{MetadataAction}
use Rattle.delta_actions.specs.declared.action.ProtocolAction.{ProtocolAction}
use Rattle.log_replay.specs.declared.commits.Commit.{Commit}
use Rattle.log_replay.specs.Force.{in_force, metadata_in, protocol_in, mark_in_force, fallen}
use Rattle.log_replay.specs.Live.{live_adds}
use Rattle.log_replay.specs.Replay.{newest, snapshot_of}

pub no_metadata : (commits : List Commit) → in_force metadata_in commits ≡ None → snapshot_of commits ≡ None
unfolding snapshot_of
no_metadata commits none = rw none refl

pub no_protocol : (commits : List Commit) (metadata : MetadataAction) → in_force metadata_in commits ≡ Some metadata → in_force protocol_in commits ≡ None → snapshot_of commits ≡ None
unfolding snapshot_of
no_protocol commits metadata found none = rw (found, none) refl

pub whole_state : (commits : List Commit) (metadata : MetadataAction) (protocol : ProtocolAction) (version : ℕ) (live : List AddAction) (mark : ℤ) (fell : Option ℤ)
    → in_force metadata_in commits ≡ Some metadata → in_force protocol_in commits ≡ Some protocol → version ≡ newest commits → live ≡ live_adds commits → mark ≡ mark_in_force commits → fell ≡ fallen commits
    → snapshot_of commits ≡ Some (record { version = version; metadata = metadata; protocol = protocol; live = live; mark = mark; fallen = fell })
unfolding snapshot_of
whole_state commits metadata protocol version live mark fell found said number files marked falls = rw (found, said, number, files, marked, falls) refl

-- all of each file is kept
same_list : (adds : List AddAction) → map (λ (add : AddAction). add) adds ≡ adds
same_list [] = refl
same_list (add ∷ adds) = ap (λ (more : List AddAction). add ∷ more) (same_list adds)

pub all_kept : (files adds : List AddAction) → files ≡ map (λ (add : AddAction). add) adds → files ≡ adds
all_kept files adds is = is ∙ same_list adds
