use Rattle.std.proofs.Common.{rules}
use Rattle.log_replay.proofs.Snapshots.{no_metadata, no_protocol, whole_state, all_kept}
use Rattle.log_replay.proofs.snapshot.replay.Goals as goal

pub returns-in_default : goal.returns-in_default
returns-in_default c = no_metadata c.args.commits.now (search rules)

pub returns-in_default-in_force : goal.returns-in_default-in_force
returns-in_default-in_force c = no_protocol c.args.commits.now c.in-Some.metadata.now (search rules) (search rules)

pub returns : goal.returns
returns c =
    whole_state c.args.commits.now c.in_ok-clone.field-0 c.in_ok-clone-2.field-0 _ c.in_ok-live_files.field-0 _ c.in_ok-marks.marks.fallen (search rules) (search rules) (search rules) (all_kept _ _ c.in_ok-live_files.ensures) (search rules) (search rules)
