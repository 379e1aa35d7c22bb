-- What is in force: the last of its kind in log order (PROTOCOL.md, "Action Reconciliation").
use Rattle.std.specs.Prelude.{ℕ, zero, suc, ℤ, negsuc, int_lt, List, false, Option, Some, None, take, length, codes, unwrap_or, if◌then◌else◌}
use Rattle.std.specs.List.{filter_map, flat_map, last_or}
use Rattle.std.specs.Option.{option_or}
use Rattle.std.specs.Str.{bytes_eq}
use Rattle.delta_actions.specs.Meaning.{mark_of}
use Rattle.delta_actions.specs.declared.action.MetadataAction.{MetadataAction}
use Rattle.delta_actions.specs.declared.action.ProtocolAction.{ProtocolAction}
use Rattle.delta_actions.specs.declared.action.DomainAction.{DomainAction}
use Rattle.delta_actions.specs.declared.action.Action.{Action}
use Rattle.delta_actions.specs.declared.action.Action.TheVariants as action
use Rattle.log_replay.specs.declared.commits.Commit.{Commit}

-- the actions of a log, in log order
abbrev pub all_actions : List Commit → List Action
all_actions commits = flat_map (λ commit. commit.actions) commits

-- the last of what some actions say, if one says it
abbrev pub last_said : {A : Type 0} → (Action → Option A) → List Action → Option A
last_said says actions = last_or None (filter_map says actions)

abbrev pub in_force : {A : Type 0} → (Action → Option A) → List Commit → Option A
in_force says commits = last_said says (all_actions commits)

abbrev pub metadata_in : Action → Option MetadataAction
metadata_in (action.Protocol protocol) = None
metadata_in (action.Metadata metadata) = Some metadata
metadata_in (action.Add add) = None
metadata_in (action.Remove remove) = None
metadata_in (action.Cdc cdc) = None
metadata_in (action.Domain domain) = None
metadata_in (action.Info info) = None
metadata_in action.Other = None

abbrev pub protocol_in : Action → Option ProtocolAction
protocol_in (action.Protocol protocol) = Some protocol
protocol_in (action.Metadata metadata) = None
protocol_in (action.Add add) = None
protocol_in (action.Remove remove) = None
protocol_in (action.Cdc cdc) = None
protocol_in (action.Domain domain) = None
protocol_in (action.Info info) = None
protocol_in action.Other = None

abbrev pub if_tracking : DomainAction → Option DomainAction
if_tracking domain = if bytes_eq domain.domain (codes "delta.rowTracking") then Some domain else None

-- the domain of row tracking (PROTOCOL.md, "Row Tracking")
abbrev pub tracking_in : Action → Option DomainAction
tracking_in (action.Protocol protocol) = None
tracking_in (action.Metadata metadata) = None
tracking_in (action.Add add) = None
tracking_in (action.Remove remove) = None
tracking_in (action.Cdc cdc) = None
tracking_in (action.Domain domain) = if_tracking domain
tracking_in (action.Info info) = None
tracking_in action.Other = None

-- no row id is given
abbrev pub no_mark : ℤ
no_mark = negsuc 0

-- the mark of a domain; a removed one has none, and nor has one whose configuration isn't of the form
abbrev pub domain_mark : DomainAction → ℤ
domain_mark domain =
    if unwrap_or domain.removed false then no_mark else unwrap_or (mark_of domain.configuration) no_mark

abbrev pub mark_from : Option DomainAction → ℤ
mark_from None = no_mark
mark_from (Some domain) = domain_mark domain

-- the row id mark in force: no row id that was given is above it
abbrev pub mark_in_force : List Commit → ℤ
mark_in_force commits = mark_from (in_force tracking_in commits)

-- the mark behind the first commits, so many of them
abbrev pub mark_after : List Commit → ℕ → ℤ
mark_after commits count = mark_in_force (take count commits)

-- the first mark that fell from one of the first commits to the next
unfoldable pub fallen_within : List Commit → ℕ → Option ℤ
fallen_within commits zero = None
fallen_within commits (suc n) =
    let mark = mark_after commits (suc n) in
    option_or (fallen_within commits n) (if int_lt mark (mark_after commits n) then Some mark else None)

abbrev pub fallen : List Commit → Option ℤ
fallen commits = fallen_within commits (length commits)
