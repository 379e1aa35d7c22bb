-- The whole numbers of an action are in the range of an i64, which the steps of writing say of what they are given,
-- since a definition's numbers may be any.
use Rattle.std.specs.Prelude.{⊤, ◌<◌, ◌^◌, ℤ, pos, negsuc, IfSome}
use Rattle.delta_actions.specs.declared.action.AddAction.{AddAction}
use Rattle.delta_actions.specs.declared.action.RemoveAction.{RemoveAction}
use Rattle.delta_actions.specs.declared.action.Action.{Action}
use Rattle.delta_actions.specs.declared.action.Action.TheVariants as action

abbrev pub IsWhole : ℤ → Type 0
IsWhole (pos n) = n < 2 ^ 63
IsWhole (negsuc n) = n < 2 ^ 63

pub record AddHasWholes (a : AddAction) : Type 0 where
  pub size : IsWhole a.size
  pub time : IsWhole a.modification_time
  pub base : IfSome a.base_row_id IsWhole
  pub version : IfSome a.default_row_commit_version IsWhole

pub record RemoveHasWholes (r : RemoveAction) : Type 0 where
  pub time : IfSome r.deletion_timestamp IsWhole
  pub size : IfSome r.size IsWhole
  pub base : IfSome r.base_row_id IsWhole
  pub version : IfSome r.default_row_commit_version IsWhole

abbrev pub HasWholes : Action → Type 0
HasWholes (action.Protocol p) = ⊤
HasWholes (action.Metadata m) = IfSome m.created_time IsWhole
HasWholes (action.Add a) = AddHasWholes a
HasWholes (action.Remove r) = RemoveHasWholes r
HasWholes (action.Cdc c) = IfSome c.size IsWhole
HasWholes (action.Domain d) = ⊤
HasWholes (action.Info i) = IsWhole i.timestamp
HasWholes action.Other = ⊤
