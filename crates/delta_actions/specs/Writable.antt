-- The actions that have the forms of their kind, and those that are read back from what is written for them.
use Rattle.std.specs.Prelude.{⊤, ◌≡◌, ◌≤◌, ℕ, List, IfSome, IsSome, false, true, codes}
use Rattle.std.specs.List.{All}
use Rattle.std.specs.List.Sorted.{IsStrictlySortedBy}
use Rattle.std.specs.Map.{keys_of}
use Rattle.std.specs.Ordering.{nat_cmp}
use Rattle.std.specs.Cmp.Lexicographic.{slice_cmp}
use Rattle.delta_actions.specs.Meaning.{mark_of, tracks}
use Rattle.delta_actions.specs.declared.action.ProtocolAction.{ProtocolAction}
use Rattle.delta_actions.specs.declared.action.TableFormat.{TableFormat}
use Rattle.delta_actions.specs.declared.action.MetadataAction.{MetadataAction}
use Rattle.delta_actions.specs.declared.action.DomainAction.{DomainAction}
use Rattle.delta_actions.specs.declared.action.Action.{Action}
use Rattle.delta_actions.specs.declared.action.Action.TheVariants as action

-- pairs in byte order of their names, each name once
abbrev pub AreOrdered : {A : Type 0} → List (List ℕ × A) → Type 0
AreOrdered ps = IsStrictlySortedBy (slice_cmp nat_cmp) (keys_of ps)

pub record IsProtocol (p : ProtocolAction) : Type 0 where
  pub reader : p.min_reader_version ≤ 2147483647
  pub writer : p.min_writer_version ≤ 2147483647

pub record IsFormat (f : TableFormat) : Type 0 where
  pub provider : IfSome f.provider (λ name. name ≡ codes "parquet")
  pub options : IfSome f.options AreOrdered

pub record IsMetadata (m : MetadataAction) : Type 0 where
  pub format : IfSome m.format IsFormat
  pub configuration : IfSome m.configuration AreOrdered

-- a domain that tracks rows has a mark
abbrev pub IsDomain : DomainAction → Type 0
IsDomain d = tracks d.domain d.removed ≡ true → IsSome (mark_of d.configuration)

-- what the types of the members don't say: versions in their range, pairs in order, the one provider, the mark
abbrev pub HasForm : Action → Type 0
HasForm (action.Protocol p) = IsProtocol p
HasForm (action.Metadata m) = IsMetadata m
HasForm (action.Add a) = IfSome a.partition_values AreOrdered
HasForm (action.Remove r) = IfSome r.partition_values AreOrdered
HasForm (action.Cdc c) = IfSome c.partition_values AreOrdered
HasForm (action.Domain d) = IsDomain d
HasForm (action.Info i) = ⊤
HasForm action.Other = ⊤

-- it has a line which says all that the action has
abbrev pub IsKept : Action → Type 0
IsKept (action.Protocol p) = ⊤
IsKept (action.Metadata m) = ⊤
IsKept (action.Add a) = a.deletion_vector ≡ false
IsKept (action.Remove r) = r.deletion_vector ≡ false
IsKept (action.Cdc c) = ⊤
IsKept (action.Domain d) = ⊤
IsKept (action.Info i) = ⊤
IsKept action.Other = ⊥

-- it has the form of its kind, is of no other kind, and has no deletion vector
abbrev pub IsWritable : Action → Type 0
IsWritable a = HasForm a × IsKept a

abbrev pub AreWritable : List Action → Type 0
AreWritable actions = All IsWritable actions
