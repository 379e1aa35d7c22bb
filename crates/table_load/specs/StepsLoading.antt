-- What the steps of loading a table answer.
use Rattle.std.specs.Prelude.{◌≡◌, ℕ, ◌<◌, Bool, List, length, Option, Result, Ok, Err, ⊤}
use Rattle.std.specs.Cmp.Lexicographic.{slice_cmp}
use Rattle.std.specs.List.{list_any}
use Rattle.std.specs.Ordering.{is_eq, nat_cmp}
use Rattle.dm_types.specs.Then.{go}
use Rattle.dm_types.specs.declared.refusal.Refused.TheVariants as refused
use Rattle.dm_types.specs.declared.refusal.Stop.{Stop}
use Rattle.dm_types.specs.declared.refusal.Stop.TheVariants as stop
use Rattle.dm_types.specs.declared.refusal.TableRefusal.{TableRefusal}
use Rattle.dm_types.specs.declared.refusal.TableRefusal.TheVariants as refusal
use Rattle.delta_actions.specs.declared.action.ProtocolAction.{ProtocolAction}
use Rattle.log_replay.specs.Numbers.{newest_of}
use Rattle.table_features.specs.Features.{name_at}
use Rattle.table_features.specs.declared.checks.FeatureFault.{FeatureFault}
use Rattle.table_features.specs.declared.checks.FeatureFault.TheVariants as fault
use Rattle.table_log.specs.Versions.{of_numbers, chosen}

-- the value, seen by `view`, or the refusal, that is known
abbrev pub GivesAs : {X A : Type 0} → (X → A) → Result A TableRefusal → Result X Stop → Type 0
GivesAs view known (Ok value) = known ≡ Ok (view value)
GivesAs view known (Err (stop.Refused (refused.Table found))) = known ≡ Err found
GivesAs view known (Err (stop.Refused (refused.Statement found))) = ⊥
GivesAs view known (Err (stop.Refused (refused.Put found))) = ⊥
GivesAs view known (Err stop.Store) = ⊥
GivesAs view known (Err stop.Names) = ⊥
GivesAs view known (Err stop.Memory) = ⊤

-- the value itself
abbrev pub Gives : {A : Type 0} → Result A TableRefusal → Result A Stop → Type 0
Gives known result = GivesAs (λ value. value) known result

-- a text is among the keys of an ordered set
abbrev pub is_held : List (List ℕ) → List ℕ → Bool
is_held keys text = list_any (λ key. is_eq (slice_cmp nat_cmp text key)) keys

-- the version that is asked for, or else the newest of these
abbrev pub version_among : Option ℕ → List ℕ → Result ℕ TableRefusal
version_among asked versions = go (of_numbers (newest_of versions)) (chosen asked)

-- the feature at this place
abbrev pub unknown_at : List (List ℕ) → ℕ → Result (Unit {0}) TableRefusal
unknown_at features index = Err (refusal.UnknownFeature (name_at features index))

-- a feature that an answer names is in its list
abbrev pub IsPlaced : ProtocolAction → Result (Unit {0}) FeatureFault → Type 0
IsPlaced protocol (Ok _) = ⊤
IsPlaced protocol (Err fault.Numbers) = ⊤
IsPlaced protocol (Err (fault.Reader index)) = index < length protocol.reader_features
IsPlaced protocol (Err (fault.Writer index)) = index < length protocol.writer_features
