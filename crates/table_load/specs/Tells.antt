-- What a call over a table answers.
use Rattle.std.specs.Prelude.{◌≡◌, Option, Result, Ok, Err, ⊤}
use Rattle.dm_store.specs.Files.{Files, WhereTold}
use Rattle.dm_types.specs.declared.refusal.Refused.TheVariants as refused
use Rattle.dm_types.specs.declared.refusal.Stop.{Stop}
use Rattle.dm_types.specs.declared.refusal.Stop.TheVariants as stop
use Rattle.dm_types.specs.declared.refusal.TableRefusal.{TableRefusal}

-- the value, seen by `view`, or the refusal, that the definition gives of the files, where the store tells them
abbrev pub TellsAs : {X A : Type 0} → (X → A) → Option Files → (Files → Result A TableRefusal) → Result X Stop → Type 0
TellsAs view told meaning (Ok value) = WhereTold told (λ files. meaning files ≡ Ok (view value))
TellsAs view told meaning (Err (stop.Refused (refused.Table refusal))) =
    WhereTold told (λ files. meaning files ≡ Err refusal)
TellsAs view told meaning (Err (stop.Refused (refused.Statement refusal))) = ⊥
TellsAs view told meaning (Err (stop.Refused (refused.Put refusal))) = ⊥
TellsAs view told meaning (Err stop.Store) = ⊤
TellsAs view told meaning (Err stop.Names) = ⊥
TellsAs view told meaning (Err stop.Memory) = ⊤

-- the value itself
abbrev pub Tells : {A : Type 0} → Option Files → (Files → Result A TableRefusal) → Result A Stop → Type 0
Tells told meaning result = TellsAs (λ value. value) told meaning result
