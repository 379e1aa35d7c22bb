-- What a call over rows answers.
use Rattle.std.specs.Prelude.{◌≡◌, Result, Ok, Err, ⊤}
use Rattle.dm_types.specs.declared.refusal.Refused.TheVariants as refused
use Rattle.dm_types.specs.declared.refusal.StatementRefusal.{StatementRefusal}
use Rattle.dm_types.specs.declared.refusal.Stop.{Stop}
use Rattle.dm_types.specs.declared.refusal.Stop.TheVariants as stop

-- the value, seen by `view`, or the refusal of the statement, that is known; want of memory is free
abbrev pub DecidesAs : {X A : Type 0} → (X → A) → Result A StatementRefusal → Result X Stop → Type 0
DecidesAs view known (Ok value) = known ≡ Ok (view value)
DecidesAs view known (Err (stop.Refused (refused.Statement refusal))) = known ≡ Err refusal
DecidesAs view known (Err (stop.Refused (refused.Table refusal))) = ⊥
DecidesAs view known (Err (stop.Refused (refused.Put refusal))) = ⊥
DecidesAs view known (Err stop.Store) = ⊥
DecidesAs view known (Err stop.Names) = ⊥
DecidesAs view known (Err stop.Memory) = ⊤

-- the value itself
abbrev pub Decides : {A : Type 0} → Result A StatementRefusal → Result A Stop → Type 0
Decides known result = DecidesAs (λ value. value) known result
