-- Where an outside fault comes from: a count that never falls, and rose in the call that failed.
use Rattle.std.specs.Prelude.{◌≡◌, ℕ, ◌+◌, ◌-◌, ◌^◌, ◌≤◌, min, max, Result, Ok, Err}
use Rattle.dm_store.specs.declared.faults.ListFault.{ListFault}
use Rattle.dm_store.specs.declared.faults.ListFault.TheVariants as list
use Rattle.dm_store.specs.declared.faults.ReadFault.{ReadFault}
use Rattle.dm_store.specs.declared.faults.ReadFault.TheVariants as read
use Rattle.dm_store.specs.declared.faults.PutFault.{PutFault}
use Rattle.dm_store.specs.declared.faults.PutFault.TheVariants as put
use Rattle.dm_store.specs.declared.faults.SinkFault.{SinkFault}
use Rattle.dm_store.specs.declared.faults.SinkFault.TheVariants as sink
use Rattle.dm_store.specs.declared.faults.Failed.{Failed}
use Rattle.dm_types.specs.declared.refusal.Stop.{Stop}
use Rattle.dm_types.specs.declared.refusal.Stop.TheVariants as stop

-- the count is larger, or stands at the last value of a counter; it didn't fall
abbrev pub Rose : ℕ → ℕ → Type 0
Rose before now = max before (min (before + 1) (2 ^ 64 - 1)) ≤ now

-- what each answer says of the count: an `Ok` leaves it, and a fault says it by its own rule
abbrev pub Counts : {T E : Type 0} → (E → ℕ → ℕ → Type 0) → ℕ → ℕ → Result T E → Type 0
Counts rule before now (Ok x) = now ≡ before
Counts rule before now (Err e) = rule e before now

abbrev pub ListCause : ListFault → ℕ → ℕ → Type 0
ListCause list.Failed before now = Rose before now
ListCause list.Memory before now = now ≡ before

abbrev pub ReadCause : ReadFault → ℕ → ℕ → Type 0
ReadCause read.Absent before now = now ≡ before
ReadCause read.Failed before now = Rose before now
ReadCause read.Memory before now = now ≡ before

abbrev pub PutCause : PutFault → ℕ → ℕ → Type 0
PutCause put.Exists before now = now ≡ before
PutCause put.Failed before now = Rose before now
PutCause put.Memory before now = now ≡ before

-- the second count of a store, of the names that were taken
abbrev pub TakenCause : PutFault → ℕ → ℕ → Type 0
TakenCause put.Exists before now = Rose before now
TakenCause put.Failed before now = now ≡ before
TakenCause put.Memory before now = now ≡ before

abbrev pub SinkCause : SinkFault → ℕ → ℕ → Type 0
SinkCause sink.Failed before now = Rose before now
SinkCause sink.Memory before now = now ≡ before

abbrev pub FailedCause : Failed → ℕ → ℕ → Type 0
FailedCause e before now = Rose before now

-- a listing that gave nothing stops its statement
abbrev pub stop_from_list : ListFault → Stop
stop_from_list list.Failed = stop.Store
stop_from_list list.Memory = stop.Memory

-- the count of a store's faults, by why a statement has no answer
abbrev pub StopCause : Stop → ℕ → ℕ → Type 0
StopCause (stop.Refused refused) before now = now ≡ before
StopCause stop.Store before now = Rose before now
StopCause stop.Names before now = now ≡ before
StopCause stop.Memory before now = now ≡ before

-- the count of the failed draws
abbrev pub DrawCause : Stop → ℕ → ℕ → Type 0
DrawCause (stop.Refused refused) before now = now ≡ before
DrawCause stop.Store before now = now ≡ before
DrawCause stop.Names before now = Rose before now
DrawCause stop.Memory before now = now ≡ before
