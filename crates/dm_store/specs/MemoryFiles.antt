-- What the stores in memory hold.
use Rattle.std.specs.Prelude.{ℕ, List, [], ◌∷◌, ◌++◌, Result, Ok, Err, ⊤, if◌then◌else◌}
use Rattle.dm_store.specs.Files.{Files}
use Rattle.dm_store.specs.Plan.{Plans, is_planned, IsPlanned}
use Rattle.dm_store.specs.declared.faults.PutFault.{PutFault}
use Rattle.dm_store.specs.declared.faults.PutFault.TheVariants as put
use Rattle.dm_store.specs.declared.memory_store.MemoryStore.{MemoryStore}
use Rattle.dm_store.specs.declared.sure_store.SureStore.{SureStore}

-- the files of a store that never fails
abbrev pub sure_files : SureStore → Files
sure_files s = s.files

-- how often such a store found a path taken
abbrev pub sure_taken : SureStore → ℕ
sure_taken s = s.taken

-- the files of a store with calls that are to fail
abbrev pub memory_files : MemoryStore → Files
memory_files s = sure_files s.sure

-- how often such a store found a path taken
abbrev pub store_taken : MemoryStore → ℕ
store_taken s = sure_taken s.sure

-- how often a call of it failed
abbrev pub store_faults : MemoryStore → ℕ
store_faults s = s.faults

-- how many calls it had, and which are to fail
abbrev pub store_plan : MemoryStore → Plans
store_plan s = (s.plan.calls, s.plan.failing)

-- how many calls it had, and which puts append where they are to fail
abbrev pub store_appending : MemoryStore → Plans
store_appending s = (s.plan.calls, s.appending)

-- how a put of a new path goes by the plans: one that is to fail fails, or lacks the memory to append
abbrev pub PutsAsPlanned : Plans → Plans → Result (Unit {0}) PutFault → Type 0
PutsAsPlanned failing appending (Ok _) = ¬ (IsPlanned failing)
PutsAsPlanned failing appending (Err put.Exists) = ⊤
PutsAsPlanned failing appending (Err put.Failed) = IsPlanned failing
PutsAsPlanned failing appending (Err put.Memory) = IsPlanned failing → IsPlanned appending

-- the files after a put that failed: the whole pair stands behind them exactly where that is planned
abbrev pub failed_put : Plans → List ℕ → List ℕ → Files → Files
failed_put appending path bytes files = if is_planned appending then files ++ (path, bytes) ∷ [] else files
