-- What the sources and sinks in memory hold.
use Rattle.std.specs.Prelude.{ℕ, List, drop}
use Rattle.dm_store.specs.Plan.{Plans}
use Rattle.dm_store.specs.declared.memory_source.MemorySource.{MemorySource}
use Rattle.dm_store.specs.declared.memory_sink.MemorySink.{MemorySink}
use Rattle.dm_store.specs.declared.sure_source.SureSource.{SureSource}
use Rattle.dm_store.specs.declared.sure_sink.SureSink.{SureSink}

-- the bytes that a source that never fails has left
abbrev pub sure_left : SureSource → List ℕ
sure_left s = drop s.at s.bytes

-- the bytes that a source with calls that are to fail has left
abbrev pub source_left : MemorySource → List ℕ
source_left s = sure_left s.sure

-- how often a call of it failed
abbrev pub source_faults : MemorySource → ℕ
source_faults s = s.faults

-- how many calls it had, and which are to fail
abbrev pub source_plan : MemorySource → Plans
source_plan s = (s.plan.calls, s.plan.failing)

-- the bytes that a sink that never fails was given
abbrev pub sure_written : SureSink → List ℕ
sure_written s = s.written

-- the bytes that a sink with calls that are to fail was given
abbrev pub sink_written : MemorySink → List ℕ
sink_written s = sure_written s.sure

-- how often a call of it failed
abbrev pub sink_faults : MemorySink → ℕ
sink_faults s = s.faults

-- how many calls it had, and which are to fail
abbrev pub sink_plan : MemorySink → Plans
sink_plan s = (s.plan.calls, s.plan.failing)
