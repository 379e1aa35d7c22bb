-- What the clock and the sources of names in memory hold.
use Rattle.std.specs.Prelude.{ℕ, ℤ, List, [], Option}
use Rattle.dm_store.specs.Answers.{told_below, times_until, names_until}
use Rattle.dm_store.specs.Plan.{Plans}
use Rattle.dm_store.specs.declared.memory_clock.MemoryClock.{MemoryClock}
use Rattle.dm_store.specs.declared.memory_names.MemoryNames.{MemoryNames}
use Rattle.dm_store.specs.declared.sure_names.SureNames.{SureNames}

-- the answers of a clock
abbrev pub clock_answers : MemoryClock → List ℤ
clock_answers c = c.answers

-- how many calls it had
abbrev pub clock_calls : MemoryClock → ℕ
clock_calls c = c.calls

-- what it has answered, told until the count of calls stands at its last value
abbrev pub clock_given : MemoryClock → Option (List ℤ)
clock_given c = told_below c.calls (times_until c.answers c.calls)

-- the names of a source that never fails
abbrev pub sure_names : SureNames → List (List ℕ)
sure_names s = s.names

-- how many draws it had
abbrev pub sure_draws : SureNames → ℕ
sure_draws s = s.draws

-- what it has answered, told until the count of draws stands at its last value
abbrev pub sure_given : SureNames → Option (List (List ℕ))
sure_given s = told_below s.draws (names_until s.names [] s.draws)

-- the names of a source with draws that are to fail
abbrev pub memory_names : MemoryNames → List (List ℕ)
memory_names s = s.names

-- how often a draw failed
abbrev pub names_faults : MemoryNames → ℕ
names_faults s = s.faults

-- how many draws it had, and which are to fail
abbrev pub names_plan : MemoryNames → Plans
names_plan s = (s.plan.calls, s.plan.failing)

-- what it has answered, told until the count of draws stands at its last value
abbrev pub names_given : MemoryNames → Option (List (List ℕ))
names_given s = told_below s.plan.calls (names_until s.names s.plan.failing s.plan.calls)
