-- What a reader of runs returned, beside what its bytes say, and what a writer added.
use Rattle.std.specs.Prelude.{◌≡◌, ⊤, ℕ, ◌+◌, ◌*◌, ◌≤◌, List, ◌++◌, length, Option, Some, None, Result, Ok, Err}
use Rattle.level_runs.specs.Runs.{MeansRuns}
use Rattle.level_runs.specs.declared.fault.RunFault.{RunFault}
use Rattle.level_runs.specs.declared.fault.RunFault.TheVariants.{BadRuns, Memory}

-- what there is, or BadRuns where there is nothing
abbrev pub ReadsRuns : Option (List ℕ × ℕ) → Result (List ℕ × ℕ) RunFault → Type 0
ReadsRuns known (Ok found) = known ≡ Some found
ReadsRuns known (Err BadRuns) = known ≡ None
ReadsRuns known (Err Memory) = ⊤

-- numbers went to the end as runs that mean them, in at most `width` + 10 bytes for each
pub record AppendsRuns (width : ℕ) (numbers old new : List ℕ) : Type 0 where
  pub written : List ℕ
  pub joined : new ≡ old ++ written
  pub means : MeansRuns width (length numbers) written numbers
  pub size : length written ≤ (width + 10) * length numbers
