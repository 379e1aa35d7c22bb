use Rattle.std.specs.Prelude.{All}
use Rattle.dm_types.specs.Ranges.{IsWellFormed}
use Rattle.data_file_tests.proofs.rows.schema_of.Given as goal

abbrev pub invariant-loop-column : goal.invariant-loop-column
invariant-loop-column l = All (λ column. IsWellFormed column.kind) l.schema
