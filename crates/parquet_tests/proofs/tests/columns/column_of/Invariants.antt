use Rattle.parquet_tests.specs.Growing.{Growing}
use Rattle.parquet_tests.proofs.tests.columns.column_of.Given as goal

abbrev pub invariant-loop-wanted : goal.invariant-loop-wanted
invariant-loop-wanted l = Growing l.kind 1000 l.wanted-index l.column
