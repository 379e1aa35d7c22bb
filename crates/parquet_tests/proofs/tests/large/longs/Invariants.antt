use Rattle.dm_types.specs.declared.value.DataType.TheVariants as kind
use Rattle.parquet_tests.specs.Growing.{Growing}
use Rattle.parquet_tests.proofs.tests.large.longs.Given as goal

abbrev pub invariant-loop-number : goal.invariant-loop-number
invariant-loop-number l = Growing kind.Long 20 l.number l.column
