use Rattle.dm_types.specs.declared.value.DataType.TheVariants as kind
use Rattle.parquet_tests.specs.Growing.{Growing}
use Rattle.parquet_tests.proofs.tests.large.texts.Given as goal

abbrev pub invariant-loop : goal.invariant-loop
invariant-loop l = Growing kind.Str 20 l.counter l.column
