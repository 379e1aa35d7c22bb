use Rattle.parquet_meta.proofs.TreeLaws.{schema_only, schema_found}
use Rattle.parquet_meta.proofs.laws.schemas_are_trees.Goals as goal

pub returns : goal.returns
returns c = record { only = schema_only; found = schema_found }
