use Rattle.std.proofs.Common.{◌∙◌, ap, subst}
use Rattle.std.specs.Prelude.{unwrap_or}
use Rattle.delta_schema.specs.Columns.{schema_of}
use Rattle.table_load.specs.Head.{of_schema}
use Rattle.table_load.specs.StepsLoading.{Gives}
use Rattle.table_load.proofs.columns.columns.Goals as goal

pub returns-clause-columns : goal.returns-clause-columns
returns-clause-columns c =
    subst (λ partitions. Gives (of_schema (schema_of c.args.table.now.metadata.schema_string partitions)) c.schema.result)
    (c.names_or-partitions.ensures ∙ ap (λ none. unwrap_or c.args.table.now.metadata.partition_columns none) c.new-none.ensures) c.schema.ensures.columns
