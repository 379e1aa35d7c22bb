use Rattle.std.proofs.Common.{rules}
use Rattle.delta_schema.specs.Answers.{ReadsSchema}
use Rattle.delta_schema.specs.Columns.{schema_of}
use Rattle.delta_schema.proofs.WellFormed.{schema_formed}
use Rattle.delta_schema.proofs.columns.read_schema.Goals as goal

pub returns-in-Ok-clause-kinds : goal.returns-in-Ok-clause-kinds
returns-in-Ok-clause-kinds c =
    let reads : ReadsSchema (schema_of c.args.text.now c.args.partitions.now) c.answer.result = search rules in
    schema_formed c.args.text.now c.args.partitions.now c.answer.result reads
