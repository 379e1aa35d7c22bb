use Rattle.table_make.specs.Created.{new_columns}
use Rattle.table_make.specs.NewColumns.{partitions_of}
use Rattle.table_make.proofs.Readable.{partitions_good, writable_schema}
use Rattle.table_make.proofs.laws.created_schema_is_read.Goals as goal

pub returns : goal.returns
returns c stmt id time good =
    c.written_is_read.ensures (new_columns stmt id) (partitions_of (new_columns stmt id) stmt.partitions) (writable_schema stmt id good) (partitions_good stmt id good)
