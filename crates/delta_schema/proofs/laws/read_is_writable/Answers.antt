use Rattle.delta_schema.proofs.Again.{schema_writable, schema_partitions}
use Rattle.delta_schema.proofs.laws.read_is_writable.Goals as goal

pub returns-clause-writable : goal.returns-clause-writable
returns-clause-writable c = λ text partitions columns is none. schema_writable text partitions columns is none

pub returns-clause-partitions : goal.returns-clause-partitions
returns-clause-partitions c = λ text partitions columns is. schema_partitions text partitions columns is
