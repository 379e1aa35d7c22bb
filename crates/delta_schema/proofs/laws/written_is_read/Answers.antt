use Rattle.delta_schema.specs.Written.{written}
use Rattle.delta_schema.proofs.Back.{schema_back}
use Rattle.delta_schema.proofs.laws.written_is_read.Goals as goal

pub returns : goal.returns
unfolding written
returns c = λ columns partitions writable are. schema_back columns partitions writable are
