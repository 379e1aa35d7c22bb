use Rattle.thrift_compact.proofs.StructLaws.{one_struct as law}
use Rattle.thrift_compact.proofs.laws.one_struct.Goals as goal

pub returns : goal.returns
returns c = law
