use Rattle.thrift_compact.proofs.StructLaws.{one_place as law}
use Rattle.thrift_compact.proofs.laws.one_place.Goals as goal

pub returns : goal.returns
returns c = law
