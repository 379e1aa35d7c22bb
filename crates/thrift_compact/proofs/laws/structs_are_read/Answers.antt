use Rattle.thrift_compact.proofs.StructLaws.{read_found, read_only, read_place}
use Rattle.thrift_compact.proofs.laws.structs_are_read.Goals as goal

pub returns : goal.returns
returns c = record { found = read_found; only = λ front more tree is. read_only front tree more is; place = read_place }
