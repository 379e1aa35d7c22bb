use Rattle.thrift_compact.specs.Written as w
use Rattle.thrift_compact.proofs.WrittenLaws.{written_is}
use Rattle.thrift_compact.proofs.StructLaws.{read_only}
use Rattle.thrift_compact.proofs.laws.written_is_read.Goals as goal

pub returns : goal.returns
returns c = record { spelled = written_is; again = λ tree more is room. read_only (w.struct tree) tree more (written_is tree is room) }
