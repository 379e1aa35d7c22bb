use Rattle.thrift_compact.proofs.StructLaws.{call_found, call_only, call_place}
use Rattle.thrift_compact.proofs.read.read_struct.Goals as goal

pub returns-clause-found : goal.returns-clause-found
returns-clause-found c = call_found c.args.bytes.now c.read_front.result c.read_front.ensures

pub returns-clause-only : goal.returns-clause-only
returns-clause-only c = λ front tree more spelled split. call_only c.args.bytes.now c.read_front.result c.read_front.ensures front tree more spelled split

pub returns-clause-place : goal.returns-clause-place
returns-clause-place c = λ at bad. call_place c.args.bytes.now c.read_front.result c.read_front.ensures at bad
