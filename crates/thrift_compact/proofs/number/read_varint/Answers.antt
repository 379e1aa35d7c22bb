use Rattle.std.proofs.Common.{sym, ap, subst, ◌∙◌, drop}
use Rattle.std.specs.Prelude.{IfSome}
use Rattle.thrift_compact.specs.Reading.{first_varint}
use Rattle.thrift_compact.specs.Places.{IsFrontVarint}
use Rattle.thrift_compact.proofs.VarintLaws.{first_found, first_only, cut}
use Rattle.thrift_compact.proofs.number.read_varint.Goals as goal

pub returns-clause-read : goal.returns-clause-read
returns-clause-read c = c.front_varint.ensures ∙ ap first_varint (cut c.args.at c.args.bytes.now _ c.min.ensures)

pub returns-clause-found : goal.returns-clause-found
returns-clause-found c =
    let same = c.front_varint.ensures ∙ ap first_varint (cut c.args.at c.args.bytes.now _ c.min.ensures) in
    subst (λ found. IfSome found (λ f. IsFrontVarint (drop c.args.at c.args.bytes.now) f.0 f.1)) (sym same) (first_found (drop c.args.at c.args.bytes.now))

pub returns-clause-only : goal.returns-clause-only
returns-clause-only c = λ front number more is split.
    c.front_varint.ensures ∙ ap first_varint (cut c.args.at c.args.bytes.now _ c.min.ensures) ∙ first_only (drop c.args.at c.args.bytes.now) front number more is split
