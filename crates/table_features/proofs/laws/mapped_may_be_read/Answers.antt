use Rattle.std.proofs.Common.{inl, inr}
use Rattle.table_features.proofs.Needs.{may_be_read, is_read_at_1}
use Rattle.table_features.proofs.laws.mapped_may_be_read.Goals as goal

pub returns : goal.returns
returns c = λ protocol versions. elim versions [
  | inl first ↦ is_read_at_1 protocol first
  | inr third ↦ may_be_read protocol third.0 third.1
]
