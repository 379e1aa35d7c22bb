use Rattle.std.proofs.Common.{sym, subst, ℤ}
use Rattle.std.specs.Prelude.{FitsSigned}
use Rattle.std.specs.Int.{w16}
use Rattle.std.proofs.lemmas.Int.{to_z-of_z}
use Rattle.format_tests.proofs.tests.thrift.nested.Goals as goal

pub returns : goal.returns
returns c = record {
  id = subst (λ (z : ℤ). FitsSigned w16 z) (sym (to_z-of_z w16 c.args.id c.ranges.id)) c.ranges.id;
  value = c.writable_values.ensures.structs 62 c.args.tree c.requires;
}
