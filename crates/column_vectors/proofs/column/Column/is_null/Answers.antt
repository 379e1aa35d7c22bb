use Rattle.column_vectors.proofs.Shown.{flags_long, null_flag}
use Rattle.column_vectors.proofs.column.Column.is_null.Goals as goal

pub test-requires : goal.test-requires
test-requires g c = flags_long _ _ _ _ c.args.self.now c.args.row c.self.view_is c.requires

pub returns : goal.returns
returns g c = null_flag _ _ _ _ c.args.self.now c.args.row c.test.result (λ k. g.met.T.Lane.no_null c.self.inside.kind k) c.self.view_is c.self.invariant.count c.test.ensures
