use Rattle.std.proofs.Common.{◌≡◌, ◌∙◌, ◌<◌, ap, sym, subst, arith, length, slice_get, true, Some}
use Rattle.column_vectors.proofs.Counts.{count_of-before}
use Rattle.column_vectors.proofs.Shown.{flags_long, shown-null, row_kept, row_typed}
use Rattle.column_vectors.specs.Cells.{Cells}
use Rattle.column_vectors.proofs.column.Column.get.Goals as goal
use Rattle.dm_types.specs.Lanes.{IsOf}

pub test-requires : goal.test-requires
test-requires g c = flags_long _ _ _ _ c.args.self.now c.args.row c.self.view_is c.requires

pub count_before-requires : goal.count_before-requires
count_before-requires g c =
    let long : c.args.row < length c.self.inside.valid = flags_long _ _ _ _ c.args.self.now c.args.row c.self.view_is c.requires in
    omega arith

pub index-requires : goal.index-requires
index-requires g c =
    let set : slice_get c.self.inside.valid c.args.row ≡ Some true = c.if-test.ensures in
    omega (arith, count_of-before c.self.inside.valid c.args.row set, c.self.invariant.count, c.count_before.ensures)

pub returns-then-test-clause-typed : goal.returns-then-test-clause-typed
returns-then-test-clause-typed g c =
    let here = row_kept g.T.Lane.value_of c.self.inside.kind c.self.inside.valid c.self.inside.kept.items c.args.row c.count_before.result c.index.result.now c.self.invariant.count c.if-test.ensures c.count_before.ensures c.index.ensures in
    subst (λ (cells : Cells). IsOf cells.kind (g.T.Lane.value_of c.index.result.now cells.kind)) c.self.view_is
    (row_typed g.T.Lane.value_of c.self.inside.kind _ c.args.row c.index.result.now (g.met.T.Lane.no_null c.self.inside.kind) c.self.invariant.typed here)

pub returns-then-test-clause-value : goal.returns-then-test-clause-value
returns-then-test-clause-value g c =
    subst (λ (cells : Cells). slice_get cells.values c.args.row ≡ Some (g.T.Lane.value_of c.index.result.now cells.kind)) c.self.view_is
    (row_kept g.T.Lane.value_of c.self.inside.kind c.self.inside.valid c.self.inside.kept.items c.args.row c.count_before.result c.index.result.now c.self.invariant.count c.if-test.ensures c.count_before.ensures c.index.ensures)

pub returns-else-test-clause-value : goal.returns-else-test-clause-value
returns-else-test-clause-value g c =
    ap (λ (cells : Cells). slice_get cells.values c.args.row) (sym c.self.view_is) ∙ shown-null _ c.self.inside.valid c.self.inside.kept.items c.args.row c.if-test.ensures
