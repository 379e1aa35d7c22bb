use Rattle.std.proofs.Common.{◌≡◌, ◌∙◌, ◌++◌, ◌∷◌, [], ap, arith, length, sym}
use Rattle.row_tracking.specs.declared.row_id.RowId.{RowId}
use Rattle.row_tracking.proofs.Rows.{rows_none, rows_more}
use Rattle.row_tracking.proofs.ids.rows_of.Goals as goal

pub loop-position-init : goal.loop-position-init
loop-position-init c = rw c.new-rows.ensures (rows_none _)

pub loop-position-preserved : goal.loop-position-preserved
loop-position-preserved c =
    let grown = c.in_ok-push.ensures.ok ∙ ap (λ (row : RowId). c.loop-position.rows ++ row ∷ []) c.row.ensures in
    rows_more _ c.loop-position.position c.loop-position.rows _ grown c.loop-position.invariant

pub returns : goal.returns
returns c =
    let all : c.loop-position.position ≡ length c.args.ids.now.values = omega (arith, c.loop-position.auto.position-end, c.loop-position-test.false, c.len-position-end.ensures) in
    rw (sym all) c.loop-position.invariant
