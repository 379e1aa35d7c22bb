use Rattle.std.proofs.Common.{◌∙◌, arith}
use Rattle.dm_text.proofs.Fronts.{front_same, front_then, front_grown}
use Rattle.dm_text.proofs.Powers.{power_some}
use Rattle.dm_text.proofs.decimals.push_decimal.Goals as goal
use Rattle.dm_text.proofs.decimals.push_decimal.Goals.{then-decimal-lt0+in_ok-push, else-decimal-lt0}

pub nonzero_div-size : goal.nonzero_div-size
nonzero_div-size c = rw c.ten_to.ensures (omega (arith, power_some c.args.decimal.now.scale))

pub returns-in_err-push_places-clause-front : goal.returns-in_err-push_places-clause-front
returns-in_err-push_places-clause-front c =
    let behind = front_grown _ _ _ _ c.in_ok-extend_from_slice.ensures.ok (front_grown _ _ _ _ c.in_ok-push-2.ensures.ok c.push_places.ensures.front) in
    elim c.if-decimal-lt0.branch [
      | then-decimal-lt0+in_ok-push w ↦ front_grown _ _ _ _ (w.out-is ∙ w.in_ok-push.ensures.ok) behind
      | else-decimal-lt0 w ↦ front_then _ _ _ (rw w.out-is (front_same _)) behind
    ]
