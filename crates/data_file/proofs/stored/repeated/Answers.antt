use Rattle.std.proofs.Common.{sym, ap, subst}
use Rattle.column_vectors.specs.Cells.{Cells}
use Rattle.dm_types.specs.Lanes.{IsNullOrOf}
use Rattle.dm_types.specs.declared.value.DataType.{DataType}
use Rattle.dm_types.specs.declared.value.Value.{Value}
use Rattle.data_file.proofs.LeavesRead.{repeated-more}
use Rattle.data_file.proofs.stored.repeated.Goals as goal

pub push-requires : goal.push-requires
push-requires c =
    let K : DataType → Type 0 = λ k. IsNullOrOf k c.in_ok-clone.field-0 in
    let V : Value → Type 0 = λ v. IsNullOrOf c.args.kind v in
    subst K (sym (ap (λ (it : Cells). it.kind) c.loop.invariant)) (subst V (sym c.in_ok-clone.ensures.cases) c.requires)

pub loop-preserved : goal.loop-preserved
loop-preserved c = repeated-more c.loop.column c.push.new.self c.args.kind c.args.value.now c.in_ok-clone.field-0 c.loop.counter c.loop.invariant c.in_ok-clone.ensures.cases c.in_ok-push.ensures.kind c.in_ok-push.ensures.ok
