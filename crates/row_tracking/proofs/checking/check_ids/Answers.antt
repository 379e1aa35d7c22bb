use Rattle.std.proofs.Common.{ℤ, List, length, Option, Some, subst, sym, w64}
use Rattle.std.proofs.lemmas.Int.{to_z-of_z}
use Rattle.row_tracking.specs.Checked.{Fails, IsLeast}
use Rattle.row_tracking.specs.StepsChecked.{FailsBelow, IsRepeated}
use Rattle.row_tracking.specs.declared.row_id.RowId.{RowId}
use Rattle.row_tracking.proofs.Failing.{least_fails}
use Rattle.row_tracking.proofs.LeastId.{least_failing_is, least_is_one}
use Rattle.row_tracking.proofs.checking.check_ids.Goals as goal

pub returns : goal.returns
returns c =
    let rows = c.as_slice-rows.result.now in
    let ids = c.in_ok-sorted_ids.field-0.items in
    let repeated = subst (λ (ns : List ℤ). IsLeast (IsRepeated Some ns) c.least_repeated-repeated.result) c.deref.ensures.value c.least_repeated-repeated.ensures in
    let alone = subst (λ (m : ℤ). IsLeast (FailsBelow rows m c.args.version (length rows)) c.least_alone-alone.result) (to_z-of_z w64 c.args.mark c.ranges.mark) c.least_alone-alone.ensures in
    let least = least_fails rows c.args.mark c.args.version ids c.least_alone-alone.result c.least_repeated-repeated.result c.in_ok-sorted_ids.ensures.permutation alone repeated in
    let answer = subst (λ (o : Option ℤ). IsLeast (Fails rows c.args.mark c.args.version) o) (sym c.lesser.ensures) least in
    let found = subst (λ (all : List RowId). IsLeast (Fails all c.args.mark c.args.version) c.lesser.result) c.as_slice-rows.ensures answer in
    record {
      least = found;
      same = least_is_one (Fails c.args.all.now c.args.mark c.args.version) _ _ found (least_failing_is c.args.all.now c.args.mark c.args.version);
    }
