use Rattle.data_file.proofs.Ranges.{LeavesRanged, rows_stand}
use Rattle.data_file.proofs.laws.rows_are_ranged.Goals as goal

pub returns : goal.returns
returns c =
    let leaves : LeavesRanged = record { ranges = c.columns_are_ranged.ensures.ranges; full = c.columns_are_ranged.ensures.full } in
    λ columns values bytes room part formed is. rows_stand leaves c.what_reads_is_in_range.ensures columns values bytes room part formed is
