use Rattle.std.proofs.Common.{rules, FitsSigned, w64}
use Rattle.std.proofs.lemmas.Int.{to_z-of_z}
use Rattle.dm_text.proofs.Days.{date_text_is}
use Rattle.dm_text.proofs.calendar.push_date.Goals as goal

pub returns : goal.returns
returns c =
    let fits : FitsSigned w64 c.args.day = c.ranges.day in
    let parts = simp to_z-of_z at c.date_of-date.ensures in
    rw (date_text_is _ _ _ c.args.day parts) (search rules)
