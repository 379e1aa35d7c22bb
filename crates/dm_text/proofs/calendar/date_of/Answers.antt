use Rattle.std.proofs.Common.{◌≡◌, rules}
use Rattle.jiff_core.specs.Date.{epoch_day}
use Rattle.dm_text.proofs.Days.{date_parts}
use Rattle.dm_text.proofs.calendar.date_of.Goals as goal

pub returns : goal.returns
returns c =
    let is : epoch_day c.unwrap.result ≡ c.args.day = search rules in
    date_parts c.unwrap.result c.args.day is c.requires
