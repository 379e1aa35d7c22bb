use Rattle.std.proofs.Common.{length-append, arith}
use Rattle.std.proofs.lemmas.Grind.{common_steps}
use Rattle.dm_system.proofs.folder.temporary_name.Goals as goal

pub returns : goal.returns
returns g c =
    let h = c.in_ok-format.ensures.ok in
    rw h (grind (arith, common_steps, length-append))
