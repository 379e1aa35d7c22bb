use Rattle.std.proofs.Common.{arith}
use Rattle.std.proofs.lemmas.Grind.{common_steps}
use Rattle.std.proofs.lemmas.List.Elements.{filter_map-append}
use Rattle.dm_store.proofs.finds.names_below.Goals as goal
use Rattle.dm_store.proofs.finds.names_below.Goals.{in-Some+in_ok-from_str+in_ok-push, in_default}

pub loop-file-preserved : goal.loop-file-preserved
loop-file-preserved c = elim c.match-name_below.branch [ in-Some+in_ok-from_str+in_ok-push w ↦ grind (arith, common_steps, filter_map-append) | in_default w ↦ grind (arith, common_steps, filter_map-append) ]
