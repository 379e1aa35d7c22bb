use Rattle.std.proofs.Common.{◌≡◌, length}
use Rattle.std.specs.List.{list_any}
use Rattle.std.specs.Str.{bytes_eq}
use Rattle.table_load.proofs.properties.lists.Given as goal

abbrev pub invariant-loop-listed : goal.invariant-loop-listed
invariant-loop-listed l = list_any (λ listed. bytes_eq listed l.name) l.names ≡ list_any (λ listed. bytes_eq listed l.name) l.rest

abbrev pub decreases-loop-listed : goal.decreases-loop-listed
decreases-loop-listed l = length l.rest
