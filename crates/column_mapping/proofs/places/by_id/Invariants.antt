use Rattle.std.proofs.Common.{◌≡◌, map, take}
use Rattle.std.specs.Ordering.{int_eq}
use Rattle.column_mapping.specs.Mapping.{shares}
use Rattle.column_mapping.specs.Places.{place_by}
use Rattle.column_mapping.proofs.places.by_id.Given as goal

abbrev pub invariant-loop-column : goal.invariant-loop-column
invariant-loop-column l = l.choices ≡ map (place_by (λ column leaf. shares int_eq leaf.field_id column.id) l.leaves) (take l.column-index l.columns)
