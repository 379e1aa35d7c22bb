use Rattle.std.proofs.Common.{◌≡◌, drop}
use Rattle.std.specs.List.{fold}
use Rattle.select_rows.specs.Queries.{items_from, typed_list}
use Rattle.typed_expr.specs.Rules.{collected}
use Rattle.select_rows.proofs.query.type_list.Given as goal

abbrev pub invariant-loop-place : goal.invariant-loop-place
invariant-loop-place l = fold collected l.found (items_from l.scope l.place (drop l.place l.items)) ≡ typed_list l.scope l.items
