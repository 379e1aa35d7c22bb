use Rattle.std.proofs.Common.{take}
use Rattle.std.specs.Ordering.{int_eq}
use Rattle.column_mapping.specs.Mapping.{shares}
use Rattle.column_mapping.proofs.Joining.{id_found, choices_more}
use Rattle.column_mapping.proofs.Within.{choices_within}
use Rattle.column_mapping.proofs.places.by_id.Goals as goal

pub loop-column-preserved : goal.loop-column-preserved
loop-column-preserved c =
    choices_more (λ column leaf. shares int_eq leaf.field_id column.id) c.args.leaves.now c.args.columns.now c.loop-column.column-index c.column-item.result c.carrier_with-found.result c.loop-column.choices c.push.new.self c.choice.result c.loop-column.invariant c.loop-column-test.true c.column-item.is
    (id_found c.in_ok-carried.carried c.args.leaves.now c.column-item.result.id c.carrier_with-found.result c.in_ok-carried.ensures c.carrier_with-found.ensures) c.choice.ensures c.in_ok-push.ensures.ok

pub returns-clause-within : goal.returns-clause-within
returns-clause-within c = choices_within (λ column leaf. shares int_eq leaf.field_id column.id) c.args.leaves.now (take c.loop-column.column-index c.args.columns.now) c.loop-column.choices c.loop-column.invariant
