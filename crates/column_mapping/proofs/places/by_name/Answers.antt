use Rattle.std.proofs.Common.{◌∙◌, ap, take}
use Rattle.std.specs.Option.{option_and_then}
use Rattle.column_mapping.specs.Places.{is_named}
use Rattle.column_mapping.specs.Steps.{name_in, named_in}
use Rattle.column_mapping.proofs.Joining.{named_found, choices_more}
use Rattle.column_mapping.proofs.Within.{choices_within}
use Rattle.column_mapping.proofs.places.by_name.Goals as goal

pub loop-column-preserved : goal.loop-column-preserved
loop-column-preserved c =
    choices_more (λ column. is_named (name_in c.args.mode column)) c.args.leaves.now c.args.columns.now c.loop-column.column-index c.column-item.result c.carrier_named-found.result c.loop-column.choices c.push.new.self c.choice.result c.loop-column.invariant c.loop-column-test.true c.column-item.is
    (named_found c.in_ok-carried.carried c.args.leaves.now (name_in c.args.mode c.column-item.result) c.carrier_named-found.result c.in_ok-carried.ensures (c.carrier_named-found.ensures ∙ ap (option_and_then (named_in c.in_ok-carried.carried)) c.name_in.ensures)) c.choice.ensures c.in_ok-push.ensures.ok

pub returns-clause-within : goal.returns-clause-within
returns-clause-within c = choices_within (λ column. is_named (name_in c.args.mode column)) c.args.leaves.now (take c.loop-column.column-index c.args.columns.now) c.loop-column.choices c.loop-column.invariant
