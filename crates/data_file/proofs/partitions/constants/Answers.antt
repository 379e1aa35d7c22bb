use Rattle.std.proofs.Common.{◌∙◌, ◌+◌, List, [], ◌∷◌, ◌++◌, Option, drop, length, length-append, rules, sym, ap, subst}
use Rattle.delta_schema.specs.declared.schema.ColumnDef.{ColumnDef}
use Rattle.dm_types.specs.declared.value.Value.{Value}
use Rattle.data_file.specs.Partitions.{constant_of, constants_from}
use Rattle.data_file.proofs.Begun.{fails, goes_on}
use Rattle.data_file.proofs.GivenValues.{Each, constants-last, constants-next, each-more}
use Rattle.data_file.proofs.partitions.constants.Goals as goal

pub returns-in_err-one-clause-found : goal.returns-in_err-one-clause-found
returns-in_err-one-clause-found c =
    let mode = c.args.columns.now.mode in
    let values = c.args.values.now in
    let columns = c.as_slice-column-items.result.now in
    let found = c.loop-at.found in
    let whole = sym (ap (λ (xs : List ColumnDef). constants_from mode values xs []) c.as_slice-column-items.ensures) in
    let next = constants-next mode values columns c.loop-at.at c.column-item.result found c.loop-at-test.true c.column-item.is c.loop-at.invariant.counted in
    fails (Option Value) (List (Option Value)) (λ one. one) (λ found. found) (constant_of mode values c.loop-at.at c.column-item.result) (λ one. constants_from mode values (drop (c.loop-at.at + 1) columns) (found ++ one ∷ []))
    (constants_from mode values c.args.columns.now.schema.now []) c.in_err-one.field-0.0 c.from_residual.result (whole ∙ c.loop-at.invariant.same ∙ next) c.in_err-one.ensures.value (search rules)

pub loop-at-preserved : goal.loop-at-preserved
loop-at-preserved c =
    let mode = c.args.columns.now.mode in
    let values = c.args.values.now in
    let columns = c.as_slice-column-items.result.now in
    let found = c.loop-at.found in
    let one = c.in_ok-one.one in
    let next = constants-next mode values columns c.loop-at.at c.column-item.result found c.loop-at-test.true c.column-item.is c.loop-at.invariant.counted in
    let on = goes_on (constant_of mode values c.loop-at.at c.column-item.result) (λ one. constants_from mode values (drop (c.loop-at.at + 1) columns) (found ++ one ∷ [])) one c.in_ok-one.ensures.value in
    record {
      same = c.loop-at.invariant.same ∙ next ∙ on ∙ ap (λ (xs : List (Option Value)). constants_from mode values (drop (c.loop-at.at + 1) columns) xs) (sym c.in_ok-push.ensures.ok);
      counted = ap length c.in_ok-push.ensures.ok ∙ length-append found (one ∷ []) ∙ ap (λ n. n + 1) c.loop-at.invariant.counted;
      each = subst (Each columns) (sym c.in_ok-push.ensures.ok) (each-more columns found c.loop-at.at c.column-item.result one c.loop-at.invariant.counted c.loop-at-test.true c.column-item.is c.in_ok-one.ensures.range c.loop-at.invariant.each);
    }

pub returns-clause-found : goal.returns-clause-found
returns-clause-found c =
    let mode = c.args.columns.now.mode in
    let values = c.args.values.now in
    let columns = c.as_slice-column-items.result.now in
    let whole = sym (ap (λ (xs : List ColumnDef). constants_from mode values xs []) c.as_slice-column-items.ensures) in
    whole ∙ c.loop-at.invariant.same ∙ constants-last mode values columns c.loop-at.at c.loop-at.found c.loop-at-test.false
