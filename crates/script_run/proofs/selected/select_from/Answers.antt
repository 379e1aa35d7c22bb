use Rattle.std.proofs.Common.{rules, ◌≡◌, ◌∙◌, ap, subst, Ok, Err, List}
use Rattle.std.specs.Prelude.{All, IfSome}
use Rattle.std.specs.Option.{option_copied}
use Rattle.delta_schema.specs.declared.schema.ColumnDef.{ColumnDef}
use Rattle.dm_types.specs.declared.value.DataType.{DataType}
use Rattle.script_run.specs.Selected.{scope_of, selected}
use Rattle.select_rows.specs.Queries.{typed_query, unless_broken}
use Rattle.select_rows.specs.Rows.{flags_where, rows_of}
use Rattle.select_rows.specs.declared.query.QueryItem.{QueryItem}
use Rattle.table_load.specs.Held.{state_of}
use Rattle.table_load.specs.Loaded.{seen}
use Rattle.typed_expr.specs.Fits.{Fits}
use Rattle.typed_expr.specs.declared.scope.ScopeColumn.{ScopeColumn}
use Rattle.script_run.proofs.Answering.{kinds_same, query_answered, query_refused, refused_on, rows_refused, well_formed}
use Rattle.script_run.proofs.selected.select_from.Goals as goal

pub returns-in_err-query : goal.returns-in_err-query
returns-in_err-query c =
    let table = c.args.table.now in
    let items = c.args.items.now in
    let x = option_copied c.args.condition in
    let loaded = c.args.loaded.now in
    let scope_is : c.in_ok-scope.scope ≡ scope_of table loaded.head.schema = c.in_ok-scope.ensures ∙ ap (λ (columns : List ColumnDef). scope_of table columns) c.as_slice.ensures in
    refused_on (λ query. query) (unless_broken (typed_query c.in_ok-scope.scope items x)) (selected table items x (state_of (seen loaded))) c.in_err-query.field-0.0 _ (search rules)
    (λ refusal e. query_refused table items x loaded c.requires refusal (subst (λ (scope : List ScopeColumn). unless_broken (typed_query scope items x) ≡ Err refusal) scope_is e))
    c.in_err-query.ensures.query

pub returns-in_err-kept : goal.returns-in_err-kept
returns-in_err-kept c =
    let table = c.args.table.now in
    let items = c.args.items.now in
    let x = option_copied c.args.condition in
    let loaded = c.args.loaded.now in
    let query = c.in_ok-query.query in
    let scope_is : c.in_ok-scope.scope ≡ scope_of table loaded.head.schema = c.in_ok-scope.ensures ∙ ap (λ (columns : List ColumnDef). scope_of table columns) c.as_slice.ensures in
    let typed = subst (λ (scope : List ScopeColumn). unless_broken (typed_query scope items x) ≡ Ok query) scope_is c.in_ok-query.ensures.query in
    refused_on (λ kept. kept) (flags_where query.conjuncts (rows_of loaded.batch.columns loaded.batch.rows)) (selected table items x (state_of (seen loaded))) c.in_err-kept.field-0.0 _ (search rules)
    (rows_refused table items x loaded c.requires query typed) c.in_err-kept.ensures.flags

pub answer_of-requires-clause-fits : goal.answer_of-requires-clause-fits
answer_of-requires-clause-fits c =
    let table = c.args.table.now in
    let loaded = c.args.loaded.now in
    let scope_is : c.in_ok-scope.scope ≡ scope_of table loaded.head.schema = c.in_ok-scope.ensures ∙ ap (λ (columns : List ColumnDef). scope_of table columns) c.as_slice.ensures in
    subst (λ (kinds : List DataType). IfSome c.in_ok-query.query.items (All (λ (item : QueryItem). Fits kinds item.value))) (kinds_same table loaded c.in_ok-scope.scope scope_is c.requires)
    (c.in_ok-query.ensures.fits (well_formed table loaded c.in_ok-scope.scope scope_is c.requires))

pub returns : goal.returns
returns c =
    let table = c.args.table.now in
    let items = c.args.items.now in
    let x = option_copied c.args.condition in
    let loaded = c.args.loaded.now in
    let query = c.in_ok-query.query in
    let scope_is : c.in_ok-scope.scope ≡ scope_of table loaded.head.schema = c.in_ok-scope.ensures ∙ ap (λ (columns : List ColumnDef). scope_of table columns) c.as_slice.ensures in
    let typed = subst (λ (scope : List ScopeColumn). unless_broken (typed_query scope items x) ≡ Ok query) scope_is c.in_ok-query.ensures.query in
    query_answered table items x loaded c.requires query c.in_ok-kept.kept typed c.in_ok-kept.ensures.flags c.answer_of.result c.answer_of.ensures
