use Rattle.std.proofs.Common.{rules, ◌≡◌, ◌∙◌, sym, subst, Some, None, Ok, Err, Option, List, map}
use Rattle.column_vectors.specs.declared.batch.Batch.{Batch}
use Rattle.script_run.specs.Selected.{item_names}
use Rattle.script_run.specs.StepsSelected.{answer_of}
use Rattle.select_rows.specs.Rows.{columns_of}
use Rattle.select_rows.specs.declared.query.QueryItem.{QueryItem}
use Rattle.script_run.proofs.Answering.{all_answered, all_printable, flags_long, items_answered, items_refused, refused_on, values_printable}
use Rattle.script_run.proofs.selected.answer_of.Goals as goal

pub query_text-requires-clause-columns : goal.query_text-requires-clause-columns
query_text-requires-clause-columns c = all_printable c.args.loaded.now c.requires.loaded

pub query_text-requires-clause-flags : goal.query_text-requires-clause-flags
query_text-requires-clause-flags c = flags_long c.args.loaded.now c.requires.loaded c.args.query.now.conjuncts c.args.kept.now c.requires.flags

pub query_text-requires-in-Some-clause-columns : goal.query_text-requires-in-Some-clause-columns
query_text-requires-in-Some-clause-columns c =
    let values = c.in_ok-values-in-Some.values in
    values_printable c.args.loaded.now values.rows values.columns c.requires.loaded c.in_ok-values-in-Some.ensures.rows values.even c.in_ok-values-in-Some.ensures.range

pub query_text-requires-in-Some-clause-flags : goal.query_text-requires-in-Some-clause-flags
query_text-requires-in-Some-clause-flags c = flags_long c.args.loaded.now c.requires.loaded c.args.query.now.conjuncts c.args.kept.now c.requires.flags

pub values_of-requires-clause-flags : goal.values_of-requires-clause-flags
values_of-requires-clause-flags c = flags_long c.args.loaded.now c.requires.loaded c.args.query.now.conjuncts c.args.kept.now c.requires.flags ∙ c.requires.loaded.ids

pub returns-in-None : goal.returns-in-None
returns-in-None c =
    let loaded = c.args.loaded.now in
    let kept = c.args.kept.now in
    let text = c.in_ok-query_text-in-None.field-0 in
    let named : c.in_ok-names.names ≡ item_names loaded.head.schema None = search rules in
    subst (λ (items : Option (List QueryItem)). answer_of loaded items kept ≡ Ok text) (sym c.in-None.is)
    (all_answered loaded c.requires.loaded c.args.query.now.conjuncts kept c.requires.flags c.in_ok-names.names text named c.in_ok-query_text-in-None.ensures)

pub returns-in_err-values-in-Some : goal.returns-in_err-values-in-Some
returns-in_err-values-in-Some c =
    let loaded = c.args.loaded.now in
    let kept = c.args.kept.now in
    refused_on (λ (found : Batch). found.columns) (columns_of loaded.batch.columns kept (map (λ (item : QueryItem). item.value) c.as_slice-in-Some.result.now)) (answer_of loaded c.args.query.now.items kept) c.in_err-values-in-Some.field-0.0 _ (search rules)
    (λ refusal e. subst (λ (items : Option (List QueryItem)). answer_of loaded items kept ≡ Err refusal) (sym c.in-Some.is)
    (items_refused loaded c.requires.loaded c.args.query.now.conjuncts kept c.requires.flags c.in-Some.items refusal
    (subst (λ (items : List QueryItem). columns_of loaded.batch.columns kept (map (λ (item : QueryItem). item.value) items) ≡ Err refusal) c.as_slice-in-Some.ensures e)))
    c.in_err-values-in-Some.ensures.columns

pub returns : goal.returns
returns c =
    let loaded = c.args.loaded.now in
    let kept = c.args.kept.now in
    let text = c.in_ok-query_text-in-Some.field-0 in
    let found = c.in_ok-values-in-Some.values.columns in
    let named : c.in_ok-names.names ≡ item_names loaded.head.schema (Some c.in-Some.items) = search rules in
    subst (λ (items : Option (List QueryItem)). answer_of loaded items kept ≡ Ok text) (sym c.in-Some.is)
    (items_answered loaded c.requires.loaded c.args.query.now.conjuncts kept c.requires.flags c.in-Some.items c.in_ok-names.names found text named
    (subst (λ (items : List QueryItem). columns_of loaded.batch.columns kept (map (λ (item : QueryItem). item.value) items) ≡ Ok found) c.as_slice-in-Some.ensures c.in_ok-values-in-Some.ensures.columns)
    c.in_ok-query_text-in-Some.ensures)
