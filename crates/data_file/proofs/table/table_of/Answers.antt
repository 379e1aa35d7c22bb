use Rattle.std.proofs.Common.{◌∙◌, ℕ, List, [], Option, sym, ap, rules}
use Rattle.column_vectors.specs.declared.batch.Batch.{Batch}
use Rattle.dm_types.specs.Then.{go}
use Rattle.dm_types.specs.declared.value.Value.{Value}
use Rattle.data_file.specs.Partitions.{constants_from, text_behind}
use Rattle.data_file.specs.Table.{columns_from, table_of}
use Rattle.data_file.specs.Wanted.{wanted}
use Rattle.data_file.proofs.Begun.{fails, gives_same, goes_on}
use Rattle.data_file.proofs.LeavesRead.{rows-are}
use Rattle.data_file.proofs.Steps.{table_is, with_constants, with_left}
use Rattle.data_file.proofs.table.table_of.Goals as goal

pub returns-in_err-constants-clause-found : goal.returns-in_err-constants-clause-found
returns-in_err-constants-clause-found c =
    let it = c.args.file.now in
    let columns = wanted c.args.columns.now in
    let values = c.args.values.now in
    fails (List (Option Value)) (Batch × ℕ) (λ found. found) (λ found. (found.0.columns, found.1)) (constants_from columns.mode values columns.schema []) (with_constants it columns c.args.text) (table_of it columns values c.args.text) c.in_err-constants.field-0.0 c.from_residual.result
    (table_is it columns values c.args.text) c.in_err-constants.ensures.found (search rules)

pub returns-in_err-left-clause-found : goal.returns-in_err-left-clause-found
returns-in_err-left-clause-found c =
    let it = c.args.file.now in
    let columns = wanted c.args.columns.now in
    let values = c.args.values.now in
    let constants = c.in_ok-constants.constants in
    let on = goes_on (constants_from columns.mode values columns.schema []) (with_constants it columns c.args.text) constants c.in_ok-constants.ensures.found in
    let counted = ap (λ (n : ℕ). go (text_behind n constants c.args.text) (with_left it columns constants)) (sym (rows-are it c.rows.result c.rows.ensures)) in
    fails ℕ (Batch × ℕ) (λ left. left) (λ found. (found.0.columns, found.1)) (text_behind c.rows.result constants c.args.text) (with_left it columns constants) (table_of it columns values c.args.text) c.in_err-left.field-0.0 c.from_residual-in_err-left.result
    (table_is it columns values c.args.text ∙ on ∙ counted) c.in_err-left.ensures (search rules)

pub returns-clause-found : goal.returns-clause-found
returns-clause-found c =
    let it = c.args.file.now in
    let columns = wanted c.args.columns.now in
    let values = c.args.values.now in
    let constants = c.in_ok-constants.constants in
    let on = goes_on (constants_from columns.mode values columns.schema []) (with_constants it columns c.args.text) constants c.in_ok-constants.ensures.found in
    let counted = ap (λ (n : ℕ). go (text_behind n constants c.args.text) (with_left it columns constants)) (sym (rows-are it c.rows.result c.rows.ensures)) in
    let last = goes_on (text_behind c.rows.result constants c.args.text) (with_left it columns constants) c.in_ok-left.left c.in_ok-left.ensures in
    gives_same (Batch × ℕ) (λ found. (found.0.columns, found.1)) (columns_from it columns.mode constants columns.schema ([], c.in_ok-left.left)) (table_of it columns values c.args.text) c.columns_from.result
    (table_is it columns values c.args.text ∙ on ∙ counted ∙ last) c.columns_from.ensures.found
