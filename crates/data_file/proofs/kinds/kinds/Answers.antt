use Rattle.std.proofs.Common.{◌≡◌, ◌∙◌, ℕ, List, Option, true, false, sym, ap, rules}
use Rattle.std.specs.List.{list_all}
use Rattle.column_vectors.specs.Cells.{Cells}
use Rattle.dm_types.specs.Then.{go}
use Rattle.dm_types.specs.declared.value.DataType.TheVariants as kind
use Rattle.data_file.specs.Kinds.{is_kind, kinds, with_nulls}
use Rattle.data_file.specs.Stored.{stored}
use Rattle.data_file.specs.declared.columns.TheConstants.{CHANGE_TYPE}
use Rattle.data_file.specs.declared.fault.PartColumn.TheVariants as part
use Rattle.data_file.specs.declared.stored.Sought.{Sought}
use Rattle.data_file.proofs.Begun.{fails, goes_on}
use Rattle.data_file.proofs.Named.{checked-bad, checked-good, kinds-none, kinds-some, kinds_sought, shown_checked}
use Rattle.data_file.proofs.Types.{stored_type}
use Rattle.data_file.proofs.kinds.kinds.Goals as goal

pub returns-then-not-asked-clause-found : goal.returns-then-not-asked-clause-found
returns-then-not-asked-clause-found c = kinds-none c.args.file.now c.args.asked c.args.left (search rules)

pub returns-in_err-column-clause-found : goal.returns-in_err-column-clause-found
returns-in_err-column-clause-found c =
    let it = c.args.file.now in
    let left = c.args.left in
    let sought = c.with_nulls-sought.result in
    let is : sought ≡ kinds_sought it CHANGE_TYPE.now = c.with_nulls-sought.ensures ∙ ap with_nulls c.named.ensures.sought ∙ ap (kinds_sought it) c.in_ok-name.ensures in
    let whole = kinds-some it c.args.asked left (search rules) ∙ ap (λ (s : Sought). go (stored it s left) shown_checked) (sym is) in
    fails (Cells × ℕ) (Option Cells × ℕ) (λ found. found) (λ found. found) (stored it sought left) shown_checked (kinds it c.args.asked left) c.in_err-column.field-0.0 c.from_residual-in_err-column.result whole c.in_err-column.ensures.found (search rules)

pub has_kinds-requires : goal.has_kinds-requires
has_kinds-requires c =
    let sought = c.with_nulls-sought.result in
    stored_type c.args.file.now sought c.args.left (c.in_ok-column.column, c.in_ok-column.left) c.in_ok-column.ensures.found ∙ ap (λ (s : Sought). s.kind) (c.with_nulls-sought.ensures ∙ ap with_nulls c.named.ensures.sought)

pub returns-then-not-has_kinds-clause-found : goal.returns-then-not-has_kinds-clause-found
returns-then-not-has_kinds-clause-found c =
    let it = c.args.file.now in
    let left = c.args.left in
    let sought = c.with_nulls-sought.result in
    let is : sought ≡ kinds_sought it CHANGE_TYPE.now = c.with_nulls-sought.ensures ∙ ap with_nulls c.named.ensures.sought ∙ ap (kinds_sought it) c.in_ok-name.ensures in
    let whole = kinds-some it c.args.asked left (search rules) ∙ ap (λ (s : Sought). go (stored it s left) shown_checked) (sym is) in
    let bad : list_all is_kind c.in_ok-column.column.values ≡ false = sym c.has_kinds.ensures ∙ search rules in
    whole ∙ goes_on (stored it sought left) shown_checked (c.in_ok-column.column, c.in_ok-column.left) c.in_ok-column.ensures.found ∙ checked-bad (c.in_ok-column.column, c.in_ok-column.left) bad

pub returns-clause-found : goal.returns-clause-found
returns-clause-found c =
    let it = c.args.file.now in
    let left = c.args.left in
    let sought = c.with_nulls-sought.result in
    let is : sought ≡ kinds_sought it CHANGE_TYPE.now = c.with_nulls-sought.ensures ∙ ap with_nulls c.named.ensures.sought ∙ ap (kinds_sought it) c.in_ok-name.ensures in
    let whole = kinds-some it c.args.asked left (search rules) ∙ ap (λ (s : Sought). go (stored it s left) shown_checked) (sym is) in
    let good : list_all is_kind c.in_ok-column.column.values ≡ true = sym c.has_kinds.ensures ∙ search rules in
    whole ∙ goes_on (stored it sought left) shown_checked (c.in_ok-column.column, c.in_ok-column.left) c.in_ok-column.ensures.found ∙ checked-good (c.in_ok-column.column, c.in_ok-column.left) good
