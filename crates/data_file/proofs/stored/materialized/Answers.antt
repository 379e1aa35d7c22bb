use Rattle.std.proofs.Common.{◌∙◌, ℕ, Option, sym, ap, rules}
use Rattle.std.specs.Option.{option_copied}
use Rattle.column_vectors.specs.Cells.{Cells}
use Rattle.dm_types.specs.Then.{go}
use Rattle.data_file.specs.Stored.{materialized, stored}
use Rattle.data_file.specs.declared.stored.Sought.{Sought}
use Rattle.data_file.proofs.Begun.{fails, goes_on}
use Rattle.data_file.proofs.Named.{materialized-none, materialized-some, shown}
use Rattle.data_file.proofs.stored.materialized.Goals as goal

pub returns-in-None-clause-found : goal.returns-in-None-clause-found
returns-in-None-clause-found c = ap (λ n. materialized c.args.file.now c.args.column (option_copied n) c.args.left) c.in-None.is ∙ materialized-none c.args.file.now c.args.column c.args.left

pub returns-in_err-column-in-Some-clause-found : goal.returns-in_err-column-in-Some-clause-found
returns-in_err-column-in-Some-clause-found c =
    let it = c.args.file.now in
    let left = c.args.left in
    let sought = c.named-sought.result in
    let given = ap (λ n. materialized it c.args.column (option_copied n) left) c.in-Some.is in
    let whole = given ∙ materialized-some it c.args.column c.in-Some.name.now left ∙ ap (λ (s : Sought). go (stored it s left) shown) (sym c.named-sought.ensures.sought) in
    fails (Cells × ℕ) (Option Cells × ℕ) (λ found. found) (λ found. found) (stored it sought left) shown (materialized it c.args.column (option_copied c.args.name) left) c.in_err-column-in-Some.field-0.0 c.from_residual.result whole c.in_err-column-in-Some.ensures.found (search rules)

pub returns-in_ok-column-in-Some-clause-found : goal.returns-in_ok-column-in-Some-clause-found
returns-in_ok-column-in-Some-clause-found c =
    let it = c.args.file.now in
    let left = c.args.left in
    let sought = c.named-sought.result in
    let given = ap (λ n. materialized it c.args.column (option_copied n) left) c.in-Some.is in
    let whole = given ∙ materialized-some it c.args.column c.in-Some.name.now left ∙ ap (λ (s : Sought). go (stored it s left) shown) (sym c.named-sought.ensures.sought) in
    whole ∙ goes_on (stored it sought left) shown (c.in_ok-column-in-Some.column, c.in_ok-column-in-Some.left) c.in_ok-column-in-Some.ensures.found
