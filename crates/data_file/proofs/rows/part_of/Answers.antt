use Rattle.std.proofs.Common.{◌∙◌, ℕ, List, Option, Ok, sym, ap, rules}
use Rattle.column_vectors.specs.Cells.{Cells}
use Rattle.data_file.specs.Kinds.{kinds}
use Rattle.data_file.specs.Room.{Answer}
use Rattle.data_file.specs.Rows.{Part, part_of, seen}
use Rattle.data_file.specs.Stored.{materialized}
use Rattle.data_file.specs.declared.fault.PartColumn.TheVariants as part
use Rattle.data_file.specs.declared.rows.PartRows.{PartRows}
use Rattle.data_file.specs.Wanted.{wanted}
use Rattle.data_file.proofs.Begun.{fails, goes_on}
use Rattle.data_file.proofs.Steps.{part_is, with_ids, with_kinds, with_versions}
use Rattle.data_file.proofs.rows.part_of.Goals as goal

pub returns-in_err-ids-clause-part : goal.returns-in_err-ids-clause-part
returns-in_err-ids-clause-part c =
    let it = c.args.file.now in
    let columns = wanted c.args.columns.now in
    let cells = c.args.room.cells in
    let table : List Cells × ℕ = (c.args.batch.columns, c.args.room.text) in
    let ids_known = materialized it part.Ids columns.ids c.args.room.text in
    let first = part_is it columns cells table in
    fails (Option Cells × ℕ) PartRows (λ found. found) seen ids_known (with_ids it columns cells table) (part_of it columns cells table) c.in_err-ids.field-0.0 c.from_residual.result first c.in_err-ids.ensures.found (search rules)

pub returns-in_err-versions-clause-part : goal.returns-in_err-versions-clause-part
returns-in_err-versions-clause-part c =
    let it = c.args.file.now in
    let columns = wanted c.args.columns.now in
    let cells = c.args.room.cells in
    let table : List Cells × ℕ = (c.args.batch.columns, c.args.room.text) in
    let ids_known = materialized it part.Ids columns.ids c.args.room.text in
    let first = part_is it columns cells table in
    let ids : Option Cells × ℕ = (c.in_ok-ids.ids, c.in_ok-ids.text) in
    let versions_known = materialized it part.Versions columns.versions c.in_ok-ids.text in
    let second = first ∙ goes_on ids_known (with_ids it columns cells table) ids c.in_ok-ids.ensures.found in
    fails (Option Cells × ℕ) PartRows (λ found. found) seen versions_known (with_versions it columns cells table ids) (part_of it columns cells table) c.in_err-versions.field-0.0 c.from_residual-in_err-versions.result second c.in_err-versions.ensures.found (search rules)

pub returns-in_err-kinds-clause-part : goal.returns-in_err-kinds-clause-part
returns-in_err-kinds-clause-part c =
    let it = c.args.file.now in
    let columns = wanted c.args.columns.now in
    let cells = c.args.room.cells in
    let table : List Cells × ℕ = (c.args.batch.columns, c.args.room.text) in
    let ids_known = materialized it part.Ids columns.ids c.args.room.text in
    let first = part_is it columns cells table in
    let ids : Option Cells × ℕ = (c.in_ok-ids.ids, c.in_ok-ids.text) in
    let versions_known = materialized it part.Versions columns.versions c.in_ok-ids.text in
    let second = first ∙ goes_on ids_known (with_ids it columns cells table) ids c.in_ok-ids.ensures.found in
    let versions : Option Cells × ℕ = (c.in_ok-versions.versions, c.in_ok-versions.text) in
    let kinds_known = kinds it columns.change c.in_ok-versions.text in
    let third = second ∙ goes_on versions_known (with_versions it columns cells table ids) versions c.in_ok-versions.ensures.found in
    fails (Option Cells × ℕ) PartRows (λ found. found) seen kinds_known (with_kinds it cells table ids versions) (part_of it columns cells table) c.in_err-kinds.field-0.0 c.from_residual-in_err-kinds.result third c.in_err-kinds.ensures.found (search rules)

pub returns-clause-part : goal.returns-clause-part
returns-clause-part c =
    let it = c.args.file.now in
    let columns = wanted c.args.columns.now in
    let cells = c.args.room.cells in
    let table : List Cells × ℕ = (c.args.batch.columns, c.args.room.text) in
    let ids_known = materialized it part.Ids columns.ids c.args.room.text in
    let first = part_is it columns cells table in
    let ids : Option Cells × ℕ = (c.in_ok-ids.ids, c.in_ok-ids.text) in
    let versions_known = materialized it part.Versions columns.versions c.in_ok-ids.text in
    let second = first ∙ goes_on ids_known (with_ids it columns cells table) ids c.in_ok-ids.ensures.found in
    let versions : Option Cells × ℕ = (c.in_ok-versions.versions, c.in_ok-versions.text) in
    let kinds_known = kinds it columns.change c.in_ok-versions.text in
    let third = second ∙ goes_on versions_known (with_versions it columns cells table ids) versions c.in_ok-versions.ensures.found in
    let last = goes_on kinds_known (with_kinds it cells table ids versions) (c.in_ok-kinds.kinds, c.in_ok-kinds.text) c.in_ok-kinds.ensures.found in
    let made : ℕ → Answer Part = λ rows. Ok (record {
      rows = rows;
      columns = c.args.batch.columns;
      ids = c.in_ok-ids.ids;
      versions = c.in_ok-versions.versions;
      kinds = c.in_ok-kinds.kinds;
      left = record { cells = cells; text = c.in_ok-kinds.text };
    }) in
    third ∙ last ∙ ap made (sym c.requires)
