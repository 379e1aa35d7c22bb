use Rattle.std.proofs.Common.{◌∙◌, ap, length}
use Rattle.data_file.specs.Rows.{seen}
use Rattle.table_load.proofs.IdsSaid.{or_is, or_longs, says}
use Rattle.table_load.proofs.files.said_ids.Goals as goal

pub returns : goal.returns
returns c =
    let ids = c.column_or-ids.ensures ∙ or_is c.args.part.now.batch.rows c.args.nulls.now c.args.part.now.ids c.requires.nulls in
    let versions = c.column_or-versions.ensures ∙ or_is c.args.part.now.batch.rows c.args.nulls.now c.args.part.now.versions c.requires.nulls in
    let long = ap (λ cells. length cells.values) ids ∙ (or_longs c.args.part.now.batch.rows c.args.part.now.ids c.requires.part.ids).1 in
    says c.args.add.now (seen c.args.part.now) c.column_or-ids.result.now c.column_or-versions.result.now c.ids_of.result ids versions long c.ids_of.ensures.base c.ids_of.ensures.count c.ids_of.ensures.rows
