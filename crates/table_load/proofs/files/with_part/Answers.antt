use Rattle.std.proofs.Common.{ap, length, ◌∙◌}
use Rattle.data_file.specs.Rows.{seen}
use Rattle.table_load.proofs.Ranged.{ids_count, reading_ok}
use Rattle.table_load.proofs.files.with_part.Goals as goal

pub returns-clause-reading : goal.returns-clause-reading
returns-clause-reading c =
    reading_ok c.args.head.now.schema c.args.before c.args.part.now c.in_ok-more.more c.extended.result c.requires.before c.requires.part
    (ap length c.in_ok-more.ensures ∙ ids_count c.args.head.now.snapshot c.args.add.now (seen c.args.part.now)) c.extended.ensures
