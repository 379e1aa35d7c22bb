use Rattle.data_file.specs.Wanted.{wanted}
use Rattle.data_file.proofs.Ranges.{part_ranged}
use Rattle.data_file.proofs.Types.{part_constants, part_types}
use Rattle.data_file.proofs.rows.read_rows.Goals as goal

pub returns-clause-types : goal.returns-clause-types
returns-clause-types c =
    part_types (wanted c.args.columns.now) c.args.values.now c.args.bytes.now c.args.room.now c.file_rows.result c.file_rows.ensures.part

pub returns-clause-constants : goal.returns-clause-constants
returns-clause-constants c =
    part_constants (wanted c.args.columns.now) c.args.values.now c.args.bytes.now c.args.room.now c.file_rows.result c.file_rows.ensures.part

pub returns-clause-ranges : goal.returns-clause-ranges
returns-clause-ranges c =
    part_ranged c.rows_are_ranged.ensures (wanted c.args.columns.now) c.args.values.now c.args.bytes.now c.args.room.now c.file_rows.result c.requires c.file_rows.ensures.part
