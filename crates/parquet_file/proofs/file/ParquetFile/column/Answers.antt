use Rattle.std.proofs.Common.{rules}
use Rattle.parquet_meta.specs.Meaning.{IsSound}
use Rattle.parquet_file.proofs.RowsHeld.{column_rows}
use Rattle.parquet_file.proofs.file.ParquetFile.column.Goals as goal

pub returns-clause-rows : goal.returns-clause-rows
returns-clause-rows c =
    let sound : IsSound c.args.self.now.footer = search rules in
    column_rows c.chunks_are_whole.ensures c.args.self.now c.args.i c.args.kind.now c.args.nullable c.args.text_left c.read_column.result sound c.requires.leaf c.read_column.ensures
