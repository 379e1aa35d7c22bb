use Rattle.std.proofs.Common.{arith, rules}
use Rattle.parquet_file.proofs.FilesBack.{rows-few, footer-made}
use Rattle.parquet_file.proofs.writing.footer_for.Goals as goal

pub overflow_cast-rows : goal.overflow_cast-rows
overflow_cast-rows c = omega (arith, rows-few c.args.columns.now c.requires.columns)

pub returns : goal.returns
returns c =
    footer-made c.args.columns.now c.args.chunks c.args.bytes c.rows_of-rows.result c.in_ok-leaves.leaves c.push.new.self c.requires.columns c.requires.bytes c.rows_of-rows.ensures c.in_ok-leaves.ensures (search rules)
