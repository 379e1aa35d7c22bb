use Rattle.std.proofs.Common.{rules, ◌≡◌, Err}
use Rattle.parquet_pages.specs.declared.kept.Reading.{Reading}
use Rattle.parquet_pages.proofs.Whole.{no_fit, chunk_failed, chunk_read}
use Rattle.parquet_pages.proofs.reader.read_chunk.Goals as goal

pub returns-then-not-fits : goal.returns-then-not-fits
returns-then-not-fits c = no_fit c.args.file.now c.args.chunk.now (record { kind = c.args.kind.now; nullable = c.args.nullable; leaf = c.args.leaf.now }) c.args.rows c.args.text_left (search rules)

pub returns-in_err-reader : goal.returns-in_err-reader
returns-in_err-reader c =
    let failed : c.from_residual.result ≡ Err c.in_err-reader.field-0.0 = search rules in
    rw failed (chunk_failed Reading c.args.file.now c.args.chunk.now (record { kind = c.args.kind.now; nullable = c.args.nullable; leaf = c.args.leaf.now }) c.args.rows c.args.text_left (λ reader. reader) c.in_err-reader.field-0.0 (search rules) (search rules))

pub returns : goal.returns
returns c = chunk_read c.args.file.now c.args.chunk.now (record { kind = c.args.kind.now; nullable = c.args.nullable; leaf = c.args.leaf.now }) c.args.rows c.args.text_left c.in_ok-reader.reader c.finish.result (search rules) (search rules) c.finish.ensures
