use Rattle.std.proofs.Common.{rules}
use Rattle.parquet_pages.specs.Views.{seen}
use Rattle.parquet_pages.proofs.Typed.{plain_typed, kept_typed}
use Rattle.parquet_pages.proofs.entries.take_plain.Goals as goal

pub keep-requires : goal.keep-requires
keep-requires c =
    let plain = plain_typed c.args.reading.now.kind c.args.annotation.now (seen c.args.value) c.in-Some.found (search rules) in
    kept_typed c.args.reading.now.kind c.args.reading.now.kept c.in-Some.found c.requires.1 plain.typed
