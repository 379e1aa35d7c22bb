use Rattle.parquet_meta.proofs.ReadLaws.{StructsAreRead, footer_found, footer_only}
use Rattle.parquet_meta.proofs.laws.footers_are_read.Goals as goal

pub returns : goal.returns
returns c =
    let law : StructsAreRead = record { found = c.structs_are_read.ensures.found; only = c.structs_are_read.ensures.only } in
    record { found = footer_found law; only = footer_only law }
