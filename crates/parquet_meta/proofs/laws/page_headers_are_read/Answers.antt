use Rattle.parquet_meta.proofs.ReadLaws.{StructsAreRead, header_found, header_only}
use Rattle.parquet_meta.proofs.laws.page_headers_are_read.Goals as goal

pub returns : goal.returns
returns c =
    let law : StructsAreRead = record { found = c.structs_are_read.ensures.found; only = c.structs_are_read.ensures.only } in
    record { found = header_found law; only = header_only law }
