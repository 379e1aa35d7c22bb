use Rattle.std.proofs.Common.{◌≡◌, take}
use Rattle.parquet_pages.specs.Kept.{text_size}
use Rattle.data_file.proofs.texts.size_of_bytes.Given as goal

abbrev pub invariant-loop-row : goal.invariant-loop-row
invariant-loop-row l = l.size ≡ text_size (take l.row l.bytes.values)
