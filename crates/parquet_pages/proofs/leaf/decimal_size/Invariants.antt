use Rattle.std.proofs.Common.{◌≡◌, ◌-◌}
use Rattle.std.specs.List.{range_with_len}
use Rattle.parquet_pages.specs.Stored.{first_that, has_room}
use Rattle.parquet_pages.proofs.leaf.decimal_size.Given as goal

abbrev pub invariant-loop-bytes : goal.invariant-loop-bytes
invariant-loop-bytes l = first_that (has_room l.precision) (range_with_len 1 16) ≡ first_that (has_room l.precision) (range_with_len l.bytes (17 - l.bytes))
