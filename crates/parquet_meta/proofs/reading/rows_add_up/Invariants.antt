use Rattle.std.proofs.Common.{◌≡◌, drop}
use Rattle.parquet_meta.specs.Meaning.{rows_add_up}
use Rattle.parquet_meta.proofs.reading.rows_add_up.Given as goal

abbrev pub invariant-loop-group : goal.invariant-loop-group
invariant-loop-group l = rows_add_up l.rows l.groups ≡ rows_add_up l.left (drop l.group-index l.groups)
