-- What the reader of row groups asks of each.
use Rattle.std.specs.Prelude.{ℕ, pos, ◌<◌, ◌≤ℤ◌, length}
use Rattle.parquet_meta.specs.declared.metadata.RowGroup.{RowGroup}

-- a row group with a chunk for the i-th leaf, and no negative count of rows
pub record HasChunk (i : ℕ) (group : RowGroup) : Type 0 where
  pub chunk : i < length group.chunks
  pub rows : pos 0 ≤ℤ group.rows
