-- A column in one of the eight lanes.
use Rattle.std.specs.Prelude.{◌≡◌, Bool, true}
use Rattle.column_vectors.specs.Cells.{Cells}
use Rattle.column_vectors.specs.declared.lane_column.LaneColumn.{LaneColumn}
use Rattle.column_vectors.specs.declared.lane_column.LaneColumn.TheVariants as lane
use Rattle.dm_types.specs.Lanes.{is_bool, is_byte, is_short, is_int, is_long, is_decimal, is_text, is_bytes}
use Rattle.dm_types.specs.declared.value.DataType.{DataType}

abbrev pub cells_of : LaneColumn → Cells
cells_of (lane.Bool cells) = cells
cells_of (lane.Byte cells) = cells
cells_of (lane.Short cells) = cells
cells_of (lane.Int cells) = cells
cells_of (lane.Long cells) = cells
cells_of (lane.Decimal cells) = cells
cells_of (lane.Text cells) = cells
cells_of (lane.Bytes cells) = cells

-- whether the lane that a column is in serves a type
abbrev pub serves : LaneColumn → DataType → Bool
serves (lane.Bool cells) = is_bool
serves (lane.Byte cells) = is_byte
serves (lane.Short cells) = is_short
serves (lane.Int cells) = is_int
serves (lane.Long cells) = is_long
serves (lane.Decimal cells) = is_decimal
serves (lane.Text cells) = is_text
serves (lane.Bytes cells) = is_bytes

-- the lane serves the column's type
abbrev pub IsServed : LaneColumn → Type 0
IsServed column = serves column (cells_of column).kind ≡ true
