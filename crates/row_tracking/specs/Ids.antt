-- The id and the commit version of each row of a file (PROTOCOL.md, "Row Tracking", its parts "Row IDs" and "Row Commit
-- Versions").
use Rattle.std.specs.Prelude.{ℕ, ◌-◌, ◌^◌, ℤ, pos, negsuc, ◌+ℤ◌, int_lt, Bool, ◌||◌, if◌then◌else◌, Option, IsSome, option_map, is_none, slice_index_or}
use Rattle.std.specs.Option.{option_or}
use Rattle.column_vectors.specs.Cells.{Cells}
use Rattle.delta_actions.specs.declared.action.AddAction.{AddAction}
use Rattle.dm_types.specs.Lanes.{kept_long}
use Rattle.dm_types.specs.declared.value.Value.TheVariants.{Null}
use Rattle.row_tracking.specs.declared.row_id.RowId.{RowId}

-- the action of a file lacks one of the two members that row tracking wants of each
abbrev pub lacks_base : AddAction → Bool
lacks_base add = is_none add.base_row_id || is_none add.default_row_commit_version

-- the whole number that a column has at a position, counted from 0; none where it is null
abbrev pub number_at : Cells → ℕ → Option ℤ
number_at column k = kept_long (slice_index_or column.values k Null)

-- the id of a row without a materialized one: the file's base row id plus the row's position. Past the greatest id it
-- is -1, which no row may have
abbrev pub id_from : ℤ → ℕ → ℤ
id_from base k = let id = base +ℤ pos k in if int_lt (pos (2 ^ 63 - 1)) id then negsuc 0 else id

-- the row at a position: its materialized id and commit version, and where one is null, that of the file
abbrev pub row_at : Option ℤ → Option ℤ → Cells → Cells → ℕ → RowId
row_at base version ids versions k = record {
  id = option_or (number_at ids k) (option_map (λ b. id_from b k) base);
  version = option_or (number_at versions k) version;
}

abbrev pub row_id_at : AddAction → Cells → Cells → ℕ → RowId
row_id_at add ids versions k = row_at add.base_row_id add.default_row_commit_version ids versions k

-- the row has an id and a commit version
abbrev pub IsKnown : RowId → Type 0
IsKnown row = IsSome row.id × IsSome row.version
