-- What is kept of a column that is read: its values, as long as their text is within the limit.
use Rattle.std.specs.Prelude.{◌≡◌, ℕ, ◌-◌, nat_le, Bool, List, [], ◌∷◌, ◌++◌, length, Option, Some, None, option_map, IfSome, Result, Ok, Err, if◌then◌else◌}
use Rattle.std.specs.List.{sum_by}
use Rattle.column_vectors.specs.Cells.{Cells}
use Rattle.dm_types.specs.Ranges.{IsWellFormed}
use Rattle.dm_types.specs.Then.{◌>>=◌}
use Rattle.dm_types.specs.declared.value.DataType.{DataType}
use Rattle.dm_types.specs.declared.value.Value.{Value}
use Rattle.dm_types.specs.declared.value.Value.TheVariants as value
use Rattle.parquet_pages.specs.declared.fault.FileFault.{FileFault}
use Rattle.parquet_pages.specs.declared.fault.FileFault.TheVariants as fault
use Rattle.parquet_pages.specs.declared.kept.KeptColumn.{KeptColumn}
use Rattle.parquet_pages.specs.declared.kept.Reading.{Reading}

abbrev pub text_bytes : Value → ℕ
text_bytes (value.Text t) = length t
text_bytes (value.Bytes b) = length b
text_bytes v = 0

-- how many bytes texts and bytes have together
abbrev pub text_size : List Value → ℕ
text_size values = sum_by text_bytes values

abbrev pub grown_by : List Value → KeptColumn → Option KeptColumn
grown_by more kept =
    if nat_le (text_size more) kept.text_left
    then Some (record {
      column = record { kind = kept.column.kind; values = kept.column.values ++ more };
      text_left = kept.text_left - text_size more;
    })
    else None

-- values more; None once their text has passed the limit
abbrev pub grown : List Value → Option KeptColumn → Option KeptColumn
grown more kept = kept >>= grown_by more

-- room for text taken from the limit
abbrev pub roomed : ℕ → Option KeptColumn → Option KeptColumn
roomed size kept =
    kept >>= λ it. if nat_le size it.text_left
    then Some (record { column = it.column; text_left = it.text_left - size })
    else None

-- a value more, for which there is room
abbrev pub with_value : Value → Option KeptColumn → Option KeptColumn
with_value v kept =
    option_map (λ it. record {
      column = record { kind = it.column.kind; values = it.column.values ++ v ∷ [] };
      text_left = it.text_left;
    }) kept

-- what is kept is a column of the type
abbrev pub IsKeptOf : DataType → Option KeptColumn → Type 0
IsKeptOf kind kept = IfSome kept (λ it. it.column.kind ≡ kind)

-- a column of a well-formed type, and what is kept of it
abbrev pub IsReading : Reading → Type 0
IsReading reading = IsWellFormed reading.kind × IsKeptOf reading.kind reading.kept

-- values more
abbrev pub with_more : List Value → Reading → Reading
with_more more reading = record { kind = reading.kind; nullable = reading.nullable; kept = grown more reading.kept }

-- nothing is read yet
abbrev pub begun : DataType → Bool → ℕ → Reading
begun kind nullable text_left = record {
  kind = kind;
  nullable = nullable;
  kept = Some (record { column = record { kind = kind; values = [] }; text_left = text_left });
}

-- the column, unless its text has passed the limit
abbrev pub finished : Option KeptColumn → Result Cells FileFault
finished None = Err fault.TextLimit
finished (Some kept) = Ok kept.column
