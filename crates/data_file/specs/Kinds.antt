-- The kinds of changes of a change file (PROTOCOL.md, "Change Data Files").
use Rattle.std.specs.Prelude.{ℕ, Bool, true, false, ◌||◌, List, codes, Option, None, Ok, Err, if◌then◌else◌}
use Rattle.std.specs.List.{list_all}
use Rattle.std.specs.Str.{bytes_eq}
use Rattle.column_vectors.specs.Cells.{Cells}
use Rattle.dm_types.specs.Then.{go}
use Rattle.dm_types.specs.declared.value.DataType.TheVariants as kind
use Rattle.dm_types.specs.declared.value.Value.{Value}
use Rattle.dm_types.specs.declared.value.Value.TheVariants as value
use Rattle.parquet_file.specs.File.{Opened}
use Rattle.data_file.specs.Room.{Answer}
use Rattle.data_file.specs.Stored.{asked, named, stored}
use Rattle.data_file.specs.declared.columns.TheConstants.{CHANGE_TYPE}
use Rattle.data_file.specs.declared.fault.PartColumn.TheVariants as part
use Rattle.data_file.specs.declared.fault.PartFault.TheVariants as fault
use Rattle.data_file.specs.declared.stored.Sought.{Sought}

-- what a row of a change file may be
abbrev pub is_kind_text : List ℕ → Bool
is_kind_text text =
    bytes_eq text (codes "insert") || bytes_eq text (codes "update_preimage")
    || bytes_eq text (codes "update_postimage") || bytes_eq text (codes "delete")

abbrev pub is_kind : Value → Bool
is_kind (value.Text text) = is_kind_text text
is_kind v = false

-- a column whose values are all kinds of changes
abbrev pub checked : Cells × ℕ → Answer (Cells × ℕ)
checked found = if list_all is_kind found.0.values then Ok found else Err (fault.Range part.ChangeType)

-- a column whose nulls are looked at behind its text
abbrev pub with_nulls : Sought → Sought
with_nulls sought = record {
  column = sought.column;
  kind = sought.kind;
  nullable = true;
  place = sought.place;
}

-- the kinds of changes, where they are asked for, and the room for text behind them: texts, which the file must hold;
-- whether each is a kind, and none is null, is looked at behind the room
unfoldable pub kinds : Opened → Bool → ℕ → Answer (Option Cells × ℕ)
kinds it wanted left =
    if wanted
    then asked (go (stored it (with_nulls (named part.ChangeType kind.Str false it.footer.leaves CHANGE_TYPE.now)) left)
    checked)
    else Ok (None, left)
