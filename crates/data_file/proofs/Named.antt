-- A column that every mode finds by its name.
use Rattle.std.proofs.Common.{◌≡◌, ℕ, Bool, true, false, List, Option, Some, None, Ok, Err, refl}
use Rattle.std.specs.List.{list_all}
use Rattle.column_vectors.specs.Cells.{Cells}
use Rattle.dm_types.specs.Then.{go}
use Rattle.dm_types.specs.declared.value.DataType.TheVariants as kind
use Rattle.parquet_file.specs.File.{Opened}
use Rattle.data_file.specs.Kinds.{checked, is_kind, kinds, with_nulls}
use Rattle.data_file.specs.Room.{Answer}
use Rattle.data_file.specs.Stored.{materialized, named, stored}
use Rattle.data_file.specs.declared.columns.TheConstants.{CHANGE_TYPE}
use Rattle.data_file.specs.declared.fault.PartColumn.{PartColumn}
use Rattle.data_file.specs.declared.fault.PartColumn.TheVariants as part
use Rattle.data_file.specs.declared.fault.PartFault.TheVariants as fault
use Rattle.data_file.specs.declared.stored.Sought.{Sought}

pub materialized-none : (it : Opened) (column : PartColumn) (left : ℕ) → materialized it column None left ≡ Ok (None, left)
unfolding materialized
materialized-none it column left = refl

abbrev pub shown : Cells × ℕ → Answer (Option Cells × ℕ)
shown found = Ok (Some found.0, found.1)

pub materialized-some : (it : Opened) (column : PartColumn) (name : List ℕ) (left : ℕ) → materialized it column (Some name) left ≡ go (stored it (named column kind.Long true it.footer.leaves name) left) shown
unfolding materialized
materialized-some it column name left = refl

abbrev pub shown_checked : Cells × ℕ → Answer (Option Cells × ℕ)
shown_checked found = go (checked found) shown

-- the kinds of changes, as they are sought
abbrev pub kinds_sought : Opened → List ℕ → Sought
kinds_sought it name = with_nulls (named part.ChangeType kind.Str false it.footer.leaves name)

in_turn : (known : Answer (Cells × ℕ)) → go (go known checked) shown ≡ go known shown_checked
in_turn (Ok found) = refl
in_turn (Err f) = refl

pub kinds-none : (it : Opened) (wanted : Bool) (left : ℕ) → wanted ≡ false → kinds it wanted left ≡ Ok (None, left)
unfolding kinds
kinds-none it wanted left unwanted = rw unwanted refl

pub kinds-some : (it : Opened) (wanted : Bool) (left : ℕ) → wanted ≡ true → kinds it wanted left ≡ go (stored it (kinds_sought it CHANGE_TYPE.now) left) shown_checked
unfolding kinds
kinds-some it wanted left asked_for = rw asked_for (in_turn (stored it (kinds_sought it CHANGE_TYPE.now) left))

pub checked-good : (found : Cells × ℕ) → list_all is_kind found.0.values ≡ true → shown_checked found ≡ Ok (Some found.0, found.1)
checked-good found good = rw good refl

pub checked-bad : (found : Cells × ℕ) → list_all is_kind found.0.values ≡ false → shown_checked found ≡ Err (fault.Range part.ChangeType)
checked-bad found bad = rw bad refl
